-- For the private functions: the accesses near what is watched, and what is left of a run that left its loop.
use Rattle.std.specs.Prelude.{◌≡◌, ℕ, ◌+◌, ◌-◌, ◌^◌, ◌%◌, ◌<◌, Bool, true, ◌&&◌, nat_le, nat_lt, if◌then◌else◌, Option, Some, None, List, [], ◌∷◌, ◌++◌, map, filter, length}
use Rattle.std.specs.List.{list_any}
use Rattle.std.proofs.Common.{refl, ap, sym, ◌∙◌}
use Rattle.byte_words.specs.ByteMap.{Bytes}
use Rattle.byte_words.specs.declared.access.Access.{Access}
use Rattle.rv32im_step.specs.declared.regs.Regs.{Regs}
use Rattle.rv32im_step.specs.declared.stop.Stop.{Stop}
use Rattle.rv32im_step.specs.declared.stop.Stop.TheVariants.{Next}
use Rattle.rv32im_step.specs.Asked.{Asked}
use Rattle.mmap_rules.specs.declared.page_owner.PageOwner.{PageOwner}
use Rattle.region_watch.specs.declared.mode.Mode.{Mode}
use Rattle.region_watch.specs.declared.mode.Mode.TheVariants.{Halt}
use Rattle.region_watch.specs.Private.{passes, passed_bytes, kept_bytes}
use Rattle.region_watch.specs.Strays.{stray_after_all, stray_after_stop}
use Rattle.region_watch.specs.Instructions.{Ran, ran, instructions, all_asked}
use Rattle.watch_points.specs.declared.near.Near.{Near}
use Rattle.watch_points.specs.declared.span.Span.{Span}
use Rattle.watch_points.specs.declared.hits.Hit.{Hit}
use Rattle.watch_points.specs.declared.point.PointKind.{PointKind}
use Rattle.watch_points.specs.Points.{IsShort, hit, is_data}

-- an access whose first byte is at this address is near
abbrev pub near_to : Near → ℕ → Bool
near_to near a = nat_le ((a + 2 ^ 32 - near.low) % 2 ^ 32) near.last

-- whatever hits is near
abbrev pub IsNear : Near → List Span → Type 0
IsNear near spans = (kind : PointKind) (addr len : ℕ) → IsShort addr len → hit kind spans addr len ≡ true → near_to near addr ≡ true

-- the addresses that are near are exactly those from 3 below the lowest span on, up to the last byte of the highest
abbrev pub HasBounds : Near → List Span → Type 0
HasBounds near spans = 0 < length spans → (a : ℕ) → a < 2 ^ 32
    → near_to near a ≡ (list_any (λ span. nat_le span.addr (a + 3)) spans && list_any (λ span. nat_lt a (span.addr + span.len)) spans)

-- a load or store that was carried out near
abbrev pub is_near : Near → Asked → Bool
is_near near one = is_data one.access.kind && one.done && near_to near one.access.addr

-- those among these accesses, in their order
unfoldable pub near_in : Near → List Asked → List Access
near_in near asked = map (λ one. one.access) (filter (is_near near) asked)

-- the last of them, after one that was seen before
abbrev pub seen_one : Near → Option Access → Asked → Option Access
seen_one near seen one = if is_near near one then Some one.access else seen

abbrev pub seen_all : Near → Option Access → List Asked → Option Access
seen_all near seen [] = seen
seen_all near seen (one ∷ more) = seen_all near (seen_one near seen one) more

-- two lists, one after the other: a law, for a bus that makes both
seen_both : (near : Near) (seen : Option Access) (xs ys : List Asked) → seen_all near seen (xs ++ ys) ≡ seen_all near (seen_all near seen xs) ys
seen_both near seen [] ys = refl
seen_both near seen (x ∷ xs) ys = seen_both near (seen_one near seen x) xs ys

pub seen_on : (near next : Near) (a b c : Option Access) (xs ys : List Asked) → next ≡ near → b ≡ seen_all near a xs → c ≡ seen_all next b ys → c ≡ seen_all near a (xs ++ ys)
seen_on near next a b c xs ys same p q =
    q ∙ ap (λ (n : Near). seen_all n b ys) same ∙ ap (λ (seen : Option Access). seen_all near seen ys) p ∙ sym (seen_both near a xs ys)

-- how many instructions may be carried out in all: none is to follow one that was seen
abbrev pub end_one : Near → ℕ → Asked → ℕ
end_one near end one = if is_near near one then 0 else end

abbrev pub end_all : Near → ℕ → List Asked → ℕ
end_all near end [] = end
end_all near end (one ∷ more) = end_all near (end_one near end one) more

abbrev pub end_at : ℕ → Option Access → ℕ
end_at n None = n
end_at n (Some access) = 0

end_both : (near : Near) (end : ℕ) (xs ys : List Asked) → end_all near end (xs ++ ys) ≡ end_all near (end_all near end xs) ys
end_both near end [] ys = refl
end_both near end (x ∷ xs) ys = end_both near (end_one near end x) xs ys

pub end_on : (near next : Near) (a b c : ℕ) (xs ys : List Asked) → next ≡ near → b ≡ end_all near a xs → c ≡ end_all next b ys → c ≡ end_all near a (xs ++ ys)
end_on near next a b c xs ys same p q =
    q ∙ ap (λ (n : Near). end_all n b ys) same ∙ ap (λ (end : ℕ). end_all near end ys) p ∙ sym (end_both near a xs ys)

-- one or none as a list
abbrev pub listed : Option Access → List Access
listed None = []
listed (Some access) = access ∷ []

-- those of such accesses of a process that hit
unfoldable pub told : PointKind → List Span → ℕ → List Access → List Hit
told kind spans pid accesses = map (λ access. record { pid = pid; access = access }) (filter (λ access. hit kind spans access.addr access.len) accesses)

-- ---- a run that left its loop: after `Next` n instructions are left of it, else none is

abbrev pub rest_ran : Stop → ℕ → (ℕ → Bool) → Regs → Bytes → Ran
rest_ran Next n w regs m = instructions n w regs m
rest_ran other n w regs m = ran regs m 0 other

abbrev pub rest_asked : Stop → ℕ → (ℕ → Bool) → Regs → Bytes → List Asked
rest_asked Next n w regs m = all_asked n w regs m
rest_asked other n w regs m = []

-- k instructions were carried out before
abbrev pub behind_first : ℕ → Ran → Ran
behind_first k r = record r { done = k + r.done }

-- `done` instructions of `n` were carried out, and the last step ended so: these and those that are left give the whole
pub record Left (n : ℕ) (mode : Mode) (table : List PageOwner) (regs : Regs) (mem : List ℕ) (first : Option Access) (near : Near)
    (done : ℕ) (stop : Stop) (after : Regs) (now : List ℕ) (last : Option Access) (seen : List Access) : Type 0 where
  pub whole : behind_first done (rest_ran stop (n - done) (passes mode table true) after (passed_bytes mode table now))
      ≡ instructions n (passes mode table true) regs (passed_bytes mode table mem)
  pub frozen : kept_bytes mode table now ≡ kept_bytes mode table mem
  pub size : length now ≡ length mem
  pub strays : stray_after_all table last (rest_asked stop (n - done) (passes mode table true) after (passed_bytes mode table now))
      ≡ stray_after_all table first (all_asked n (passes mode table true) regs (passed_bytes mode table mem))
  pub halts : mode ≡ Halt → last ≡ stray_after_stop first stop
  pub told : seen ++ near_in near (rest_asked stop (n - done) (passes mode table true) after (passed_bytes mode table now))
      ≡ near_in near (all_asked n (passes mode table true) regs (passed_bytes mode table mem))
