-- A run in parts: what was done and what is left give the whole.
use Rattle.std.proofs.Common.{◌≡◌, ◌≢◌, ℕ, suc, ◌+◌, ◌-◌, ◌*◌, ◌<◌, Bool, true, List, [], ◌++◌, length, refl, sym, ap, ◌∙◌, subst, arith}
use Rattle.std.specs.Prelude.{Option, None}
use Rattle.std.proofs.lemmas.List.{append-nil, append_assoc}
use Rattle.byte_words.specs.ByteMap.{Bytes}
use Rattle.byte_words.specs.declared.access.Access.{Access}
use Rattle.rv32im_step.specs.declared.regs.Regs.{Regs}
use Rattle.rv32im_step.specs.declared.stop.Stop.{Stop}
use Rattle.rv32im_step.specs.declared.stop.Stop.TheVariants.{Next, Call, Trap, Refused}
use Rattle.rv32im_step.specs.Asked.{Asked, asked}
use Rattle.rv32im_step.specs.Meaning.{Meaning, next, call, trap, refused, meaning, Means}
use Rattle.mmap_rules.specs.declared.page_owner.PageOwner.{PageOwner}
use Rattle.region_watch.specs.declared.mode.Mode.{Mode}
use Rattle.region_watch.specs.declared.mode.Mode.TheVariants.{Halt}
use Rattle.region_watch.specs.Private.{passes, passed_bytes, kept_bytes}
use Rattle.region_watch.specs.Strays.{stray_after_all, stray_after_stop}
use Rattle.region_watch.specs.Instructions.{Ran, ran, instructions, asked_behind, all_asked}
use Rattle.region_watch.proofs.Runs.{none_done, run_goes, run_stops, asked_on, asked_stops}
use Rattle.region_watch.proofs.StepNotes.{step_halts}
use Rattle.watch_points.specs.declared.near.Near.{Near}
use Rattle.watch_points.specs.declared.span.Span.{Span}
use Rattle.watch_points.specs.declared.point.PointKind.{PointKind}
use Rattle.watch_points.specs.Points.{Found, hits_in, with_hits}
use Rattle.watch_points.specs.Near.{IsNear, near_in, seen_all, listed, told, rest_ran, rest_asked, behind_first, Left}
use Rattle.watch_points.proofs.HitLists.{with_hits-nil, with_hits-append}
use Rattle.watch_points.proofs.Told.{near_in-append, near_in-nil, told-append, told_all, seen_step}

-- ---- nothing is left

over_ran : (stop : Stop) (k : ℕ) (w : ℕ → Bool) (regs : Regs) (m : Bytes) → (stop ≡ Next → k ≡ 0) → rest_ran stop k w regs m ≡ ran regs m 0 stop
unfolding instructions
over_ran Next k w regs m over = rw (over refl) refl
over_ran Call k w regs m over = refl
over_ran (Trap signal) k w regs m over = refl
over_ran (Refused access) k w regs m over = refl

over_asked : (stop : Stop) (k : ℕ) (w : ℕ → Bool) (regs : Regs) (m : Bytes) → (stop ≡ Next → k ≡ 0) → rest_asked stop k w regs m ≡ []
unfolding all_asked
over_asked Next k w regs m over = rw (over refl) refl
over_asked Call k w regs m over = refl
over_asked (Trap signal) k w regs m over = refl
over_asked (Refused access) k w regs m over = refl

-- ---- before the first step

pub left_all : (n : ℕ) (mode : Mode) (table : List PageOwner) (regs : Regs) (mem : List ℕ) (first : Option Access) (near : Near)
    → Left n mode table regs mem first near 0 Next regs mem first []
left_all n mode table regs mem first near =
    let all : n - 0 ≡ n = omega arith in
    record {
      whole = rw all (none_done (instructions n (passes mode table true) regs (passed_bytes mode table mem)));
      frozen = refl;
      size = refl;
      strays = rw all refl;
      halts = λ halt. refl;
      told = rw all refl;
    }

-- ---- one part behind another

more_done : (k j : ℕ) (r : Ran) → behind_first (k + j) r ≡ behind_first k (behind_first j r)
more_done k j r = let sum : k + j + r.done ≡ k + (j + r.done) = omega arith in rw sum refl

pub left_on : (n : ℕ) (mode : Mode) (table : List PageOwner) (regs mid after : Regs) (mem half now : List ℕ) (first later last : Option Access) (near : Near)
    (done more : ℕ) (stop : Stop) (seen new : List Access) → Left n mode table regs mem first near done Next mid half later seen
    → Left (n - done) mode table mid half later near more stop after now last new → Left n mode table regs mem first near (done + more) stop after now last (seen ++ new)
left_on n mode table regs mid after mem half now first later last near done more stop seen new a b =
    let left : n - (done + more) ≡ n - done - more = omega arith in
    record {
      whole = rw left (more_done done more (rest_ran stop (n - done - more) (passes mode table true) after (passed_bytes mode table now)) ∙ ap (behind_first done) b.whole ∙ a.whole);
      frozen = b.frozen ∙ a.frozen;
      size = b.size ∙ a.size;
      strays = rw left (b.strays ∙ a.strays);
      halts = λ halt. b.halts halt ∙ ap (λ (f : Option Access). stray_after_stop f stop) (a.halts halt);
      told = rw left (append_assoc seen new (near_in near (rest_asked stop (n - done - more) (passes mode table true) after (passed_bytes mode table now)))
          ∙ ap (λ (zs : List Access). seen ++ zs) b.told ∙ a.told);
    }

-- ---- one step

-- what is known of a step
pub record Stepped (mode : Mode) (table : List PageOwner) (regs : Regs) (mem : List ℕ) (first : Option Access) (near : Near)
    (stop : Stop) (after : Regs) (now : List ℕ) (last seen : Option Access) : Type 0 where
  pub paged : length mem ≡ 4096 * length table
  pub means : Means (meaning regs (passed_bytes mode table mem) (passes mode table true)) regs after (passed_bytes mode table mem) (passed_bytes mode table now) stop
  pub frozen : kept_bytes mode table now ≡ kept_bytes mode table mem
  pub size : length now ≡ length mem
  pub strays : last ≡ stray_after_all table first (asked regs (passed_bytes mode table mem) (passes mode table true))
  pub sees : seen ≡ seen_all near None (asked regs (passed_bytes mode table mem) (passes mode table true))

-- in modes and under tables that are one
pub stepped : (mode was is : Mode) (table before behind : List PageOwner) (regs after : Regs) (mem now : List ℕ) (first last : Option Access) (near close : Near) (stop : Stop) (unseen seen : Option Access)
    → was ≡ mode → is ≡ was → before ≡ table → behind ≡ before → close ≡ near → unseen ≡ None → length mem ≡ 4096 * length before
    → Means (meaning regs (passed_bytes was before mem) (passes was before true)) regs after (passed_bytes was before mem) (passed_bytes is behind now) stop
    → kept_bytes is behind now ≡ kept_bytes was before mem → length now ≡ length mem
    → last ≡ stray_after_all before first (asked regs (passed_bytes was before mem) (passes was before true))
    → seen ≡ seen_all close unseen (asked regs (passed_bytes was before mem) (passes was before true))
    → Stepped mode table regs mem first near stop after now last seen
stepped mode was is table before behind regs after mem now first last near close stop unseen seen mode_was mode_is one two same fresh paged means frozen len noted sees = record {
  paged = rw one at paged;
  means = rw (mode_is, mode_was, two, one) at means;
  frozen = rw (mode_is, mode_was, two, one) at frozen;
  size = len;
  strays = rw (mode_was, one) at noted;
  sees = rw (mode_was, one, same, fresh) at sees;
}

behind_goes : (more : Regs → Bytes → List Asked) (x : Meaning) (regs after : Regs) (m now : Bytes) → Means x regs after m now Next → asked_behind more x ≡ more after now
behind_goes more (next regs' m') regs after m now is = rw (is.0, is.1) refl
behind_goes more call regs after m now is = absurd (let e = is.2 in cc)
behind_goes more (trap signal) regs after m now is = absurd (let e = is.2 in cc)
behind_goes more (refused access) regs after m now is = absurd (let e = is.2 in cc)

behind_stops : (more : Regs → Bytes → List Asked) (x : Meaning) (regs after : Regs) (m now : Bytes) (stop : Stop) → Means x regs after m now stop → stop ≢ Next → asked_behind more x ≡ []
behind_stops more (next regs' m') regs after m now stop is other = absurd (other is.2)
behind_stops more call regs after m now stop is other = refl
behind_stops more (trap signal) regs after m now stop is other = refl
behind_stops more (refused access) regs after m now stop is other = refl

near_goes : (n : ℕ) (w : ℕ → Bool) (near : Near) (regs after : Regs) (m now : Bytes) (seen : Option Access) → 0 < n → Means (meaning regs m w) regs after m now Next
    → seen ≡ seen_all near None (asked regs m w) → listed seen ++ near_in near (all_asked (n - 1) w after now) ≡ near_in near (all_asked n w regs m)
unfolding all_asked
near_goes n w near regs after m now seen some means is =
    let all : n ≡ suc (n - 1) = omega arith in
    let behind = behind_goes (λ r b. all_asked (n - 1) w r b) (meaning regs m w) regs after m now means in
    let here : near_in near (asked regs m w) ≡ listed seen = seen_step near regs m w ∙ ap listed (sym is) in
    ap (λ (zs : List Access). zs ++ near_in near (all_asked (n - 1) w after now)) (sym here)
    ∙ sym (near_in-append near (asked regs m w) (all_asked (n - 1) w after now))
    ∙ ap (λ (zs : List Asked). near_in near (asked regs m w ++ zs)) (sym behind)
    ∙ ap (λ (k : ℕ). near_in near (all_asked k w regs m)) (sym all)

near_stops : (n : ℕ) (w : ℕ → Bool) (near : Near) (regs after : Regs) (m now : Bytes) (stop : Stop) (seen : Option Access) → 0 < n → Means (meaning regs m w) regs after m now stop
    → stop ≢ Next → seen ≡ seen_all near None (asked regs m w) → listed seen ≡ near_in near (all_asked n w regs m)
unfolding all_asked
near_stops n w near regs after m now stop seen some means other is =
    let all : n ≡ suc (n - 1) = omega arith in
    let behind = behind_stops (λ r b. all_asked (n - 1) w r b) (meaning regs m w) regs after m now stop means other in
    let here : near_in near (asked regs m w) ≡ listed seen = seen_step near regs m w ∙ ap listed (sym is) in
    sym here
    ∙ ap (near_in near) (sym (append-nil (asked regs m w)))
    ∙ ap (λ (zs : List Asked). near_in near (asked regs m w ++ zs)) (sym behind)
    ∙ ap (λ (k : ℕ). near_in near (all_asked k w regs m)) (sym all)

pub step_goes : (n : ℕ) (mode : Mode) (table : List PageOwner) (regs after : Regs) (mem now : List ℕ) (first last : Option Access) (near : Near) (stop : Stop) (seen : Option Access)
    → 0 < n → Stepped mode table regs mem first near stop after now last seen → stop ≡ Next → Left n mode table regs mem first near 1 Next after now last (listed seen)
step_goes n mode table regs after mem now first last near stop seen some s is =
    let all : n - 0 ≡ n = omega arith in
    let whole = run_goes 0 n (passes mode table true) regs after (passed_bytes mode table mem) (passed_bytes mode table now) stop some s.means is in
    record {
      whole = sym whole ∙ rw all (none_done (instructions n (passes mode table true) regs (passed_bytes mode table mem)));
      frozen = s.frozen;
      size = s.size;
      strays = asked_on 0 n mode mode mode table table table mem now regs after stop first last _ some refl refl refl refl s.means is s.strays (rw all refl);
      halts = λ halt. step_halts mode table mem regs after (passed_bytes mode table now) first last stop halt s.paged s.means s.strays ∙ ap (stray_after_stop first) is;
      told = near_goes n (passes mode table true) near regs after (passed_bytes mode table mem) (passed_bytes mode table now) seen some (rw is at s.means) s.sees;
    }

pub step_stops : (n : ℕ) (mode : Mode) (table : List PageOwner) (regs after : Regs) (mem now : List ℕ) (first last : Option Access) (near : Near) (stop : Stop) (seen : Option Access)
    → 0 < n → Stepped mode table regs mem first near stop after now last seen → stop ≢ Next → Left n mode table regs mem first near 0 stop after now last (listed seen)
step_stops n mode table regs after mem now first last near stop seen some s other =
    let all : n - 0 ≡ n = omega arith in
    let over : stop ≡ Next → n - 0 ≡ 0 = λ is. absurd (other is) in
    let w : ℕ → Bool = passes mode table true in
    let nothing = over_asked stop (n - 0) w after (passed_bytes mode table now) over in
    let whole = run_stops 0 n w regs after (passed_bytes mode table mem) (passed_bytes mode table now) stop some s.means other in
    record {
      whole = ap (behind_first 0) (over_ran stop (n - 0) w after (passed_bytes mode table now) over) ∙ sym whole
          ∙ rw all (none_done (instructions n w regs (passed_bytes mode table mem)));
      frozen = s.frozen;
      size = s.size;
      strays = ap (stray_after_all table last) nothing ∙ asked_stops 0 n mode mode mode table table table mem now regs after stop first last _ some refl refl refl refl s.means other s.strays (rw all refl);
      halts = λ halt. step_halts mode table mem regs after (passed_bytes mode table now) first last stop halt s.paged s.means s.strays;
      told = ap (λ (zs : List Asked). listed seen ++ near_in near zs) nothing ∙ ap (λ (zs : List Access). listed seen ++ zs) (near_in-nil near) ∙ append-nil (listed seen)
          ∙ near_stops n w near regs after (passed_bytes mode table mem) (passed_bytes mode table now) stop seen some s.means other s.sees;
    }

-- a step behind those in which nothing near was seen
pub more_goes : (n done : ℕ) (mode : Mode) (table : List PageOwner) (regs mid after : Regs) (mem half now : List ℕ) (first later last : Option Access) (near : Near) (stop : Stop) (seen : Option Access)
    → done < n → Left n mode table regs mem first near done Next mid half later [] → Stepped mode table mid half later near stop after now last seen → stop ≡ Next
    → Left n mode table regs mem first near (done + 1) stop after now last (listed seen)
more_goes n done mode table regs mid after mem half now first later last near stop seen less a s is =
    subst (λ k. Left n mode table regs mem first near (done + 1) k after now last (listed seen)) (sym is)
    (left_on n mode table regs mid after mem half now first later last near done 1 Next [] (listed seen) a
    (step_goes (n - done) mode table mid after half now later last near stop seen (omega arith) s is))

-- the loop is still in a run
pub left_next : (n : ℕ) (mode : Mode) (table : List PageOwner) (regs after : Regs) (mem now : List ℕ) (first last : Option Access) (near : Near) (seen : List Access) (done : ℕ) (stop : Stop)
    → stop ≡ Next → Left n mode table regs mem first near done stop after now last seen → Left n mode table regs mem first near done Next after now last seen
left_next n mode table regs after mem now first last near seen done stop is a = subst (λ s. Left n mode table regs mem first near done s after now last seen) is a

-- and saw nothing near
pub left_unseen : (n : ℕ) (mode : Mode) (table : List PageOwner) (regs after : Regs) (mem now : List ℕ) (first last : Option Access) (near : Near) (done : ℕ) (stop : Stop) (seen : Option Access)
    → seen ≡ None → Left n mode table regs mem first near done stop after now last (listed seen) → Left n mode table regs mem first near done stop after now last []
left_unseen n mode table regs after mem now first last near done stop seen none a = subst (λ o. Left n mode table regs mem first near done stop after now last (listed o)) none a

pub more_stops : (n done : ℕ) (mode : Mode) (table : List PageOwner) (regs mid after : Regs) (mem half now : List ℕ) (first later last : Option Access) (near : Near) (stop : Stop) (seen : Option Access)
    → done < n → Left n mode table regs mem first near done Next mid half later [] → Stepped mode table mid half later near stop after now last seen → stop ≢ Next
    → Left n mode table regs mem first near done stop after now last (listed seen)
more_stops n done mode table regs mid after mem half now first later last near stop seen less a s other =
    let sum : done + 0 ≡ done = omega arith in
    subst (λ k. Left n mode table regs mem first near k stop after now last (listed seen)) sum
    (left_on n mode table regs mid after mem half now first later last near done 0 stop [] (listed seen) a
    (step_stops (n - done) mode table mid after half now later last near stop seen (omega arith) s other))

-- ---- the end

-- what was done, and what was told of it
pub record Reached (n : ℕ) (mode : Mode) (table : List PageOwner) (regs : Regs) (mem : List ℕ) (first : Option Access) (near : Near) (kind : PointKind) (spans : List Span) (pid : ℕ) (found : Found)
    (done : ℕ) (stop : Stop) (after : Regs) (now : List ℕ) (last : Option Access) (kept : Found) : Type 0 where
  pub seen : List Access
  pub left : Left n mode table regs mem first near done stop after now last seen
  pub hits : kept ≡ with_hits found (told kind spans pid seen)

told_none : (kind : PointKind) (spans : List Span) (pid : ℕ) → told kind spans pid [] ≡ []
unfolding told
told_none kind spans pid = refl

pub reached_all : (n : ℕ) (mode : Mode) (table : List PageOwner) (regs : Regs) (mem : List ℕ) (first : Option Access) (near : Near) (kind : PointKind) (spans : List Span) (pid : ℕ) (found : Found)
    → Reached n mode table regs mem first near kind spans pid found 0 Next regs mem first found
reached_all n mode table regs mem first near kind spans pid found = record {
  seen = [];
  left = left_all n mode table regs mem first near;
  hits = sym (ap (with_hits found) (told_none kind spans pid) ∙ with_hits-nil found);
}

-- a part more, in modes and under tables that are one
pub reached_on : (n : ℕ) (mode was : Mode) (table before : List PageOwner) (regs mid after : Regs) (mem half now : List ℕ) (first later last : Option Access) (near : Near)
    (kind : PointKind) (spans : List Span) (pid : ℕ) (found some kept : Found) (done more : ℕ) (stop : Stop) (new : Option Access) → was ≡ mode → before ≡ table
    → Reached n mode table regs mem first near kind spans pid found done Next mid half later some
    → Left (n - done) was before mid half later near more stop after now last (listed new)
    → kept ≡ with_hits some (told kind spans pid (listed new))
    → Reached n mode table regs mem first near kind spans pid found (done + more) stop after now last kept
reached_on n mode was table before regs mid after mem half now first later last near kind spans pid found some kept done more stop new same one a b adds = record {
  seen = a.seen ++ listed new;
  left = left_on n mode table regs mid after mem half now first later last near done more stop a.seen (listed new) a.left (rw (same, one) at b);
  hits = adds ∙ ap (λ (f : Found). with_hits f (told kind spans pid (listed new))) a.hits
      ∙ sym (with_hits-append found (told kind spans pid a.seen) (told kind spans pid (listed new)))
      ∙ ap (with_hits found) (sym (told-append kind spans pid a.seen (listed new)));
}

pub reached_leaves : (n : ℕ) (mode : Mode) (table : List PageOwner) (regs after : Regs) (mem now : List ℕ) (first last : Option Access) (near : Near) (kind : PointKind) (spans : List Span) (pid : ℕ)
    (found kept : Found) (done : ℕ) (stop : Stop) → (stop ≡ Next → n - done ≡ 0)
    → Reached n mode table regs mem first near kind spans pid found done stop after now last kept
    → ran after (passed_bytes mode table now) done stop ≡ instructions n (passes mode table true) regs (passed_bytes mode table mem)
reached_leaves n mode table regs after mem now first last near kind spans pid found kept done stop over r =
    let sum : done + 0 ≡ done = omega arith in
    let here : behind_first done (ran after (passed_bytes mode table now) 0 stop) ≡ ran after (passed_bytes mode table now) done stop = rw sum refl in
    sym here ∙ ap (behind_first done) (sym (over_ran stop (n - done) (passes mode table true) after (passed_bytes mode table now) over)) ∙ r.left.whole

pub reached_first : (n : ℕ) (mode : Mode) (table : List PageOwner) (regs after : Regs) (mem now : List ℕ) (first last : Option Access) (near : Near) (kind : PointKind) (spans : List Span) (pid : ℕ)
    (found kept : Found) (done : ℕ) (stop : Stop) → (stop ≡ Next → n - done ≡ 0)
    → Reached n mode table regs mem first near kind spans pid found done stop after now last kept
    → last ≡ stray_after_all table first (all_asked n (passes mode table true) regs (passed_bytes mode table mem))
reached_first n mode table regs after mem now first last near kind spans pid found kept done stop over r =
    ap (stray_after_all table last) (sym (over_asked stop (n - done) (passes mode table true) after (passed_bytes mode table now) over)) ∙ r.left.strays

pub reached_hits : (n : ℕ) (mode : Mode) (table : List PageOwner) (regs after : Regs) (mem now : List ℕ) (first last : Option Access) (near : Near) (kind : PointKind) (spans : List Span) (pid : ℕ)
    (found kept : Found) (done : ℕ) (stop : Stop) → (stop ≡ Next → n - done ≡ 0) → IsNear near spans
    → Reached n mode table regs mem first near kind spans pid found done stop after now last kept
    → kept ≡ with_hits found (hits_in kind spans pid (all_asked n (passes mode table true) regs (passed_bytes mode table mem)))
reached_hits n mode table regs after mem now first last near kind spans pid found kept done stop over is r =
    let w : ℕ → Bool = passes mode table true in
    let nothing = over_asked stop (n - done) w after (passed_bytes mode table now) over in
    let all : r.seen ≡ near_in near (all_asked n w regs (passed_bytes mode table mem)) =
    sym (append-nil r.seen) ∙ ap (λ (zs : List Access). r.seen ++ zs) (sym (near_in-nil near)) ∙ ap (λ (zs : List Asked). r.seen ++ near_in near zs) (sym nothing) ∙ r.left.told in
    r.hits ∙ ap (λ (zs : List Access). with_hits found (told kind spans pid zs)) all ∙ ap (with_hits found) (told_all kind spans pid near n w regs (passed_bytes mode table mem) is)

-- the loop goes on
pub reached_next : (n : ℕ) (mode : Mode) (table : List PageOwner) (regs after : Regs) (mem now : List ℕ) (first last : Option Access) (near : Near) (kind : PointKind) (spans : List Span) (pid : ℕ)
    (found kept : Found) (done : ℕ) (stop : Stop) → stop ≡ Next
    → Reached n mode table regs mem first near kind spans pid found done stop after now last kept → Reached n mode table regs mem first near kind spans pid found done Next after now last kept
reached_next n mode table regs after mem now first last near kind spans pid found kept done stop is r =
    subst (λ k. Reached n mode table regs mem first near kind spans pid found done k after now last kept) is r

pub reached_end : (n : ℕ) (mode : Mode) (table : List PageOwner) (regs after : Regs) (mem now : List ℕ) (first last : Option Access) (near : Near) (kind : PointKind) (spans : List Span) (pid : ℕ)
    (found kept : Found) (done : ℕ) → done ≡ n
    → Reached n mode table regs mem first near kind spans pid found done Next after now last kept → Reached n mode table regs mem first near kind spans pid found n Next after now last kept
reached_end n mode table regs after mem now first last near kind spans pid found kept done all r =
    subst (λ k. Reached n mode table regs mem first near kind spans pid found k Next after now last kept) all r

-- what `run_watched` promises of it
pub record Told (n : ℕ) (mode : Mode) (table : List PageOwner) (regs : Regs) (mem : List ℕ) (first : Option Access) (kind : PointKind) (spans : List Span) (pid : ℕ) (found : Found)
    (done : ℕ) (stop : Stop) (after : Regs) (now : List ℕ) (last : Option Access) (kept : Found) : Type 0 where
  pub leaves : ran after (passed_bytes mode table now) done stop ≡ instructions n (passes mode table true) regs (passed_bytes mode table mem)
  pub frozen : kept_bytes mode table now ≡ kept_bytes mode table mem
  pub size : length now ≡ length mem
  pub strays : last ≡ stray_after_all table first (all_asked n (passes mode table true) regs (passed_bytes mode table mem))
  pub halts : mode ≡ Halt → last ≡ stray_after_stop first stop
  pub hits : kept ≡ with_hits found (hits_in kind spans pid (all_asked n (passes mode table true) regs (passed_bytes mode table mem)))

pub reached_told : (n : ℕ) (mode : Mode) (table : List PageOwner) (regs after : Regs) (mem now : List ℕ) (first last : Option Access) (near : Near) (kind : PointKind) (spans : List Span) (pid : ℕ)
    (found kept : Found) (done : ℕ) (stop : Stop) → (stop ≡ Next → n - done ≡ 0) → IsNear near spans
    → Reached n mode table regs mem first near kind spans pid found done stop after now last kept → Told n mode table regs mem first kind spans pid found done stop after now last kept
reached_told n mode table regs after mem now first last near kind spans pid found kept done stop over is r = record {
  leaves = reached_leaves n mode table regs after mem now first last near kind spans pid found kept done stop over r;
  frozen = r.left.frozen;
  size = r.left.size;
  strays = reached_first n mode table regs after mem now first last near kind spans pid found kept done stop over r;
  halts = r.left.halts;
  hits = reached_hits n mode table regs after mem now first last near kind spans pid found kept done stop over is r;
}
