-- The accesses near what is watched tell the hits.
use Rattle.std.proofs.Common.{◌≡◌, ℕ, Bool, true, false, ◌&&◌, List, [], ◌∷◌, ◌++◌, ◌<◌, ◌≤◌, ◌⊎◌, inl, inr, map, refl, ap, sym, ◌∙◌, subst, arith}
use Rattle.std.specs.Prelude.{filter, cond, if◌then◌else◌, is_some, Option, Some, None, IfSome}
use Rattle.std.specs.List.{AllByRecursion as Each}
use Rattle.std.proofs.lemmas.List.{map-append}
use Rattle.std.proofs.lemmas.List.Elements.{filter-append}
use Rattle.byte_words.specs.declared.access.Access.{Access}
use Rattle.rv32im_step.specs.declared.regs.Regs.{Regs}
use Rattle.rv32im_step.specs.Asked.{Asked, fetched_asked, asked}
use Rattle.rv32im_step.specs.Memory.{fetch_of, loaded}
use Rattle.byte_words.specs.ByteMap.{Bytes}
use Rattle.region_watch.specs.Instructions.{all_asked}
use Rattle.watch_points.specs.declared.hits.Hit.{Hit}
use Rattle.watch_points.specs.declared.near.Near.{Near}
use Rattle.watch_points.specs.declared.span.Span.{Span}
use Rattle.watch_points.specs.declared.point.PointKind.{PointKind}
use Rattle.watch_points.specs.Points.{Found, IsShort, hit, is_data, is_hit, hits_in, with_hits}
use Rattle.watch_points.specs.Near.{IsNear, near_to, is_near, near_in, seen_one, seen_all, end_one, end_all, end_at, listed, told}
use Rattle.watch_points.proofs.HitLists.{with_hits-nil}
use Rattle.watch_points.proofs.Asked.{Short, short_all, AtMostOne, one_fetched}

pub near_in-append : (near : Near) (xs ys : List Asked) → near_in near (xs ++ ys) ≡ near_in near xs ++ near_in near ys
unfolding near_in
near_in-append near xs ys = rw (filter-append (is_near near) xs ys) (map-append _ (filter (is_near near) xs) (filter (is_near near) ys))

pub near_in-nil : (near : Near) → near_in near [] ≡ []
unfolding near_in
near_in-nil near = refl

pub told-append : (kind : PointKind) (spans : List Span) (pid : ℕ) (xs ys : List Access) → told kind spans pid (xs ++ ys) ≡ told kind spans pid xs ++ told kind spans pid ys
unfolding told
told-append kind spans pid xs ys = rw (filter-append _ xs ys) (map-append _ (filter _ xs) (filter _ ys))

-- ---- of what is near the hits are told

near_more : (near : Near) (x : Asked) (xs : List Asked) → near_in near (x ∷ xs) ≡ cond (is_near near x) (x.access ∷ near_in near xs) (near_in near xs)
unfolding near_in
near_more near x xs = by (is_near near x)
  where
    by : (test : Bool) → map (λ (one : Asked). one.access) (cond test (x ∷ filter (is_near near) xs) (filter (is_near near) xs))
        ≡ cond test (x.access ∷ map (λ (one : Asked). one.access) (filter (is_near near) xs)) (map (λ (one : Asked). one.access) (filter (is_near near) xs))
    by true = refl
    by false = refl

hits_more : (kind : PointKind) (spans : List Span) (pid : ℕ) (x : Asked) (xs : List Asked)
    → hits_in kind spans pid (x ∷ xs) ≡ cond (is_hit kind spans x) (record { pid = pid; access = x.access } ∷ hits_in kind spans pid xs) (hits_in kind spans pid xs)
unfolding hits_in
hits_more kind spans pid x xs = by (is_hit kind spans x)
  where
    named : Asked → Hit
    named one = record { pid = pid; access = one.access }

    by : (test : Bool) → map named (cond test (x ∷ filter (is_hit kind spans) xs) (filter (is_hit kind spans) xs))
        ≡ cond test (named x ∷ map named (filter (is_hit kind spans) xs)) (map named (filter (is_hit kind spans) xs))
    by true = refl
    by false = refl

told_more : (kind : PointKind) (spans : List Span) (pid : ℕ) (x : Access) (xs : List Access)
    → told kind spans pid (x ∷ xs) ≡ cond (hit kind spans x.addr x.len) (record { pid = pid; access = x } ∷ told kind spans pid xs) (told kind spans pid xs)
unfolding told
told_more kind spans pid x xs = by (hit kind spans x.addr x.len)
  where
    named : Access → Hit
    named access = record { pid = pid; access = access }

    test_of : Access → Bool
    test_of access = hit kind spans access.addr access.len

    by : (test : Bool) → map named (cond test (x ∷ filter test_of xs) (filter test_of xs))
        ≡ cond test (named x ∷ map named (filter test_of xs)) (map named (filter test_of xs))
    by true = refl
    by false = refl

told_one : (kind : PointKind) (spans : List Span) (pid : ℕ) (near : Near) (x : Asked) (xs : List Asked) → IsNear near spans → Short x
    → told kind spans pid (near_in near xs) ≡ hits_in kind spans pid xs → told kind spans pid (near_in near (x ∷ xs)) ≡ hits_in kind spans pid (x ∷ xs)
told_one kind spans pid near x xs is short rest =
    ap (told kind spans pid) (near_more near x xs) ∙ by (is_data x.access.kind) x.done (near_to near x.access.addr) (hit kind spans x.access.addr x.access.len) refl refl refl refl ∙ sym (hits_more kind spans pid x xs)
  where
    more : List Access
    more = near_in near xs

    same : Hit
    same = record { pid = pid; access = x.access }

    by : (loads done close hits : Bool) → is_data x.access.kind ≡ loads → x.done ≡ done → near_to near x.access.addr ≡ close → hit kind spans x.access.addr x.access.len ≡ hits
        → told kind spans pid (cond (loads && done && close) (x.access ∷ more) more) ≡ cond (loads && done && hits) (same ∷ hits_in kind spans pid xs) (hits_in kind spans pid xs)
    by true true true true a b c d = told_more kind spans pid x.access more ∙ rw (d, rest) refl
    by true true true false a b c d = told_more kind spans pid x.access more ∙ rw (d, rest) refl
    by true true false true a b c d = absurd (let e = is kind x.access.addr x.access.len (short b) d in let f = sym c ∙ e in cc)
    by true true false false a b c d = rest
    by true false close hits a b c d = rest
    by false done close hits a b c d = rest

told_nil : (kind : PointKind) (spans : List Span) (pid : ℕ) → told kind spans pid [] ≡ []
unfolding told
told_nil kind spans pid = refl

-- what is added of one access, or of none
pub tell_hit : (kind : PointKind) (spans : List Span) (pid : ℕ) (seen : Option Access) (access : Access) (found : Found) → seen ≡ Some access → hit kind spans access.addr access.len ≡ true
    → with_hits found (record { pid = pid; access = access } ∷ []) ≡ with_hits found (told kind spans pid (listed seen))
tell_hit kind spans pid seen access found there is =
    ap (with_hits found) (sym (ap (λ (s : Option Access). told kind spans pid (listed s)) there ∙ told_more kind spans pid access [] ∙ rw (is, told_nil kind spans pid) refl))

pub tell_miss : (kind : PointKind) (spans : List Span) (pid : ℕ) (seen : Option Access) (access : Access) (found : Found) → seen ≡ Some access → hit kind spans access.addr access.len ≡ false
    → found ≡ with_hits found (told kind spans pid (listed seen))
tell_miss kind spans pid seen access found there is =
    sym (ap (with_hits found) (ap (λ (s : Option Access). told kind spans pid (listed s)) there ∙ told_more kind spans pid access [] ∙ rw (is, told_nil kind spans pid) refl) ∙ with_hits-nil found)

pub tell_none : (kind : PointKind) (spans : List Span) (pid : ℕ) (seen : Option Access) (found : Found) → seen ≡ None → found ≡ with_hits found (told kind spans pid (listed seen))
tell_none kind spans pid seen found none =
    sym (ap (with_hits found) (ap (λ (s : Option Access). told kind spans pid (listed s)) none ∙ told_nil kind spans pid) ∙ with_hits-nil found)

told_near : (kind : PointKind) (spans : List Span) (pid : ℕ) (near : Near) (xs : List Asked) → IsNear near spans → Each Short xs
    → told kind spans pid (near_in near xs) ≡ hits_in kind spans pid xs
unfolding near_in told hits_in
told_near kind spans pid near [] is short = refl
told_near kind spans pid near (x ∷ xs) is short = told_one kind spans pid near x xs is short.0 (told_near kind spans pid near xs is short.1)

pub told_all : (kind : PointKind) (spans : List Span) (pid : ℕ) (near : Near) (n : ℕ) (w : ℕ → Bool) (regs : Regs) (m : Bytes) → IsNear near spans
    → told kind spans pid (near_in near (all_asked n w regs m)) ≡ hits_in kind spans pid (all_asked n w regs m)
told_all kind spans pid near n w regs m is = told_near kind spans pid near (all_asked n w regs m) is (short_all n w regs m)

-- ---- what is near is short

abbrev ShortAccess : Access → Type 0
ShortAccess access = IsShort access.addr access.len

short_near : (near : Near) (xs : List Asked) → Each Short xs → Each ShortAccess (near_in near xs)
unfolding near_in
short_near near [] short = tt
short_near near (x ∷ xs) short = subst (Each ShortAccess) (sym (near_more near x xs)) (by (is_data x.access.kind) x.done (near_to near x.access.addr) refl (short_near near xs short.1))
  where
    by : (loads done close : Bool) → x.done ≡ done → Each ShortAccess (near_in near xs) → Each ShortAccess (cond (loads && done && close) (x.access ∷ near_in near xs) (near_in near xs))
    by true true true is rest = (short.0 is, rest)
    by true true false is rest = rest
    by true false close is rest = rest
    by false done close is rest = rest

pub seen_short : (seen : Option Access) (rest : List Access) (near : Near) (n : ℕ) (w : ℕ → Bool) (regs : Regs) (m : Bytes)
    → listed seen ++ rest ≡ near_in near (all_asked n w regs m) → IfSome seen (λ access. IsShort access.addr access.len)
seen_short None rest near n w regs m is = tt
seen_short (Some access) rest near n w regs m is = (subst (Each ShortAccess) (sym is) (short_near near (all_asked n w regs m) (short_all n w regs m))).0

-- ---- a step: what was seen is what is near

seen_single : (near : Near) (xs : List Asked) → AtMostOne xs → near_in near xs ≡ listed (seen_all near None xs)
unfolding near_in
seen_single near [] one = refl
seen_single near (x ∷ xs) one = rw one (near_more near x [] ∙ by (is_near near x))
  where
    by : (test : Bool) → cond test (x.access ∷ []) [] ≡ listed (if test then Some x.access else None)
    by true = refl
    by false = refl

pub seen_step : (near : Near) (regs : Regs) (m : Bytes) (w : ℕ → Bool) → near_in near (asked regs m w) ≡ listed (seen_all near None (asked regs m w))
unfolding near_in asked
seen_step near regs m w = seen_single near (fetched_asked (loaded m (fetch_of regs.pc)) regs m w) (one_fetched (loaded m (fetch_of regs.pc)) regs m w)

pub none_seen : (seen : Option Access) → is_some seen ≡ false → seen ≡ None
none_seen None is = refl
none_seen (Some access) is = absurd (let e = is in cc)

-- ---- where the loop ends

ends_one : (near : Near) (n : ℕ) (seen : Option Access) (x : Asked) → end_at n (seen_one near seen x) ≡ end_one near (end_at n seen) x
ends_one near n seen x = by (is_near near x)
  where
    by : (test : Bool) → end_at n (if test then Some x.access else seen) ≡ (if test then 0 else end_at n seen)
    by true = refl
    by false = refl

-- the end is that of what was seen
pub ends_all : (near : Near) (n : ℕ) (seen : Option Access) (xs : List Asked) → end_at n (seen_all near seen xs) ≡ end_all near (end_at n seen) xs
ends_all near n seen [] = refl
ends_all near n seen (x ∷ xs) = ends_all near n (seen_one near seen x) xs ∙ ap (λ (end : ℕ). end_all near end xs) (ends_one near n seen x)

pub ends_on : (near : Near) (n : ℕ) (unseen seen : Option Access) (end next : ℕ) (xs : List Asked) → end ≡ end_at n unseen → seen ≡ seen_all near unseen xs
    → next ≡ end_all near end xs → next ≡ end_at n seen
ends_on near n unseen seen end next xs is sees ends =
    ends ∙ ap (λ (e : ℕ). end_all near e xs) is ∙ sym (ends_all near n unseen xs) ∙ ap (end_at n) (sym sees)

-- while it isn't reached nothing was seen
pub unseen_yet : (n done : ℕ) (seen : Option Access) (end : ℕ) → end ≡ end_at n seen → done < end → seen ≡ None
unseen_yet n done None end is less = refl
unseen_yet n done (Some access) end is less = absurd (omega arith)

pub room_yet : (n done : ℕ) (seen : Option Access) (end : ℕ) → end ≡ end_at n seen → done < end → done < n
room_yet n done None end is less = omega arith
room_yet n done (Some access) end is less = absurd (omega arith)

-- it is reached when all were carried out, or one was seen
pub end_reached : (n done : ℕ) (seen : Option Access) (end : ℕ) → end ≡ end_at n seen → end ≤ done → 0 < n → (seen ≡ None → ⊥) ⊎ (n ≤ done)
end_reached n done None end is past some = inr (omega arith)
end_reached n done (Some access) end is past some = inl (λ none. absurd (cc))
