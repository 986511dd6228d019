-- Ranges and spans by their ends.
use Rattle.std.proofs.Common.{◌≡◌, ℕ, zero, suc, ◌+◌, ◌-◌, ◌^◌, ◌%◌, ◌<◌, ◌≤◌, Bool, true, false, ◌||◌, ◌&&◌, List, [], ◌∷◌, length, refl, sym, ap, ◌∙◌, arith, inl, inr, subst}
use Rattle.std.specs.Prelude.{nat_le, nat_lt, ◌==◌, min, max, slice_get, Option, Some}
use Rattle.std.specs.List.{list_any}
use Rattle.std.proofs.lemmas.Bool.{or_cases}
use Rattle.std.proofs.lemmas.Bool.Decides.{nat_tests}
use Rattle.std.proofs.lemmas.Option.{get_or_from_slice_get, slice_get_within}
use Rattle.mmap_rules.specs.Space.{all_pass}
use Rattle.mmap_rules.proofs.Lists.{any_found}
use Rattle.watch_points.specs.declared.near.Near.{Near}
use Rattle.watch_points.specs.declared.span.Span.{Span}
use Rattle.watch_points.specs.declared.point.PointKind.{PointKind}
use Rattle.watch_points.specs.declared.point.PointKind.TheVariants.{Touch, Within}
use Rattle.watch_points.specs.Points.{IsSpan, AreSpans, any_pass, in_span, hit}
use Rattle.watch_points.specs.Near.{HasBounds, IsNear, near_to}

-- a range and a span have an address in common
pub meets_is : (span : Span) (addr len : ℕ) → any_pass (in_span span) addr len ≡ (nat_lt 0 len && (nat_lt 0 span.len && (nat_lt addr (span.addr + span.len) && nat_lt span.addr (addr + len))))
meets_is span addr zero = refl
meets_is span addr (suc len) = let rest = meets_is span (addr + 1) len in grind (arith, nat_tests, rest)

-- a span has all of a range
pub holds_is : (span : Span) (addr len : ℕ) → all_pass (in_span span) addr len ≡ (len == 0 || (nat_le span.addr addr && nat_le (addr + len) (span.addr + span.len)))
holds_is span addr zero = refl
holds_is span addr (suc len) = let rest = holds_is span (addr + 1) len in grind (arith, nat_tests, rest)

-- ---- what hits is near

-- a span lies between two addresses, both included
abbrev pub Lies : ℕ → ℕ → Span → Type 0
Lies low top span = (low ≤ span.addr) × (span.addr + span.len ≤ top + 1)

pub span_at : (spans : List Span) (j : ℕ) (span : Span) → AreSpans spans → slice_get spans j ≡ Some span → IsSpan span
span_at spans j span are is = subst IsSpan (get_or_from_slice_get spans j span span is) (are j span (slice_get_within spans j span is))

touch_ends : (span : Span) (addr len : ℕ) → any_pass (in_span span) addr len ≡ true → (span.addr < addr + len) × (addr < span.addr + span.len)
touch_ends span addr len is = let test = sym (meets_is span addr len) ∙ is in (grind (arith, nat_tests), grind (arith, nat_tests))

within_ends : (span : Span) (addr len : ℕ) → 1 ≤ len → all_pass (in_span span) addr len ≡ true → (span.addr < addr + len) × (addr < span.addr + span.len)
within_ends span addr len some is = let test = sym (holds_is span addr len) ∙ is in (grind (arith, nat_tests), grind (arith, nat_tests))

any_ends : (test : Span → Bool) (low top addr len : ℕ) → ((span : Span) → test span ≡ true → (span.addr < addr + len) × (addr < span.addr + span.len))
    → (spans : List Span) → ((j : ℕ) (span : Span) → slice_get spans j ≡ Some span → Lies low top span) → list_any test spans ≡ true → (low < addr + len) × (addr ≤ top)
any_ends test low top addr len ends [] lie is = absurd (cc)
any_ends test low top addr len ends (span ∷ spans) lie is = elim (or_cases (test span) (list_any test spans) is) [
  | inl here ↦ let at = ends span here in let lies = lie 0 span refl in (omega (arith, at.0, lies.0), omega (arith, at.1, lies.1))
  | inr behind ↦ any_ends test low top addr len ends spans (λ j other there. lie (suc j) other there) behind
]

hit_ends : (kind : PointKind) (spans : List Span) (low top addr len : ℕ) → 1 ≤ len → ((j : ℕ) (span : Span) → slice_get spans j ≡ Some span → Lies low top span)
    → hit kind spans addr len ≡ true → (low < addr + len) × (addr ≤ top)
unfolding hit
hit_ends Touch spans low top addr len some lie is = any_ends _ low top addr len (λ span here. touch_ends span addr len here) spans lie is
hit_ends Within spans low top addr len some lie is = any_ends _ low top addr len (λ span here. within_ends span addr len some here) spans lie is

distance : (low a : ℕ) → low ≤ a → a < 2 ^ 32 → (a + 2 ^ 32 - low) % 2 ^ 32 ≡ a - low
distance low a le less = omega arith

near_from : (near : Near) (top a : ℕ) → near.low ≤ a → a ≤ top → a < 2 ^ 32 → near.last ≡ top - near.low → near_to near a ≡ true
near_from near top a le most less last =
    let far = distance near.low a le less in
    let fits : a - near.low ≤ near.last = omega arith in
    rw far (grind (arith, nat_tests))

pub covers : (spans : List Span) (near : Near) (low top : ℕ) → ((j : ℕ) (span : Span) → slice_get spans j ≡ Some span → Lies low top span)
    → near.low ≡ low - 3 → near.last ≡ top - near.low → IsNear near spans
covers spans near low top lie from last kind addr len short is =
    let ends = hit_ends kind spans low top addr len short.some lie is in
    let few = short.few in
    let some = short.some in
    let bound = short.bound in
    near_from near top addr (omega (arith, ends.0, few, from)) ends.1 (omega (arith, some, bound)) last

-- ---- and what is near lies between the spans

-- some span begins at the lower address
abbrev pub BeginsAt : ℕ → List Span → Type 0
BeginsAt low spans = (j : ℕ) × (span : Span) × (slice_get spans j ≡ Some span) × (span.addr ≡ low)

-- and some span ends with the upper one
abbrev pub EndsAt : ℕ → List Span → Type 0
EndsAt top spans = (j : ℕ) × (span : Span) × (slice_get spans j ≡ Some span) × (span.addr + span.len ≡ top + 1)

-- no element passes a test that none passes at its place
none_passes : (test : Span → Bool) (spans : List Span) → ((j : ℕ) (span : Span) → slice_get spans j ≡ Some span → test span ≡ false) → list_any test spans ≡ false
none_passes test [] none = refl
none_passes test (span ∷ spans) none = ap (λ b. b || list_any test spans) (none 0 span refl) ∙ none_passes test spans (λ j other there. none (suc j) other there)

-- one span begins at an address or before it exactly where the lowest does
begins_before : (spans : List Span) (low top a : ℕ) → ((j : ℕ) (span : Span) → slice_get spans j ≡ Some span → Lies low top span) → BeginsAt low spans
    → list_any (λ span. nat_le span.addr a) spans ≡ nat_le low a
begins_before spans low top a lie (lowest, first, at_lowest, begins) = by_test (nat_le low a) refl
  where
    by_test : (b : Bool) → nat_le low a ≡ b → list_any (λ (span : Span). nat_le span.addr a) spans ≡ b
    by_test true is =
        let here : nat_le first.addr a ≡ true = ap (λ x. nat_le x a) begins ∙ is in
        any_found (λ (span : Span). nat_le span.addr a) spans lowest first at_lowest here
    by_test false is = none_passes (λ (span : Span). nat_le span.addr a) spans (λ j span there. let from = (lie j span there).0 in grind (arith, nat_tests, from, is))

-- and one ends behind an address exactly where the highest does
ends_behind : (spans : List Span) (low top a : ℕ) → ((j : ℕ) (span : Span) → slice_get spans j ≡ Some span → Lies low top span) → EndsAt top spans
    → list_any (λ span. nat_lt a (span.addr + span.len)) spans ≡ nat_lt a (top + 1)
ends_behind spans low top a lie (highest, last, at_highest, ends) = by_test (nat_lt a (top + 1)) refl
  where
    by_test : (b : Bool) → nat_lt a (top + 1) ≡ b → list_any (λ (span : Span). nat_lt a (span.addr + span.len)) spans ≡ b
    by_test true is =
        let here : nat_lt a (last.addr + last.len) ≡ true = ap (nat_lt a) ends ∙ is in
        any_found (λ (span : Span). nat_lt a (span.addr + span.len)) spans highest last at_highest here
    by_test false is = none_passes (λ (span : Span). nat_lt a (span.addr + span.len)) spans (λ j span there. let upto = (lie j span there).1 in grind (arith, nat_tests, upto, is))

-- the offset of an address from the lower bound, round 2^32
near_is : (near : Near) (low top a : ℕ) → low ≤ top → top < 2 ^ 32 → a < 2 ^ 32 → near.low ≡ low - 3 → near.last ≡ top - near.low
    → near_to near a ≡ (nat_le low (a + 3) && nat_lt a (top + 1))
near_is near low top a order bound less from last = by_side (nat_lt a near.low) refl
  where
    by_side : (b : Bool) → nat_lt a near.low ≡ b → near_to near a ≡ (nat_le low (a + 3) && nat_lt a (top + 1))
    by_side true is =
        let below : a < near.low = grind (arith, nat_tests) in
        let far : (a + 2 ^ 32 - near.low) % 2 ^ 32 ≡ a + 2 ^ 32 - near.low = omega (arith, below, less) in
        rw far (grind (arith, nat_tests))
    by_side false is =
        let above : near.low ≤ a = grind (arith, nat_tests) in
        rw (distance near.low a above less) (grind (arith, nat_tests))

pub has_bounds : (spans : List Span) (near : Near) (low top : ℕ) → AreSpans spans → ((j : ℕ) (span : Span) → slice_get spans j ≡ Some span → Lies low top span)
    → (0 < length spans → BeginsAt low spans × EndsAt top spans) → near.low ≡ low - 3 → near.last ≡ top - near.low → HasBounds near spans
has_bounds spans near low top are lie reached from upto some a less =
    let (begins, ended) = reached some in
    let (highest, last, at_highest, ends) = ended in
    let lies = lie highest last at_highest in
    let is = span_at spans highest last are at_highest in
    let bound = is.bound in
    let some_byte = is.some in
    let before = begins_before spans low top (a + 3) lie begins in
    let behind = ends_behind spans low top a lie ended in
    near_is near low top a (omega (arith, lies.0, ends, some_byte)) (omega (arith, bound, ends)) less from upto
    ∙ rw before (rw behind refl)

-- with one span more
pub begins_more : (spans : List Span) (index low now : ℕ) (span : Span) → slice_get spans index ≡ Some span → IsSpan span
    → (0 < index → BeginsAt low spans) → (index ≡ 0 → low ≡ 4294967295) → now ≡ min low span.addr → BeginsAt now spans
begins_more spans zero low now span there is before at_first least =
    let bound = is.bound in
    let some = is.some in
    (0, span, there, omega (arith, at_first refl, bound, some, least))
begins_more spans (suc index) low now span there is before at_first least = by_test (nat_le span.addr low) refl
  where
    by_test : (b : Bool) → nat_le span.addr low ≡ b → BeginsAt now spans
    by_test true test = let less : span.addr ≤ low = grind (arith, nat_tests) in (suc index, span, there, omega (arith, less, least))
    by_test false test =
        let more : low < span.addr = grind (arith, nat_tests) in
        let (j, first, at, begins) = before (omega arith) in
        (j, first, at, omega (arith, begins, more, least))

pub ends_more : (spans : List Span) (index top now : ℕ) (span : Span) → slice_get spans index ≡ Some span → IsSpan span
    → (0 < index → EndsAt top spans) → (index ≡ 0 → top ≡ 0) → now ≡ max top (span.addr + (span.len - 1)) → EndsAt now spans
ends_more spans zero top now span there is before at_first most = let some = is.some in (0, span, there, omega (arith, at_first refl, some, most))
ends_more spans (suc index) top now span there is before at_first most = by_test (nat_le top (span.addr + (span.len - 1))) refl
  where
    by_test : (b : Bool) → nat_le top (span.addr + (span.len - 1)) ≡ b → EndsAt now spans
    by_test true test =
        let more : top ≤ span.addr + (span.len - 1) = grind (arith, nat_tests) in
        let some = is.some in
        (suc index, span, there, omega (arith, more, some, most))
    by_test false test =
        let less : span.addr + (span.len - 1) < top = grind (arith, nat_tests) in
        let (j, last, at, ends) = before (omega arith) in
        (j, last, at, omega (arith, ends, less, most))

-- the spans so far lie between the bounds, and reach them; before the first the lower one is the highest address and the upper one 0
abbrev pub Bounds : List Span → (index low top : ℕ) → Type 0
Bounds spans index low top =
    ((j : ℕ) (span : Span) → j < index → slice_get spans j ≡ Some span → Lies low top span)
    × (0 < index → BeginsAt low spans × EndsAt top spans)
    × (index ≡ 0 → (low ≡ 4294967295) × (top ≡ 0))

pub bounds_more : (spans : List Span) (index low top low_now top_now : ℕ) (span : Span) → AreSpans spans → slice_get spans index ≡ Some span → Bounds spans index low top
    → low_now ≡ min low span.addr → top_now ≡ max top (span.addr + (span.len - 1)) → Bounds spans (index + 1) low_now top_now
bounds_more spans index low top low_now top_now span are there (lie, reached, at_first) least most =
    let is = span_at spans index span are there in
    let some = is.some in (
      lies,
      λ more. (begins_more spans index low low_now span there is (λ h. (reached h).0) (λ h. (at_first h).0) least, ends_more spans index top top_now span there is (λ h. (reached h).1) (λ h. (at_first h).1) most),
      λ none. absurd (omega (arith, none)),
    )
  where
    by_place : (j : ℕ) (other : Span) → slice_get spans j ≡ Some other → (b : Bool) → nat_lt j index ≡ b → j < index + 1 → Lies low_now top_now other
    by_place j other at true test less =
        let before = lie j other (grind (arith, nat_tests)) at in
        (omega (arith, before.0, least), omega (arith, before.1, most))
    by_place j other at false test less =
        let here : j ≡ index = (let not_less : index ≤ j = grind (arith, nat_tests) in omega (arith, not_less, less)) in
        let same : ◌≡◌ {A = Option Span} (Some other) (Some span) = sym at ∙ ap (slice_get spans) here ∙ there in
        let is_span : other ≡ span = cc in
        let some = (span_at spans index span are there).some in
        subst (Lies low_now top_now) (sym is_span) (omega (arith, least), omega (arith, most, some))

    lies : (j : ℕ) (other : Span) → j < index + 1 → slice_get spans j ≡ Some other → Lies low_now top_now other
    lies j other less at = by_place j other at (nat_lt j index) refl less
