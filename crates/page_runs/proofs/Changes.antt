-- A run that gets shorter or goes, and one that comes.
use Rattle.std.proofs.Common.{◌≡◌, ◌≢◌, ℕ, zero, suc, ◌+◌, ◌-◌, ◌*◌, ◌≤◌, ◌<◌, inl, inr, true, false, List, [], ◌∷◌, ◌++◌, take, drop, length, get_or, add-one, arith, refl, ap, ◌∙◌, sym}
use Rattle.std.specs.Prelude.{Some, slice_get, slice_set, option_map, ◌&&◌, ◌||◌, not}
use Rattle.std.specs.List.{remove}
use Rattle.std.proofs.lemmas.Bool.{cases_lt, cases_eq, false≢true}
use Rattle.std.proofs.lemmas.Bool.Decides.{nat_tests}
use Rattle.std.proofs.lemmas.List.{take-append-drop}
use Rattle.std.proofs.lemmas.List.Edits.{length-insert}
use Rattle.std.proofs.lemmas.Option.{same_Some, none-some, slice_get-get_or, slice_get_within}
use Rattle.page_runs.specs.declared.run.Run.{Run}
use Rattle.page_runs.specs.Pages.{in_run, has_page, Spaced, AreRuns}
use Rattle.page_runs.specs.Free.{free_runs, Free, IsFree, is_free, with_free, without}
use Rattle.page_runs.specs.Edits.{cut, MeetsBelow, MeetsAbove}
use Rattle.page_runs.proofs.Spacing.{few_runs, spaced_to, spaced_apart, spaced_from, page_before, run_at, in_order, has_page-append, spaced_append}
use Rattle.page_runs.proofs.Maximal.{is_free_runs, is_free_list}

-- ---- the front of a run goes

remove_spaced : (low high : ℕ) (rs : List Run) (i : ℕ) → Spaced 1 low high rs → Spaced 1 low high (remove rs i)
remove_spaced low high [] zero spaced = spaced
remove_spaced low high [] (suc i) spaced = spaced
remove_spaced low high (r ∷ rs) zero spaced = spaced_from 1 _ high rs low spaced.1.1 (omega arith)
remove_spaced low high (r ∷ rs) (suc i) spaced = (spaced.0, (spaced.1.0, remove_spaced (r.first + r.count + 1) high rs i spaced.1.1))

remove_pages : (low high : ℕ) (rs : List Run) (i : ℕ) (r : Run) (p : ℕ) → Spaced 1 low high rs → slice_get rs i ≡ Some r →
    has_page (remove rs i) p ≡ (has_page rs p && not (in_run r.first r.count p))
remove_pages low high [] i r p spaced is = absurd (none-some r is)
remove_pages low high (x ∷ rs) zero r p spaced is =
    let same : x ≡ r = same_Some _ _ is in
    rw (← same) (elim (cases_lt p (x.first + x.count)) [
      | inl before ↦ grind (arith, nat_tests, page_before 1 (x.first + x.count + 1) high rs p spaced.1.1 (omega arith))
      | inr past ↦ grind (arith, nat_tests)
    ])
remove_pages low high (x ∷ rs) (suc i) r p spaced is =
    grind (arith, nat_tests, remove_pages (x.first + x.count + 1) high rs i r p spaced.1.1 is, run_at 1 (x.first + x.count + 1) high rs i r spaced.1.1 is)

set_spaced : (low high : ℕ) (rs : List Run) (i : ℕ) (r v : Run) → Spaced 1 low high rs → slice_get rs i ≡ Some r →
    r.first ≤ v.first → 0 < v.count → v.first + v.count ≡ r.first + r.count → Spaced 1 low high (slice_set rs i v)
set_spaced low high [] i r v spaced is from some to = absurd (none-some r is)
set_spaced low high (x ∷ rs) zero r v spaced is from some to =
    let first : x.first ≡ r.first = ap (λ (q : Run). q.first) (same_Some _ _ is) in
    let count : x.count ≡ r.count = ap (λ (q : Run). q.count) (same_Some _ _ is) in
    (omega arith, (some, spaced_from 1 _ high rs (v.first + v.count + 1) spaced.1.1 (omega arith)))
set_spaced low high (x ∷ rs) (suc i) r v spaced is from some to =
    (spaced.0, (spaced.1.0, set_spaced (x.first + x.count + 1) high rs i r v spaced.1.1 is from some to))

set_pages : (low high : ℕ) (rs : List Run) (i : ℕ) (r v : Run) (need p : ℕ) → Spaced 1 low high rs → slice_get rs i ≡ Some r →
    v.first ≡ r.first + need → v.first + v.count ≡ r.first + r.count →
    has_page (slice_set rs i v) p ≡ (has_page rs p && not (in_run r.first need p))
set_pages low high [] i r v need p spaced is from to = absurd (none-some r is)
set_pages low high (x ∷ rs) zero r v need p spaced is from to =
    let first : x.first ≡ r.first = ap (λ (q : Run). q.first) (same_Some _ _ is) in
    let count : x.count ≡ r.count = ap (λ (q : Run). q.count) (same_Some _ _ is) in
    elim (cases_lt p (x.first + x.count)) [
      | inl before ↦ grind (arith, nat_tests, page_before 1 (x.first + x.count + 1) high rs p spaced.1.1 (omega arith))
      | inr past ↦ grind (arith, nat_tests)
    ]
set_pages low high (x ∷ rs) (suc i) r v need p spaced is from to =
    grind (arith, nat_tests, set_pages (x.first + x.count + 1) high rs i r v need p spaced.1.1 is from to, run_at 1 (x.first + x.count + 1) high rs i r spaced.1.1 is)

pub page_of_run : (rs : List Run) (i : ℕ) (r : Run) (p : ℕ) → slice_get rs i ≡ Some r → in_run r.first r.count p ≡ true → has_page rs p ≡ true
page_of_run [] i r p is inside = absurd (none-some r is)
page_of_run (x ∷ rs) zero r p is inside = let same : x ≡ r = same_Some _ _ is in rw same (grind (arith, nat_tests))
page_of_run (x ∷ rs) (suc i) r p is inside = grind (arith, nat_tests, page_of_run rs i r p is inside)

-- what is left of the free runs
pub record Left (f : Free) (new : List Run) (first need : ℕ) : Type 0 where
  pub free : IsFree (record { pages = f.pages; runs = new })
  pub runs : new ≡ free_runs f.pages (λ p. is_free f p && not (in_run first need p))

pub whole_run : (f : Free) (i : ℕ) (r : Run) → IsFree f → slice_get f.runs i ≡ Some r → Left f (remove f.runs i) r.first r.count
whole_run f i r free is =
    let spaced = remove_spaced 0 (f.pages + 1) f.runs i free.spaced in
    record {
      free = is_free_list f.pages (remove f.runs i) spaced;
      runs = is_free_runs f.pages _ (remove f.runs i) spaced (λ p inside. remove_pages 0 (f.pages + 1) f.runs i r p free.spaced is);
    }

pub front_of_run : (f : Free) (i : ℕ) (r v : Run) (need : ℕ) → IsFree f → slice_get f.runs i ≡ Some r → v.first ≡ r.first + need →
    0 < v.count → v.first + v.count ≡ r.first + r.count → Left f (slice_set f.runs i v) r.first need
front_of_run f i r v need free is from some to =
    let spaced = set_spaced 0 (f.pages + 1) f.runs i r v free.spaced is (omega arith) some to in
    record {
      free = is_free_list f.pages (slice_set f.runs i v) spaced;
      runs = is_free_runs f.pages _ (slice_set f.runs i v) spaced (λ p inside. set_pages 0 (f.pages + 1) f.runs i r v need p free.spaced is from to);
    }

-- ---- a run comes

take_spaced : (low high to : ℕ) (rs : List Run) (n : ℕ) → Spaced 1 low high rs → low ≤ to →
    ((k : ℕ) (r : Run) → k < n → slice_get rs k ≡ Some r → r.first + r.count + 1 ≤ to) → Spaced 1 low to (take n rs)
take_spaced low high to rs zero spaced le ends = le
take_spaced low high to [] (suc n) spaced le ends = le
take_spaced low high to (r ∷ rs) (suc n) spaced le ends = (
  spaced.0,
  (
    spaced.1.0,
    take_spaced (r.first + r.count + 1) high to rs n spaced.1.1 (ends 0 r (omega arith) refl) (λ k s less is. ends (suc k) s (omega arith) is),
  ),
)

drop_spaced : (low high from : ℕ) (rs : List Run) (n : ℕ) → Spaced 1 low high rs → from ≤ high →
    ((k : ℕ) (r : Run) → n ≤ k → slice_get rs k ≡ Some r → from ≤ r.first) → Spaced 1 from high (drop n rs)
drop_spaced low high from [] zero spaced le begins = le
drop_spaced low high from (r ∷ rs) zero spaced le begins = (begins 0 r (omega arith) refl, spaced.1)
drop_spaced low high from [] (suc n) spaced le begins = le
drop_spaced low high from (r ∷ rs) (suc n) spaced le begins =
    drop_spaced (r.first + r.count + 1) high from rs n spaced.1.1 le (λ k s less is. begins (suc k) s (omega arith) is)

take_page : (rs : List Run) (k : ℕ) (r : Run) (p : ℕ) → slice_get rs k ≡ Some r →
    has_page (take (suc k) rs) p ≡ (has_page (take k rs) p || in_run r.first r.count p)
take_page [] k r p is = absurd (none-some r is)
take_page (x ∷ rs) zero r p is = let same : x ≡ r = same_Some _ _ is in rw same (grind (arith, nat_tests))
take_page (x ∷ rs) (suc k) r p is = grind (arith, nat_tests, take_page rs k r p is)

drop_page : (rs : List Run) (k : ℕ) (r : Run) (p : ℕ) → slice_get rs k ≡ Some r →
    has_page (drop k rs) p ≡ (in_run r.first r.count p || has_page (drop (suc k) rs) p)
drop_page [] k r p is = absurd (none-some r is)
drop_page (x ∷ rs) zero r p is = let same : x ≡ r = same_Some _ _ is in rw same refl
drop_page (x ∷ rs) (suc k) r p is = drop_page rs k r p is

split_page : (rs : List Run) (n p : ℕ) → has_page rs p ≡ (has_page (take n rs) p || has_page (drop n rs) p)
split_page rs n p = sym (ap (λ (xs : List Run). has_page xs p) (take-append-drop n rs)) ∙ has_page-append (take n rs) (drop n rs) p

-- ---- what `cut` is

pub cut_whole : (runs : List Run) (i need : ℕ) (r : Run) → slice_get runs i ≡ Some r → r.count ≡ need → remove runs i ≡ cut runs i need
cut_whole runs i need r is all = rw is (grind (arith, nat_tests))

pub cut_part : (runs : List Run) (i need : ℕ) (r : Run) → slice_get runs i ≡ Some r → r.count ≢ need →
    slice_set runs i (record { first = r.first + need; count = r.count - need }) ≡ cut runs i need
cut_part runs i need r is part = rw is (grind (arith, nat_tests))

pub left_by_cut : (f : Free) (i need : ℕ) (r : Run) → IsFree f → slice_get f.runs i ≡ Some r → 0 < need → need ≤ r.count →
    Left f (cut f.runs i need) r.first need
left_by_cut f i need r free is some fits = elim (cases_eq r.count need) [
  | inl all ↦ rw (← cut_whole f.runs i need r is all, ← all) (whole_run f i r free is)
  | inr part ↦ rw (← cut_part f.runs i need r is part) (front_of_run f i r _ need free is refl (omega arith) (omega arith))
]

-- ---- what a run that comes meets

-- a run that begins before a page that isn't free ends before it
ends_before : (rs : List Run) (k : ℕ) (r : Run) (p : ℕ) → slice_get rs k ≡ Some r → has_page rs p ≡ false → r.first ≤ p → r.first + r.count ≤ p
ends_before rs k r p is taken before = elim (cases_lt p (r.first + r.count)) [
  | inl inside ↦ absurd (false≢true (sym taken ∙ page_of_run rs k r p is (grind (arith, nat_tests))))
  | inr past ↦ past
]

joins_before : (high : ℕ) (rs : List Run) (a first : ℕ) (r : Run) → r.first + r.count ≡ first → Spaced 1 0 high rs → slice_get rs a ≡ Some r →
    MeetsBelow rs (suc a) first r.count a
joins_before high rs a first r ends spaced there =
    let begins : first - r.count ≡ r.first = omega arith in
    record {
      some = omega arith;
      bound = omega arith;
      near = omega arith;
      page = λ p. rw begins (take_page rs a r p there);
      spaced = take_spaced 0 high (first - r.count) rs a spaced (omega arith) (λ k s less is. omega (arith, in_order 0 high rs k a s r spaced less is there));
    }

-- the run before index `at` ends at page `first`
pub joins_below : (high : ℕ) (rs : List Run) (at first : ℕ) (d : Run) → 0 < at → at ≤ length rs →
    (get_or rs (at - 1) d).first + (get_or rs (at - 1) d).count ≡ first → Spaced 1 0 high rs → MeetsBelow rs at first (get_or rs (at - 1) d).count (at - 1)
joins_below high rs zero first d some le ends spaced = absurd (omega arith)
joins_below high rs (suc a) first d some le ends spaced =
    let same : suc a - 1 ≡ a = omega arith in
    let ends_there : (get_or rs a d).first + (get_or rs a d).count ≡ first = rw same at ends in
    rw same (joins_before high rs a first (get_or rs a d) ends_there spaced (slice_get-get_or rs a d (omega arith)))

-- each run before index `at` ends earlier
pub stays_below : (high : ℕ) (rs : List Run) (at first : ℕ) → Spaced 1 0 high rs →
    ((k : ℕ) (r : Run) → k < at → slice_get rs k ≡ Some r → r.first + r.count + 1 ≤ first) → MeetsBelow rs at first 0 at
stays_below high rs at first spaced ends = record {
  some = omega arith;
  bound = omega arith;
  near = omega arith;
  page = λ p. grind (arith, nat_tests);
  spaced = take_spaced 0 high (first - 0) rs at spaced (omega arith) (λ k s less is. omega (arith, ends k s less is));
}

-- so it is where the last of them does
pub last_below : (high : ℕ) (rs : List Run) (at first : ℕ) (d : Run) → 0 < at → at ≤ length rs → Spaced 1 0 high rs →
    (get_or rs (at - 1) d).first + (get_or rs (at - 1) d).count ≢ first →
    ((k : ℕ) (r : Run) → k < at → slice_get rs k ≡ Some r → r.first < first) → has_page rs first ≡ false → MeetsBelow rs at first 0 at
last_below high rs at first d some le spaced apart before taken =
    let there = slice_get-get_or rs (at - 1) d (omega arith) in
    let last : (get_or rs (at - 1) d).first + (get_or rs (at - 1) d).count + 1 ≤ first =
    omega (arith, ends_before rs (at - 1) (get_or rs (at - 1) d) first there taken (omega (arith, before (at - 1) _ (omega arith) there))) in
    stays_below high rs at first spaced (earlier last there)
  where
    same_end : (k : ℕ) (r s : Run) → slice_get rs k ≡ Some r → slice_get rs k ≡ Some s → r.first + r.count + 1 ≤ first → s.first + s.count + 1 ≤ first
    same_end k r s r_is s_is le = let same : s ≡ r = same_Some _ _ (sym s_is ∙ r_is) in rw same le

    earlier : (get_or rs (at - 1) d).first + (get_or rs (at - 1) d).count + 1 ≤ first → slice_get rs (at - 1) ≡ Some (get_or rs (at - 1) d) →
        (k : ℕ) (s : Run) → k < at → slice_get rs k ≡ Some s → s.first + s.count + 1 ≤ first
    earlier last there k s less is = elim (cases_lt k (at - 1)) [
      | inl before_it ↦ omega (arith, in_order 0 high rs k (at - 1) s _ spaced before_it is there)
      | inr from ↦ let here : k ≡ at - 1 = omega arith in same_end (at - 1) _ s there (ap (slice_get rs) (sym here) ∙ is) last
    ]

-- the run at index `at` begins at page `end`
pub joins_above : (rs : List Run) (at end : ℕ) (d : Run) → at < length rs → (get_or rs at d).first ≡ end → MeetsAbove rs at end (get_or rs at d).count (at + 1)
joins_above rs at end d inside begins =
    let there = slice_get-get_or rs at d inside in
    record {
      bound = omega arith;
      after = omega arith;
      near = omega arith;
      page = λ p. rw (← begins, add-one) (drop_page rs at (get_or rs at d) p there);
      spaced = λ high spaced le. drop_spaced 0 high (end + (get_or rs at d).count + 1) rs (at + 1) spaced
          (omega (arith, run_at 1 0 high rs at (get_or rs at d) spaced there))
          (λ k s from is. omega (arith, in_order 0 high rs at k (get_or rs at d) s spaced (omega arith) there is));
    }

-- it begins later
pub first_above : (rs : List Run) (at end : ℕ) (d : Run) → at < length rs → end < (get_or rs at d).first → MeetsAbove rs at end 0 at
first_above rs at end d inside begins =
    let there = slice_get-get_or rs at d inside in
    record {
      bound = omega arith;
      after = omega arith;
      near = omega arith;
      page = λ p. grind (arith, nat_tests);
      spaced = λ high spaced le. drop_spaced 0 high (end + 0 + 1) rs at spaced (omega arith) (λ k s from is. later high spaced there k s from is);
    }
  where
    same_first : (k : ℕ) (r s : Run) → slice_get rs k ≡ Some r → slice_get rs k ≡ Some s → end < r.first → end + 0 + 1 ≤ s.first
    same_first k r s r_is s_is less = let same : s ≡ r = same_Some _ _ (sym s_is ∙ r_is) in rw same (omega arith)

    later : (high : ℕ) → Spaced 1 0 high rs → slice_get rs at ≡ Some (get_or rs at d) → (k : ℕ) (s : Run) → at ≤ k → slice_get rs k ≡ Some s → end + 0 + 1 ≤ s.first
    later high spaced there k s from is = elim (cases_lt at k) [
      | inl after_it ↦ omega (arith, in_order 0 high rs at k (get_or rs at d) s spaced after_it there is)
      | inr to ↦ let here : k ≡ at = omega arith in same_first at _ s there (ap (slice_get rs) (sym here) ∙ is) begins
    ]

-- there is none
pub none_above : (rs : List Run) (at end : ℕ) → at ≡ length rs → MeetsAbove rs at end 0 at
none_above rs at end is = record {
  bound = omega arith;
  after = omega arith;
  near = omega arith;
  page = λ p. grind (arith, nat_tests);
  spaced = λ high spaced le. drop_spaced 0 high (end + 0 + 1) rs at spaced (omega arith) (λ k s from k_is. absurd (omega (arith, slice_get_within rs k s k_is)));
}

-- ---- a run comes

pub come_spaced : (high : ℕ) (rs : List Run) (at first count n m from to : ℕ) → 0 < count → MeetsBelow rs at first n from →
    MeetsAbove rs at (first + count) m to → Spaced 1 0 high rs → first + count + 1 ≤ high → Spaced 1 0 high (take from rs ++ (record { first = first - n; count = n + count + m } ∷ drop to rs))
come_spaced high rs at first count n m from to some below above spaced inside =
    spaced_append 1 0 (first - n) high (take from rs) _ below.spaced
    (omega arith, (omega arith, spaced_from 1 (first + count + m + 1) high (drop to rs) (first - n + (n + count + m) + 1) (above.spaced high spaced inside) (omega (arith, below.some))))

pub come_page : (rs : List Run) (at first count n m from to p : ℕ) → MeetsBelow rs at first n from →
    MeetsAbove rs at (first + count) m to →
    has_page (take from rs ++ (record { first = first - n; count = n + count + m } ∷ drop to rs)) p ≡ (has_page rs p || in_run first count p)
come_page rs at first count n m from to p below above =
    has_page-append (take from rs) _ p ∙ grind (arith, nat_tests, below.some, below.page p, above.page p, split_page rs at p)

-- the free runs with one more
pub record Grown (f : Free) (new : List Run) (first count : ℕ) : Type 0 where
  pub free : IsFree (record { pages = f.pages; runs = new })
  pub runs : new ≡ free_runs f.pages (λ p. is_free f p || in_run first count p)

pub grown : (f : Free) (at first count n m from to : ℕ) → IsFree f → 0 < count → first + count ≤ f.pages → MeetsBelow f.runs at first n from →
    MeetsAbove f.runs at (first + count) m to →
    Grown f (take from f.runs ++ (record { first = first - n; count = n + count + m } ∷ drop to f.runs)) first count
grown f at first count n m from to free some inside below above =
    let spaced = come_spaced (f.pages + 1) f.runs at first count n m from to some below above free.spaced (omega arith) in
    record {
      free = is_free_list f.pages _ spaced;
      runs = is_free_runs f.pages _ _ spaced (λ p p_inside. come_page f.runs at first count n m from to p below above);
    }

-- there is room for it
pub room : (f : Free) (run : Run) (first count from to len most : ℕ) → from ≡ to → from ≤ length f.runs →
    Grown f (take from f.runs ++ (run ∷ drop to f.runs)) first count → len ≡ length f.runs → f.pages + 1 ≤ 2 * most → len < most
room f run first count from to len most same bound grown is_len enough =
    let new = rw (← same) at (few_runs 0 (f.pages + 1) (take from f.runs ++ (run ∷ drop to f.runs)) grown.free.spaced) in
    omega (arith, length-insert f.runs from run bound, new)

-- ---- the facts about a list, from a value that is known by its view

pub all_spaced : (f : Free) → IsFree f → f.pages ≤ 16384 → Spaced 1 0 16385 f.runs
all_spaced f free le = spaced_to 1 0 (f.pages + 1) f.runs 16385 free.spaced (omega arith)

pub are_runs : (f : Free) → IsFree f → f.pages ≤ 16384 → AreRuns f.runs
are_runs f free le = record { spaced = spaced_to 0 0 f.pages f.runs 16384 (spaced_apart f.pages f.runs free.spaced) le }

pub taken_inside : (f now : Free) (first count : ℕ) → f ≡ now → ((p : ℕ) → in_run first count p ≡ true → is_free now p ≡ false) →
    (p : ℕ) → in_run first count p ≡ true → has_page f.runs p ≡ false
taken_inside f now first count same taken = rw same taken

-- a run that doesn't begin before pages that aren't free begins after them
pub begins_after : (high : ℕ) (rs : List Run) (k first count : ℕ) (r : Run) → Spaced 1 0 high rs → slice_get rs k ≡ Some r →
    ((p : ℕ) → in_run first count p ≡ true → has_page rs p ≡ false) → first ≤ r.first → first + count ≤ r.first
begins_after high rs k first count r spaced there taken from = elim (cases_lt r.first (first + count)) [
  | inl inside ↦ absurd (false≢true (sym (taken r.first (grind (arith, nat_tests))) ∙
      page_of_run rs k r r.first there (grind (arith, nat_tests, run_at 1 0 high rs k r spaced there))))
  | inr after ↦ after
]

pub with_free_is : (f now : Free) (new : List Run) (first count : ℕ) → f ≡ now → Grown f new first count →
    record { pages = f.pages; runs = new } ≡ with_free now first count
with_free_is f now new first count same grown = rw (← same, grown.runs)

pub without_is : (f now : Free) (new : List Run) (first need : ℕ) → f ≡ now → Left f new first need →
    record { pages = f.pages; runs = new } ≡ without now first need
without_is f now new first need same left = rw (← same, left.runs)

pub none_more_free : (f : Free) (first count : ℕ) → IsFree f → count ≡ 0 → f ≡ with_free f first count
none_more_free f first count free none =
    ap (λ (rs : List Run). free_of f.pages rs) (is_free_runs f.pages (λ p. is_free f p || in_run first count p) f.runs free.spaced (λ p inside. grind (arith, nat_tests)))
  where
    free_of : ℕ → List Run → Free
    free_of pages runs = record { pages = pages; runs = runs }

pub front_is_free : (f now : Free) (i first need : ℕ) (r : Run) → f ≡ now → slice_get f.runs i ≡ Some r → first ≡ r.first → need ≤ r.count →
    (p : ℕ) → in_run first need p ≡ true → is_free now p ≡ true
front_is_free f now i first need r same there begins fits p inside =
    rw (← same) (page_of_run f.runs i r p there (grind (arith, nat_tests)))

pub first_is : (runs : List Run) (i first : ℕ) (r : Run) → slice_get runs i ≡ Some r → Some first ≡ option_map (λ (run : Run). run.first) (slice_get runs i) → first ≡ r.first
first_is runs i first r there is = let some = rw there at is in same_Some _ _ some
