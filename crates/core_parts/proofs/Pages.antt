-- What is own of one page, as an interval.
use Rattle.std.proofs.Common.{◌≡◌, ℕ, ◌+◌, ◌-◌, ◌*◌, ◌/◌, ◌%◌, ◌^◌, ◌<◌, ◌≤◌, Bool, true, false, not, ◌&&◌, ◌||◌, ◌⊎◌, inl, inr, List, [], ◌∷◌, Some, None, refl, sym, ap, ◌∙◌, arith}
use Rattle.std.specs.Prelude.{nat_le, nat_lt, slice_get, if◌then◌else◌}
use Rattle.std.proofs.lemmas.Bool.Decides.{nat_tests}
use Rattle.mmap_rules.specs.declared.page_owner.PageOwner.{PageOwner}
use Rattle.mmap_rules.specs.Space.{memory_base}
use Rattle.mmap_rules.specs.Held.{page_address}
use Rattle.mmap_rules.specs.Owners.{owns_in, owns, owns_at}
use Rattle.core_world.specs.Segments.{Interval, intervals}
use Rattle.core_world.proofs.Intervals.{all_joined, total, of_both, of_none, of_end, few_in_all}
use Rattle.core_parts.specs.Tables.{kind_in}

-- ---- a byte by the entry of its page

passes : (u f w : Bool) → u ≡ true → f ≡ true → ((u && f && (w || not false)) ≡ true) × ((u && f && (w || not true)) ≡ w)
passes true true true u f = (refl, refl)
passes true true false u f = (refl, refl)
passes true false w u f = absurd cc
passes false f w u g = absurd cc

stops : (u f w : Bool) → (u ≡ false) ⊎ (f ≡ false) → (u && f && (w || not false)) ≡ false
stops false f w h = refl
stops true false w h = refl
stops true true w (inl h) = absurd cc
stops true true w (inr h) = absurd cc

module _ (table : List PageOwner) (page : ℕ) (o : PageOwner) (there : slice_get table page ≡ Some o) where
  byte_owned : (write : Bool) (a : ℕ) → page_address page ≤ a → a < page_address page + 4096 → owns table write a ≡ owns_in (Some o) write (a - page_address page)
  unfolding owns owns_at
  byte_owned write a low high =
      let above : nat_le (2 ^ 31) a ≡ true = grind (arith, nat_tests) in
      let at : (a - 2 ^ 31) / 4096 ≡ page = omega arith in
      let rest : (a - 2 ^ 31) % 4096 ≡ a - page_address page = omega arith in
      rw (above, at, rest, there) refl

  byte_kind : (a : ℕ) → page_address page ≤ a → a < page_address page + 4096
      → kind_in table a ≡ (if owns_in (Some o) false (a - page_address page) then Some (owns_in (Some o) true (a - page_address page)) else None)
  byte_kind a low high =
      ap (λ (b : Bool). if b then Some (owns table true a) else None) (byte_owned false a low high)
      ∙ ap (λ (b : Bool). if owns_in (Some o) false (a - page_address page) then Some b else None) (byte_owned true a low high)

  byte_free : (a : ℕ) → page_address page ≤ a → a < page_address page + 4096 → (o.uses ≡ 0) ⊎ (a < page_address page + o.from) → kind_in table a ≡ None
  byte_free a low high free =
      byte_kind a low high
      ∙ ap (λ (b : Bool). if b then Some (owns_in (Some o) true (a - page_address page)) else None)
      (stops (nat_lt 0 o.uses) (nat_le o.from (a - page_address page)) o.write (tests free))
    where
      tests : (o.uses ≡ 0) ⊎ (a < page_address page + o.from) → (nat_lt 0 o.uses ≡ false) ⊎ (nat_le o.from (a - page_address page) ≡ false)
      tests (inl none) = inl (grind (arith, nat_tests))
      tests (inr before) = inr (grind (arith, nat_tests))

  byte_own : (a : ℕ) → page_address page + o.from ≤ a → a < page_address page + 4096 → 0 < o.uses → kind_in table a ≡ Some o.write
  byte_own a low high some =
      let used : nat_lt 0 o.uses ≡ true = grind (arith, nat_tests) in
      let from : nat_le o.from (a - page_address page) ≡ true = grind (arith, nat_tests) in
      let both = passes (nat_lt 0 o.uses) (nat_le o.from (a - page_address page)) o.write used from in
      byte_kind a (omega arith) high
      ∙ ap (λ (b : Bool). if b then Some (owns_in (Some o) true (a - page_address page)) else None) both.0
      ∙ ap (λ (b : Bool). Some b) both.1

  -- ---- the whole page

  pub page_free : (o.uses ≡ 0) ⊎ (4096 ≤ o.from) → intervals (kind_in table) (page_address page) 4096 ≡ []
  page_free free = of_none (kind_in table) 4096 (page_address page) (λ a low high. byte_free a low high (here a high free))
    where
      here : (a : ℕ) → a < page_address page + 4096 → (o.uses ≡ 0) ⊎ (4096 ≤ o.from) → (o.uses ≡ 0) ⊎ (a < page_address page + o.from)
      here a high (inl none) = inl none
      here a high (inr past) = inr (omega arith)

  pub page_own : 0 < o.uses → o.from < 4096
      → intervals (kind_in table) (page_address page) 4096 ≡ record { addr = page_address page + o.from; len = 4096 - o.from; write = o.write } ∷ []
  page_own some less =
      of_end (kind_in table) o.from 4096 (page_address page) o.write less
      (λ a low high. byte_free a low (omega arith) (inr high))
      (λ a low high. byte_own a low high some)

-- ---- the pages from one on

module _ (table : List PageOwner) (pages : ℕ) where
  abbrev above : ℕ → List Interval
  above page = intervals (kind_in table) (page_address page) (4096 * (pages - page))

  pub none_above : above pages ≡ []
  none_above = of_none (kind_in table) (4096 * (pages - pages)) (page_address pages) (λ a low high. absurd (omega arith))

  pub one_more : (old new : ℕ) (found more : List Interval) → new + 1 ≡ old → old ≤ pages → found ≡ above old
      → more ≡ all_joined (intervals (kind_in table) (page_address new) 4096) found → more ≡ above new
  one_more old new found more next within is joins =
      let size : 4096 * (pages - new) ≡ 4096 + 4096 * (pages - old) = omega arith in
      let at : page_address new + 4096 ≡ page_address old = omega arith in
      joins
      ∙ ap (all_joined (intervals (kind_in table) (page_address new) 4096)) is
      ∙ ap (λ (a : ℕ). all_joined (intervals (kind_in table) (page_address new) 4096) (intervals (kind_in table) a (4096 * (pages - old)))) (sym at)
      ∙ sym (of_both (kind_in table) 4096 (4096 * (pages - old)) (page_address new))
      ∙ ap (λ (n : ℕ). intervals (kind_in table) (page_address new) n) (sym size)

  pub few_above : (page : ℕ) (found : List Interval) → found ≡ above page → total found ≤ 4096 * pages
  few_above page found is = omega (arith, ap total is, few_in_all (kind_in table) (4096 * (pages - page)) (page_address page))

  pub all_above : (page : ℕ) → page ≡ 0 → above page ≡ intervals (kind_in table) memory_base (4096 * pages)
  all_above page none =
      let size : pages - 0 ≡ pages = omega arith in
      ap above none ∙ ap (λ (n : ℕ). intervals (kind_in table) memory_base (4096 * n)) size
