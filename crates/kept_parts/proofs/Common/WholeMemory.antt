-- The table that owns all of memory.
use Rattle.std.proofs.Common.{◌≡◌, ℕ, ◌+◌, ◌-◌, ◌*◌, ◌/◌, ◌%◌, ◌^◌, ◌<◌, ◌≤◌, inl, inr, Bool, true, false, ◌&&◌, List, length, refl, sym, ap, ◌∙◌, arith}
use Rattle.std.specs.Prelude.{Option, Some, None, nat_le, nat_lt, slice_get}
use Rattle.std.proofs.lemmas.Bool.{cases_lt}
use Rattle.std.proofs.lemmas.Bool.Decides.{nat_tests}
use Rattle.std.proofs.lemmas.List.{length-replicate, get_or-replicate}
use Rattle.std.proofs.lemmas.Option.{slice_get_past, slice_get-get_or}
use Rattle.mmap_rules.specs.declared.page_owner.PageOwner.{PageOwner}
use Rattle.mmap_rules.specs.Owners.{owns_in, owns_at, owns}
use Rattle.mmap_rules.specs.Space.{own_in, writable_in}
use Rattle.region_watch.specs.Private.{only, physical, own_bytes}
use Rattle.region_watch.proofs.Accesses.{all_pages}
use Rattle.mmap_rules.specs.Held.{Held}
use Rattle.region_watch.specs.declared.mode.Mode.{Mode}
use Rattle.region_watch.specs.declared.mode.Mode.TheVariants.{Halt, GoOn}
use Rattle.kept_parts.specs.Kept.{Kept}
use Rattle.kept_parts.specs.Reach.{readable, whole_page, whole_table, Reaches}
use Rattle.kept_parts.specs.Regular.{Regular}
use Rattle.region_watch.specs.Private.{in_pages}

-- each of its bytes is own, and may be written
page_owned : (w : Bool) (at : ℕ) → owns_in (Some whole_page) w at ≡ true
page_owned w at = grind (arith, nat_tests)

page_of : (pages i : ℕ) → i < pages → slice_get (whole_table pages) i ≡ Some whole_page
page_of pages i less =
    let some : PageOwner → Option PageOwner = λ o. Some o in
    slice_get-get_or (whole_table pages) i whole_page (omega (arith, length-replicate pages whole_page))
    ∙ ap some (get_or-replicate pages i whole_page whole_page less)

no_page : (pages i : ℕ) → pages ≤ i → slice_get (whole_table pages) i ≡ None
no_page pages i past = slice_get_past (whole_table pages) i (omega (arith, length-replicate pages whole_page))

owned_at : (pages : ℕ) (w : Bool) (a : ℕ) → 2 ^ 31 ≤ a → owns_at (whole_table pages) w (a - 2 ^ 31) ≡ nat_lt a (2 ^ 31 + 4096 * pages)
unfolding owns_at
owned_at pages w a low = elim (cases_lt a (2 ^ 31 + 4096 * pages)) [
  | inl within ↦
      let is : nat_lt a (2 ^ 31 + 4096 * pages) ≡ true = grind (arith, nat_tests) in
      rw (page_of pages ((a - 2 ^ 31) / 4096) (omega arith), is) (page_owned w ((a - 2 ^ 31) % 4096))
  | inr past ↦
      let is : nat_lt a (2 ^ 31 + 4096 * pages) ≡ false = grind (arith, nat_tests) in
      rw (no_page pages ((a - 2 ^ 31) / 4096) (omega arith), is) refl
]

-- it owns the addresses of memory
pub owns_whole : (pages : ℕ) (w : Bool) → owns (whole_table pages) w ≡ in_pages pages
unfolding owns
owns_whole pages w = λ i a. at a i
  where
    at : (a : ℕ) → (nat_le (2 ^ 31) a && owns_at (whole_table pages) w (a - 2 ^ 31)) ≡ (nat_le (2 ^ 31) a && nat_lt a (2 ^ 31 + 4096 * pages))
    at a = elim (cases_lt a (2 ^ 31)) [
      | inl below ↦
          let is : nat_le (2 ^ 31) a ≡ false = grind (arith, nat_tests) in
          rw is refl
      | inr low ↦ ap (λ (x : Bool). nat_le (2 ^ 31) a && x) (owned_at pages w a low)
    ]

-- ---- all of memory is read

pub whole_own : (pages : ℕ) (mem : List ℕ) → length mem ≡ 4096 * pages → own_bytes (whole_table pages) mem ≡ physical mem
whole_own pages mem paged = ap (λ (test : ℕ → Bool). only test (physical mem)) (owns_whole pages false) ∙ all_pages pages mem paged

-- ---- within reach

-- the bytes that a table of the reach owns
pub reached_bytes : (mode : Mode) (pages : ℕ) (h : Held) (table : List PageOwner) (mem : List ℕ) → Reaches mode pages h table → own_bytes table mem ≡ only (readable mode pages h) (physical mem)
reached_bytes mode pages h table mem r = ap (λ (test : ℕ → Bool). only test (physical mem)) r.reads

-- and as many pages as memory has
pub reached_pages : (mode : Mode) (k : Kept) (h : Held) (table : List PageOwner) → Regular k → Reaches mode (length k.regions) h table → length k.mem ≡ 4096 * length table
reached_pages mode k h table regular r = regular.memory ∙ ap (λ (n : ℕ). 4096 * n) (sym r.long)

-- by the table of its space
pub own_reaches : (k : Kept) → Regular k → (number : ℕ) (h : Held) (table : List PageOwner) → slice_get k.spaces number ≡ Some (Some h)
    → owns table false ≡ own_in h.maps → owns table true ≡ writable_in h.maps → length table ≡ h.pages → Reaches Halt (length k.regions) h table
own_reaches k regular number h table there reads writes long = record { reads = reads; writes = writes; long = long ∙ regular.pages number h there }

-- and by the one that owns all of memory
pub whole_reaches : (pages : ℕ) (h : Held) (table : List PageOwner) → table ≡ whole_table pages → Reaches GoOn pages h table
whole_reaches pages h table is = record {
  reads = ap (λ (t : List PageOwner). owns t false) is ∙ owns_whole pages false;
  writes = ap (λ (t : List PageOwner). owns t true) is ∙ owns_whole pages true;
  long = ap (length {A = PageOwner}) is ∙ length-replicate pages whole_page;
}
