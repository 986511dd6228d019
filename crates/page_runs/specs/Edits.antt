-- For the private functions: a run that is cut, and one that is given back and joins what it meets.
use Rattle.std.specs.Prelude.{ℕ, ◌≡◌, ◌+◌, ◌-◌, ◌≤◌, ◌==◌, ◌||◌, if◌then◌else◌, List, length, take, drop, slice_get, slice_set, Option, Some, None}
use Rattle.std.specs.List.{remove}
use Rattle.page_runs.specs.declared.run.Run.{Run}
use Rattle.page_runs.specs.Pages.{in_run, has_page, Spaced}

-- the runs after `need` pages are cut from the front of the run at an index
abbrev pub cut_from : List Run → ℕ → ℕ → Option Run → List Run
cut_from runs i need None = runs
cut_from runs i need (Some r) =
    if r.count == need then remove runs i else slice_set runs i (record { first = r.first + need; count = r.count - need })

abbrev pub cut : List Run → ℕ → ℕ → List Run
cut runs i need = cut_from runs i need (slice_get runs i)

-- of the runs before index `at`, those before index `from` end earlier than page `first`, and the others have
-- the `n` pages just before it
pub record MeetsBelow (runs : List Run) (at first n from : ℕ) : Type 0 where
  pub some : n ≤ first
  pub bound : from ≤ at
  pub near : at ≤ from + 1
  pub page : (p : ℕ) → has_page (take at runs) p ≡ (has_page (take from runs) p || in_run (first - n) n p)
  pub spaced : Spaced 1 0 (first - n) (take from runs)

-- of the runs from index `at` on, those from index `to` on begin later than page `end`, and the others have
-- the `n` pages from it on
pub record MeetsAbove (runs : List Run) (at end n to : ℕ) : Type 0 where
  pub bound : to ≤ length runs
  pub after : at ≤ to
  pub near : to ≤ at + 1
  pub page : (p : ℕ) → has_page (drop at runs) p ≡ (in_run end n p || has_page (drop to runs) p)
  pub spaced : (high : ℕ) → Spaced 1 0 high runs → end + 1 ≤ high → Spaced 1 (end + n + 1) high (drop to runs)
