-- Runs of pages.
use Rattle.std.specs.Prelude.{ℕ, ◌+◌, ◌<◌, ◌≤◌, Bool, false, ◌&&◌, ◌||◌, nat_le, nat_lt, List, [], ◌∷◌}
use Rattle.page_runs.specs.declared.run.Run.{Run}

-- page p is one of the `count` pages from `first` on
abbrev pub in_run : ℕ → ℕ → ℕ → Bool
in_run first count p = nat_le first p && nat_lt p (first + count)

-- page p is in one of the runs
abbrev pub has_page : List Run → ℕ → Bool
has_page [] p = false
has_page (r ∷ rs) p = in_run r.first r.count p || has_page rs p

-- the runs ascend from page `low` on, each has a page, and `gap` pages or more are between two of them,
-- and between the last one and `high`
abbrev pub Spaced : ℕ → ℕ → ℕ → List Run → Type 0
Spaced gap low high [] = low ≤ high
Spaced gap low high (r ∷ rs) = (low ≤ r.first) × ((0 < r.count) × Spaced gap (r.first + r.count + gap) high rs)

-- ascending runs in the pages 0 to 16383, with no page in two of them
pub record AreRuns (runs : List Run) : Type 0 where
  pub spaced : Spaced 0 0 16384 runs
