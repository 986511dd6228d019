-- The free pages of a memory, as its maximal free runs: ascending, with a page that isn't free between
-- two of them.
use Rattle.std.specs.Prelude.{ℕ, zero, suc, ◌+◌, ◌≡◌, ◌==◌, Bool, true, false, ◌&&◌, ◌||◌, not, if◌then◌else◌, List, [], ◌∷◌}
use Rattle.page_runs.specs.declared.run.Run.{Run}
use Rattle.page_runs.specs.Pages.{in_run, has_page, Spaced}

-- page `at` before the maximal runs of the later pages
abbrev pub joined : Bool → ℕ → List Run → List Run
joined false at rs = rs
joined true at [] = record { first = at; count = 1 } ∷ []
joined true at (r ∷ rs) =
    if r.first == at + 1 then record { first = at; count = r.count + 1 } ∷ rs else record { first = at; count = 1 } ∷ (r ∷ rs)

-- the maximal runs of the pages that pass `free`, of the `n` pages from `at` on
abbrev pub runs_from : (ℕ → Bool) → ℕ → ℕ → List Run
runs_from free at zero = []
runs_from free at (suc n) = joined (free at) at (runs_from free (at + 1) n)

-- the maximal runs of the pages that pass `free`, in a memory of so many pages
unfoldable pub free_runs : ℕ → (ℕ → Bool) → List Run
free_runs pages free = runs_from free 0 pages

-- a memory's number of pages and its free runs
pub record Free : Type 0 where
  pub pages : ℕ
  pub runs : List Run

-- page p is free
abbrev pub is_free : Free → ℕ → Bool
is_free f p = has_page f.runs p

-- without the `count` pages from `first` on
abbrev pub without : Free → ℕ → ℕ → Free
without f first count = record { pages = f.pages; runs = free_runs f.pages (λ p. is_free f p && not (in_run first count p)) }

-- with these pages free too
abbrev pub with_free : Free → ℕ → ℕ → Free
with_free f first count = record { pages = f.pages; runs = free_runs f.pages (λ p. is_free f p || in_run first count p) }

-- the runs are maximal, and lie in memory
pub record IsFree (f : Free) : Type 0 where
  pub spaced : Spaced 1 0 (f.pages + 1) f.runs
  pub runs : f.runs ≡ free_runs f.pages (is_free f)
