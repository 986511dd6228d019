-- Laws of the definitions.
use Rattle.std.specs.Prelude.{ℕ, ◌≡◌, ◌+◌, ◌<◌, Bool, ◌&&◌, nat_lt, List, Option}
use Rattle.page_runs.specs.declared.place.Kind.{Kind}
use Rattle.page_runs.specs.declared.run.Run.{Run}
use Rattle.page_runs.specs.Pages.{has_page, Spaced}
use Rattle.page_runs.specs.Free.{free_runs}
use Rattle.page_runs.specs.Place.{Placed, place}

-- `free_runs` has a page that isn't free between two runs
abbrev pub AreMaximal : Type 0
AreMaximal = (pages : ℕ) (free : ℕ → Bool) → Spaced 1 0 (pages + 1) (free_runs pages free)

-- it has just the free pages
abbrev pub HaveFreePages : Type 0
HaveFreePages = (pages : ℕ) (free : ℕ → Bool) (p : ℕ) → has_page (free_runs pages free) p ≡ (nat_lt p pages && free p)

-- no other list is so
abbrev pub AreOnly : Type 0
AreOnly = (pages : ℕ) (free : ℕ → Bool) (runs : List Run) → Spaced 1 0 (pages + 1) runs →
    ((p : ℕ) → p < pages → has_page runs p ≡ free p) → runs ≡ free_runs pages free

-- `place` keeps the rule
abbrev pub PlaceIsPlaced : Type 0
PlaceIsPlaced = (kind : Kind) (runs : List Run) (need : ℕ) → Placed kind runs need (place kind runs need)

-- no other answer does
abbrev pub PlaceIsOnly : Type 0
PlaceIsOnly = (kind : Kind) (runs : List Run) (need : ℕ) (answer : Option ℕ) → Placed kind runs need answer → answer ≡ place kind runs need
