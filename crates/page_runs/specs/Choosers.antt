-- Closures that answer a placement. What a closure may be called on and what it gives is known only by
-- the bound of the code that has it, so these facts take both.
use Rattle.std.specs.Prelude.{ℕ, ◌≡◌, ◌<◌, ◌^◌, List, Option}
use Rattle.std.specs.Borrow.{Bor}
use Rattle.page_runs.specs.declared.chooser.Chooser.{Chooser}
use Rattle.page_runs.specs.declared.place.Kind.{Kind}
use Rattle.page_runs.specs.declared.run.Run.{Run}
use Rattle.page_runs.specs.Pages.{AreRuns}
use Rattle.page_runs.specs.Place.{place}

-- `pick` may be called on all runs and each need, and answers `place`
pub record Chooses {F : Type 0} (can : F → Bor (List Run) → ℕ → Type 0) (gives : F → Bor (List Run) → ℕ → Option ℕ → Type 0) (kind : Kind) (pick : F) : Type 0 where
  pub callable : (runs : Bor (List Run)) (need : ℕ) → AreRuns runs.now → 0 < need → need < 2 ^ 32 → can pick runs need
  pub answers : (runs : Bor (List Run)) (need : ℕ) (answer : Option ℕ) → AreRuns runs.now → 0 < need → need < 2 ^ 32 → gives pick runs need answer → answer ≡ place kind runs.now need

-- the same of a chooser
abbrev pub IsChooser : {F : Type 0} → (F → Bor (List Run) → ℕ → Type 0) → (F → Bor (List Run) → ℕ → Option ℕ → Type 0) → Chooser F → Type 0
IsChooser can gives c = Chooses can gives c.kind c.pick

-- the placement that a chooser answers
abbrev pub kind_of : {F : Type 0} → Chooser F → Kind
kind_of c = c.kind
