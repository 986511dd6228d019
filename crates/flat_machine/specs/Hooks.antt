-- What is handed down a run, and what is known of it.
use Rattle.std.specs.Prelude.{ℕ, Bool, List, Option}
use Rattle.std.specs.Borrow.{Bor}
use Rattle.page_runs.specs.declared.place.Kind.{Kind}
use Rattle.page_runs.specs.declared.run.Run.{Run}
use Rattle.page_runs.specs.Choosers.{IsChooser, kind_of}
use Rattle.bflt_format.specs.Values.{Values}
use Rattle.watch_points.specs.declared.span.Span.{Span}
use Rattle.watch_points.specs.Watchers.{IsWatcher, Watched, watched_by}
use Rattle.flat_machine.specs.declared.hooks.Hooks.{Hooks}

-- the chooser answers placements, and the watcher tells which accesses hit
pub record AreHooks {F G : Type 0} (can : F → Bor (List Run) → ℕ → Type 0) (gives : F → Bor (List Run) → ℕ → Option ℕ → Type 0)
    (may : G → Bor (List Span) → ℕ → ℕ → Type 0) (tells : G → Bor (List Span) → ℕ → ℕ → Bool → Type 0) (hooks : Hooks F G) : Type 0 where
  pub chooser : IsChooser can gives hooks.chooser.now
  pub watcher : IsWatcher may tells hooks.watcher.now

-- what a run is given: how free runs are chosen, the flat files that can be run, and what is watched
pub record Given : Type 0 where
  pub kind : Kind
  pub flats : List Values
  pub watched : Watched

abbrev pub given : Kind → Watched → List Values → Given
given kind watched flats = record { kind = kind; flats = flats; watched = watched }

abbrev pub given_by : {F G : Type 0} → Hooks F G → List Values → Given
given_by hooks flats = given (kind_of hooks.chooser.now) (watched_by hooks.watcher.now) flats
