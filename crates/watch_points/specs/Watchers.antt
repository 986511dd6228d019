-- What is watched, and the hits of instructions that are watched.
use Rattle.std.specs.Prelude.{◌≡◌, ◌<◌, ◌≤◌, ℕ, Bool, true, List}
use Rattle.std.specs.Borrow.{Bor}
use Rattle.rv32im_step.specs.declared.regs.Regs.{Regs}
use Rattle.rv32im_step.specs.declared.stop.Stop.TheVariants.{Next}
use Rattle.region_watch.specs.declared.instructions.Progress.{Progress}
use Rattle.region_watch.specs.declared.watch.Watch.{Watch}
use Rattle.region_watch.specs.Private.{passes, passed_bytes}
use Rattle.region_watch.specs.Instructions.{all_asked}
use Rattle.watch_points.specs.declared.point.PointKind.{PointKind}
use Rattle.watch_points.specs.declared.point.WatchPoint.{WatchPoint}
use Rattle.watch_points.specs.declared.span.Span.{Span}
use Rattle.watch_points.specs.declared.watcher.Watcher.{Watcher}
use Rattle.watch_points.specs.Points.{Found, AreSpans, IsPoint, hits_in, kind_of_point, with_hits}

-- a watch point answers, and these are spans
pub record Watches {F : Type 0} (can : F → Bor (List Span) → ℕ → ℕ → Type 0) (gives : F → Bor (List Span) → ℕ → ℕ → Bool → Type 0) (asked : WatchPoint F) (those : List Span) : Type 0 where
  pub point : IsPoint can gives asked
  pub spans : AreSpans those

-- the same of a watcher
abbrev pub IsWatcher : {F : Type 0} → (F → Bor (List Span) → ℕ → ℕ → Type 0) → (F → Bor (List Span) → ℕ → ℕ → Bool → Type 0) → Watcher F → Type 0
IsWatcher can gives watcher = Watches can gives watcher.point.now watcher.spans.now

-- when an access hits, and what is watched
pub record Watched : Type 0 where
  pub point : PointKind
  pub spans : List Span

abbrev pub watched_at : {F : Type 0} → WatchPoint F → List Span → Watched
watched_at point spans = record { point = kind_of_point point; spans = spans }

abbrev pub watched_by : {F : Type 0} → Watcher F → Watched
watched_by watcher = watched_at watcher.point.now watcher.spans.now

-- ---- up to `count` instructions under a watch

-- none more than may be is carried out, and at least one of those that may be, unless the first isn't
pub record ComesOn (count : ℕ) (progress : Progress) : Type 0 where
  pub bound : progress.done ≤ count
  pub goes : 0 < count → progress.stop ≡ Next → 0 < progress.done

-- the hits that are found behind them: the loads and stores that they carry out and that hit, in their order
abbrev pub found_behind : Watched → (pid count : ℕ) → Regs → Watch → Found → Found
found_behind watched pid count regs watch found =
    with_hits found (hits_in watched.point watched.spans pid (all_asked count (passes watch.mode watch.owners.now true) regs (passed_bytes watch.mode watch.owners.now watch.mem.now)))
