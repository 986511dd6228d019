-- The hits of a run that goes on, beside those of the run of private spaces.
use Rattle.std.specs.Prelude.{◌≡◌, ◌≢◌, ℕ, false, List, Some}
use Rattle.byte_words.specs.declared.access.Access.{Access}
use Rattle.quantum_sched.specs.declared.Quantum.{Quantum}
use Rattle.machine_world.specs.World.{World}
use Rattle.machine_world.specs.Turns.{stray_at, turns}
use Rattle.alone_laws.specs.Sound.{IsSound}
use Rattle.memory_world.specs.Physical.{Physical, has_stray}
use Rattle.go_on_laws.specs.Alike.{Stands}
use Rattle.watch_points.specs.declared.point.PointKind.{PointKind}
use Rattle.watch_points.specs.declared.span.Span.{Span}
use Rattle.flat_machine.specs.Hits.{hits, hits_in_memory}

-- where nothing strays, the accesses over the one memory that stands for a world hit as those over private spaces do, whatever is watched
abbrev pub HitsAlike : Type 0
HitsAlike =
    (kind : PointKind) (spans : List Span) (quanta : List Quantum) (w : World) (p : Physical) → IsSound w → Stands w p → has_stray w.notes ≡ false →
    ((pid : ℕ) (access : Access) → (turns quanta w).end ≢ Some (stray_at pid access)) → hits kind spans quanta w ≡ hits_in_memory kind spans quanta p
