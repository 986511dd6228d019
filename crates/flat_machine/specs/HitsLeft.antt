-- What is kept of the hits of a turn and of a run: those that were found, and behind them those of what is left, are those of the whole.
use Rattle.std.specs.Prelude.{◌≡◌, ℕ, suc, ◌+◌, List, [], ◌∷◌, ◌++◌, Option, Some, None, Result, Ok, Err}
use Rattle.std.specs.declared.alloc.AllocError.{AllocError}
use Rattle.quantum_sched.specs.declared.Quantum.{Quantum}
use Rattle.byte_words.specs.declared.access.Access.{Access}
use Rattle.machine_world.specs.World.{World}
use Rattle.memory_world.specs.Physical.{Physical}
use Rattle.syscall_layer.specs.Parts.{halted_at}
use Rattle.watch_points.specs.declared.hits.Hit.{Hit}
use Rattle.watch_points.specs.declared.point.PointKind.{PointKind}
use Rattle.watch_points.specs.declared.span.Span.{Span}
use Rattle.watch_points.specs.Points.{Found, with_hits}
use Rattle.flat_machine.specs.declared.run.End.{End as Told}
use Rattle.flat_machine.specs.declared.turn.After.{After}
use Rattle.flat_machine.specs.declared.turn.After.TheVariants.{GoesOn}
use Rattle.flat_machine.specs.State.{State, world, one_memory}
use Rattle.flat_machine.specs.Runs.{Stops, gone_through}
use Rattle.flat_machine.specs.LeavesIn.{StopsIn}
use Rattle.flat_machine.specs.Hits.{hits, hits_in_memory}

-- ---- a turn, whose hits up to so many events `hits` tells

-- behind so many of its events it goes on in the new world
abbrev pub HitsLead : {W : Type 0} → (hits : ℕ → W → List Hit) → (before after : Found) → W → ℕ → W → Type 0
HitsLead hits before after old done new = (left : ℕ) → with_hits after (hits left new) ≡ with_hits before (hits (done + left) old)

-- it came to its end, or, out of memory, behind some of its events
abbrev pub TurnHits : {W : Type 0} → (hits : ℕ → W → List Hit) → (before after : Found) → (count : ℕ) → W → (done : ℕ) → Result (Option Told) AllocError → Type 0
TurnHits hits before after count old done (Ok end) = after ≡ with_hits before (hits count old)
TurnHits hits before after count old done (Err error) = after ≡ with_hits before (hits done old)

-- an event of it: the turn goes on in the new world, or makes no other hits
abbrev pub EventHits : {W : Type 0} → (hits : ℕ → W → List Hit) → (before after : Found) → W → W → Result After AllocError → Type 0
EventHits hits before after old new (Ok GoesOn) = HitsLead hits before after old 1 new
EventHits hits before after old new (Ok over) = (left : ℕ) → after ≡ with_hits before (hits (suc left) old)
EventHits hits before after old new (Err error) = after ≡ before

-- ---- a run, whose hits by some quanta `hits` tells

-- behind the turns of some quanta it goes on in the new world
abbrev pub HitsCome : {W : Type 0} → (hits : List Quantum → W → List Hit) → (before after : Found) → List Quantum → W → W → Type 0
HitsCome hits before after front old new = (back : List Quantum) → with_hits after (hits back new) ≡ with_hits before (hits (front ++ back) old)

-- out of memory: those of what was gone through
abbrev pub gone_through_in : {quanta : List Quantum} {old new : Physical} → StopsIn quanta old new → List Quantum
gone_through_in stops = stops.front ++ record stops.quantum { count = stops.done } ∷ []

pub record HitsStop (kind : PointKind) (spans : List Span) (before after : Found) (quanta : List Quantum) (old new : World) : Type 0 where
  pub stops : Stops quanta old new
  pub follow : after ≡ with_hits before (hits kind spans (gone_through stops) old)

pub record HitsStopIn (kind : PointKind) (spans : List Span) (before after : Found) (quanta : List Quantum) (old new : Physical) : Type 0 where
  pub stops : StopsIn quanta old new
  pub follow : after ≡ with_hits before (hits_in_memory kind spans (gone_through_in stops) old)

-- it goes on with any quanta, or has ended, whatever quanta are left
abbrev pub HitsLeave : PointKind → List Span → (before after : Found) → List Quantum → World → World → Result (Option Told) AllocError → Type 0
HitsLeave kind spans before after quanta old new (Ok None) = HitsCome (hits kind spans) before after quanta old new
HitsLeave kind spans before after quanta old new (Ok (Some end)) = (back : List Quantum) → after ≡ with_hits before (hits kind spans (quanta ++ back) old)
HitsLeave kind spans before after quanta old new (Err error) = HitsStop kind spans before after quanta old new

abbrev pub HitsLeaveIn : PointKind → List Span → (before after : Found) → List Quantum → Physical → Physical → Result (Option Told) AllocError → Type 0
HitsLeaveIn kind spans before after quanta old new (Ok None) = HitsCome (hits_in_memory kind spans) before after quanta old new
HitsLeaveIn kind spans before after quanta old new (Ok (Some end)) = (back : List Quantum) → after ≡ with_hits before (hits_in_memory kind spans (quanta ++ back) old)
HitsLeaveIn kind spans before after quanta old new (Err error) = HitsStopIn kind spans before after quanta old new

-- ---- a whole run of a machine

-- the hits that were found are those of its quanta, and out of memory those of what was gone through
abbrev pub HitsFollow : PointKind → List Span → (before after : Found) → List Quantum → State → State → Result Told AllocError → Type 0
HitsFollow kind spans before after quanta old new (Ok end) = after ≡ with_hits before (hits kind spans quanta (world old))
HitsFollow kind spans before after quanta old new (Err error) = HitsStop kind spans before after quanta (world old) (world new)

abbrev pub HitsFollowIn : PointKind → List Span → (before after : Found) → List Quantum → State → State → Result Told AllocError → Type 0
HitsFollowIn kind spans before after quanta old new (Ok end) = after ≡ with_hits before (hits_in_memory kind spans quanta (one_memory old))
HitsFollowIn kind spans before after quanta old new (Err error) = HitsStopIn kind spans before after quanta (one_memory old) (one_memory new)

-- a run that has ended at its first stray access finds none
abbrev pub NoneWhereHalted : State → (before after : Found) → Type 0
NoneWhereHalted old before after = (seen : Access) → halted_at old.mode old.kept.notes ≡ Some seen → after ≡ before
