-- Along turns and runs as many numbers are given as calls are noted, at most.
use Rattle.std.proofs.Common.{◌≡◌, ℕ, Bool, true, false, List, [], ◌∷◌, length, Option, Some, None, Result, Ok, Err, refl, ap, subst, ◌∙◌, arith}
use Rattle.byte_words.specs.declared.access.Access.{Access}
use Rattle.call_log.specs.Notes.{stray_note}
use Rattle.flat_loader.specs.Original.{block_pages}
use Rattle.flat_loader.specs.Frame.{frame_fits}
use Rattle.fd_tables.specs.Files.{OpenFiles}
use Rattle.fd_tables.specs.Changes.{with_table}
use Rattle.machine_world.specs.World.{World}
use Rattle.machine_world.specs.Ages.{kept_calls}
use Rattle.machine_world.specs.Free.{free}
use Rattle.machine_world.specs.Event.{Outcome, went, strays, full, idle, noted, event}
use Rattle.machine_world.specs.Turns.{turns}
use Rattle.machine_world.specs.Boot.{StartLine, BootFault, Found, found, start_path, taken, placed, fitting, located, started, then_started, all_started, empty_world, boot}
use Rattle.machine_world.specs.Order.{IsCounted}
use Rattle.machine_world.proofs.ByEvents.{Went, Keeps, by_turn, by_turns}
use Rattle.machine_world.proofs.CountedBoots.{boots_begin_counted}
use Rattle.machine_world.proofs.CountedKept.{runs_keep_counted}
use Rattle.refusal_laws.specs.Numbers.{GivesNumbers, TurnsGiveNumbers, RunsGiveNumbers, RunsGiveFewNumbers}
use Rattle.refusal_laws.proofs.Numbers.{event_gives}

-- ---- one after the other

gives_on : (u v w : World) → GivesNumbers u v → GivesNumbers v w → GivesNumbers u w
gives_on u v w first second = record { nodes = omega (arith, first.nodes, second.nodes); pipes = omega (arith, first.pipes, second.pipes) }

gives_itself : (w : World) → GivesNumbers w w
gives_itself w = record { nodes = omega arith; pipes = omega arith }

module _ (u : World) where
  gives_event : (w : World) (pid : ℕ) → GivesNumbers u w → Keeps (GivesNumbers u) (event w pid)
  gives_event w pid h = on (event w pid) (event_gives w pid)
    where
      on : (o : Outcome) → Went (λ now t. GivesNumbers w now) o → Keeps (GivesNumbers u) o
      on (went now t) k = gives_on u w now h k
      on (strays access) k = tt
      on full k = tt
      on idle k = tt

  gives_strays : (w : World) (pid : ℕ) (access : Access) → GivesNumbers u w → GivesNumbers u (noted (stray_note pid access) w)
  gives_strays w pid access h = record { nodes = h.nodes; pipes = h.pipes }

pub turns_give_numbers : TurnsGiveNumbers
turns_give_numbers count pid w = by_turn (GivesNumbers w) (gives_event w) (gives_strays w) count pid w (gives_itself w)

pub runs_give_numbers : RunsGiveNumbers
runs_give_numbers quanta w = by_turns (GivesNumbers w) (gives_event w) (gives_strays w) quanta w (gives_itself w)

-- ---- boot

-- a start line gives a table alone, and notes no call
record Begun (w now : World) : Type 0 where
  tree : now.rest.tree ≡ w.rest.tree
  pipe : now.rest.files.next_pipe ≡ w.rest.files.next_pipe
  calls : kept_calls now.notes ≡ kept_calls w.notes

abbrev BegunIn : World → Result World BootFault → Type 0
BegunIn w (Ok now) = Begun w now
BegunIn w (Err fault) = Unit {0}

module _ (w : World) (s : StartLine) where
  begun_placed : (f : Found) (page : Option ℕ) → BegunIn w (placed w s f page)
  unfolding with_table
  begun_placed f None = tt
  begun_placed f (Some page) = record { tree = refl; pipe = refl; calls = refl }

  begun_fitting : (f : Found) (fits : Bool) → BegunIn w (fitting w s f fits)
  begun_fitting f true = begun_placed f (taken w (block_pages f.original) (free w))
  begun_fitting f false = tt

  begun_located : (o : Option Found) → BegunIn w (located w s o)
  begun_located None = tt
  begun_located (Some f) = begun_fitting f (frame_fits f.original s.args [])

  begun_started : BegunIn w (started w s)
  unfolding started
  begun_started = begun_located (found w.rest (start_path s))

begun_all : (ss : List StartLine) (w : World) → BegunIn w (all_started w ss)
unfolding all_started
begun_all [] w = record { tree = refl; pipe = refl; calls = refl }
begun_all (s ∷ ss) w = on (begun_all ss) (started w s) (begun_started w s)
  where
    behind : (now : World) → Begun w now → (r : Result World BootFault) → BegunIn now r → BegunIn w r
    behind now h (Ok last) k = record { tree = k.tree ∙ h.tree; pipe = k.pipe ∙ h.pipe; calls = k.calls ∙ h.calls }
    behind now h (Err fault) k = tt

    on : ((v : World) → BegunIn v (all_started v ss)) → (r : Result World BootFault) → BegunIn w r → BegunIn w (then_started r (λ now. all_started now ss))
    on more (Ok now) h = behind now h (all_started now ss) (more now)
    on more (Err fault) h = tt

pub runs_give_few_numbers : RunsGiveFewNumbers
unfolding boot
runs_give_few_numbers rest starts w quanta none few is =
    let begun : Begun (empty_world rest) w = subst (BegunIn (empty_world rest)) is (begun_all starts (empty_world rest)) in
    let gives : GivesNumbers w (turns quanta w).world = runs_give_numbers quanta w in
    let counted : IsCounted (turns quanta w).world = runs_keep_counted quanta w (boots_begin_counted rest starts w none few is) in
    let nodes : length w.rest.tree ≡ length rest.tree = ap length begun.tree in
    let first : rest.files.next_pipe ≡ 1 = ap (λ (fs : OpenFiles). fs.next_pipe) none in
    let pipe : w.rest.files.next_pipe ≡ 1 = begun.pipe ∙ first in
    let calls : kept_calls w.notes ≡ 0 = begun.calls in
    record {
      nodes = omega (arith, gives.nodes, nodes, calls, counted.calls);
      tables = omega (arith, counted.tables, counted.calls);
      pipes = omega (arith, gives.pipes, pipe, calls, counted.calls);
    }
