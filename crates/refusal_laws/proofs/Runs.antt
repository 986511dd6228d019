-- The opening world is regular, and every event, turn and run of a regular world leaves a regular one.
use Rattle.std.proofs.Common.{◌≡◌, ℕ, zero, suc, ◌<◌, ◌≤◌, Bool, true, false, List, [], ◌∷◌, Option, Some, None, Result, Ok, Err, refl, ap, subst, arith}
use Rattle.std.specs.Prelude.{if◌then◌else◌}
use Rattle.std.specs.List.{AllByRecursion}
use Rattle.flat_loader.specs.Original.{block_pages}
use Rattle.flat_loader.specs.Frame.{frame_fits}
use Rattle.fd_tables.specs.Files.{OpenFiles}
use Rattle.quantum_sched.specs.Picked.{picked}
use Rattle.machine_world.specs.World.{World}
use Rattle.machine_world.specs.Families.{MayRun, ready_pids}
use Rattle.machine_world.specs.Free.{free}
use Rattle.machine_world.specs.Found.{Found, found, taken}
use Rattle.machine_world.specs.Event.{Outcome, went, strays, full, idle, event}
use Rattle.machine_world.specs.Turns.{Walk, End, remains_at, traced, turned, turn, going_on, quantum_turn, turns}
use Rattle.machine_world.specs.Boot.{StartLine, BootFault, start_path, placed, fitting, located, started, all_started, then_started, empty_world, boot}
use Rattle.machine_world.proofs.Runnable.{ready_found, may_run_still}
use Rattle.machine_world.proofs.Marks.{boots_leave_no_mark, events_leave_no_mark, turns_leave_no_mark}
use Rattle.machine_world.proofs.CountedBoots.{boots_begin_counted}
use Rattle.machine_world.proofs.CountedKept.{events_keep_counted, turns_keep_counted}
use Rattle.alone_laws.proofs.SoundRuns.{boots_are_sound, events_keep_sound, turns_keep_sound}
use Rattle.refusal_laws.specs.Regular.{HasBreak, IsRegularWorld}
use Rattle.refusal_laws.specs.Bounded.{IsWithin}
use Rattle.refusal_laws.specs.Laws.{BootsAreRegular, EventsKeepRegular, TurnsKeepRegular, RunsKeepRegular}
use Rattle.refusal_laws.proofs.Lists.{each_weaker}
use Rattle.refusal_laws.proofs.Bounded.{bounded}
use Rattle.refusal_laws.proofs.Bounds.{AreBounded, within, break_begins, bounds_kept}

breaks_of : (w : World) → AreBounded w → AllByRecursion HasBreak w.spaces
breaks_of w h = each_weaker IsWithin HasBreak (λ s is. is.break) w.spaces h.spaces

pub events_keep_regular : EventsKeepRegular
events_keep_regular w pid now t r may is =
    let bounds : AreBounded now = bounds_kept w (bounded w r) pid now t is in
    record {
      sound = events_keep_sound w pid now t r.sound may is;
      counted = events_keep_counted w pid now t r.counted is;
      unmarked = events_leave_no_mark w pid now t r.unmarked is;
      parents = bounds.parents;
      breaks = breaks_of now bounds;
    }

-- ---- turns and runs

its : (w : World) → IsRegularWorld w → AreBounded w
its w r = record { parents = r.parents; spaces = (bounded w r).spaces }

turned_bounded : (more : World → Walk) (w : World) (pid : ℕ) (o : Outcome) → event w pid ≡ o → IsRegularWorld w → MayRun w pid
    → ((v : World) → IsRegularWorld v → MayRun v pid → AreBounded (more v).world) → AreBounded (turned more w pid o).world
turned_bounded more w pid (went now t) is r may on = over t.over refl
  where
    over : (b : Bool) → t.over ≡ b → AreBounded (traced t (if b then remains_at now None else more now)).world
    over true ends = bounds_kept w (bounded w r) pid now t is
    over false ends = on now (events_keep_regular w pid now t r may is) (may_run_still w pid now t may is ends)
turned_bounded more w pid (strays access) is r may on = record { parents = r.parents; spaces = (bounded w r).spaces }
turned_bounded more w pid full is r may on = its w r
turned_bounded more w pid idle is r may on = its w r

turn_bounded : (count pid : ℕ) (w : World) → IsRegularWorld w → MayRun w pid → AreBounded (turn count pid w).world
unfolding turn
turn_bounded zero pid w r may = its w r
turn_bounded (suc count) pid w r may = turned_bounded (turn count pid) w pid (event w pid) refl r may (λ v. turn_bounded count pid v)

pub turns_keep_regular : TurnsKeepRegular
turns_keep_regular count pid w r may =
    let bounds : AreBounded (turn count pid w).world = turn_bounded count pid w r may in
    record {
      sound = turns_keep_sound count pid w r.sound may;
      counted = turns_keep_counted count pid w r.counted;
      unmarked = turns_leave_no_mark count pid w r.unmarked;
      parents = bounds.parents;
      breaks = breaks_of (turn count pid w).world bounds;
    }

quantum_regular : (more : World → Walk) (w : World) (count : ℕ) (chosen : Option ℕ) → ((pid : ℕ) → chosen ≡ Some pid → MayRun w pid) → IsRegularWorld w
    → ((v : World) → IsRegularWorld v → IsRegularWorld (more v).world) → IsRegularWorld (quantum_turn more w count chosen).world
quantum_regular more w count None may r on = r
quantum_regular more w count (Some pid) may r on = goes (turn count pid w) (turns_keep_regular count pid w r (may pid refl))
  where
    goes : (walk : Walk) → IsRegularWorld walk.world → IsRegularWorld (going_on more walk).world
    goes walk now = at walk.end
      where
        at : (end : Option End) → IsRegularWorld (going_on more (record walk { end = end })).world
        at (Some end) = now
        at None = on walk.world now

pub runs_keep_regular : RunsKeepRegular
unfolding turns
runs_keep_regular [] w r = r
runs_keep_regular (q ∷ qs) w r =
    quantum_regular (turns qs) w q.count (picked q.pick (ready_pids w.procs)) (λ pid is. ready_found w.procs w.next_pid q.pick pid is r.sound.pids) r (runs_keep_regular qs)

-- ---- the opening world

-- its pids are above 0, and memory is as large as it was
record Opens (count : ℕ) (w : World) : Type 0 where
  some : 0 < w.next_pid
  pages : w.rest.pages ≡ count
  bounds : AreBounded w

abbrev Begins : ℕ → Result World BootFault → Type 0
Begins pages (Ok now) = Opens pages now
Begins pages (Err fault) = Unit {0}

module _ (pages : ℕ) (most : pages ≤ 16384) where
  module _ (w : World) (h : Opens pages w) (s : StartLine) where
    begins_placed : (f : Found) (o : Option ℕ) → taken w (block_pages f.original) (free w) ≡ o → Begins pages (placed w s f o)
    begins_placed f None is = tt
    begins_placed f (Some page) is =
        record {
          some = omega arith;
          pages = h.pages;
          bounds = record {
            parents = (h.some, h.bounds.parents);
            spaces = (within _ (break_begins w (let same = h.pages in omega (arith, same, most)) page _ refl is), h.bounds.spaces);
          };
        }

    begins_fitting : (f : Found) (fits : Bool) → Begins pages (fitting w s f fits)
    begins_fitting f true = begins_placed f (taken w (block_pages f.original) (free w)) refl
    begins_fitting f false = tt

    begins_located : (o : Option Found) → Begins pages (located w s o)
    begins_located None = tt
    begins_located (Some f) = begins_fitting f (frame_fits f.original s.args [])

    begins_started : Begins pages (started w s)
    unfolding started
    begins_started = begins_located (found w.rest (start_path s))

  begins_all : (ss : List StartLine) (w : World) → Opens pages w → Begins pages (all_started w ss)
  unfolding all_started
  begins_all [] w h = h
  begins_all (s ∷ ss) w h = on (started w s) (begins_started w h s) (λ v. begins_all ss v)
    where
      on : (r : Result World BootFault) → Begins pages r → ((v : World) → Opens pages v → Begins pages (all_started v ss)) → Begins pages (then_started r (λ now. all_started now ss))
      on (Ok now) opens more = more now opens
      on (Err fault) opens more = tt

pub boots_are_regular : BootsAreRegular
unfolding boot
boots_are_regular rest starts w can closed few is =
    let empty : Opens rest.pages (empty_world rest) = record { some = omega arith; pages = refl; bounds = record { parents = tt; spaces = tt } } in
    let opens : Opens rest.pages w = subst (Begins rest.pages) is (begins_all rest.pages can.most starts (empty_world rest) empty) in
    record {
      sound = boots_are_sound rest starts w can few is;
      counted = boots_begin_counted rest starts w closed (omega (arith, few)) is;
      unmarked = boots_leave_no_mark rest starts w (ap (λ (fs : OpenFiles). fs.changed) closed) is;
      parents = opens.bounds.parents;
      breaks = breaks_of w opens.bounds;
    }
