-- What a run over one memory only adds to, and what it leaves.
use Rattle.std.proofs.Common.{◌≡◌, ℕ, zero, suc, ◌<◌, List, [], ◌∷◌, ◌++◌, length, Some, None, refl, ap, ◌∙◌, arith, append_assoc}
use Rattle.std.specs.Prelude.{Option, Result, Ok, Err, slice_get}
use Rattle.std.proofs.lemmas.Option.{same_Some}
use Rattle.page_runs.specs.declared.place.Kind.{Kind}
use Rattle.mmap_rules.specs.Space.{Space}
use Rattle.call_log.specs.declared.errno.Errno.{Errno}
use Rattle.call_log.specs.Notes.{Note}
use Rattle.call_log.specs.Programs.{IsProgramBelow}
use Rattle.mem_files.specs.Inodes.{program_of}
use Rattle.mem_files.specs.Paths.{lookup}
use Rattle.machine_world.specs.World.{Program, Process, Rest, World}
use Rattle.machine_world.specs.Asks.{Ask}
use Rattle.machine_world.specs.Found.{Found, found_program, found_mark}
use Rattle.machine_world.specs.FamilyCalls.{or_eacces, runs_node, runs}
use Rattle.machine_world.specs.Event.{ended, ask_of}
use Rattle.machine_world.specs.Programs.{AreLoaded}
use Rattle.machine_world.proofs.EachChange.{EachChange}
use Rattle.machine_world.proofs.ByRows.{by_rows}
use Rattle.machine_world.proofs.ByEvents.{Answered, Happened}
use Rattle.memory_world.specs.Physical.{Physical, After, after, no_room, nobody, event_in, turn_in, turns_in}
use Rattle.memory_world.specs.After.{AfterHas}
use Rattle.memory_world.specs.Growth.{Adds, EventsAdd, TurnsAdd, RunsAdd, LeavesPrograms, EventsLeavePrograms, TurnsLeavePrograms, RunsLeavePrograms}
use Rattle.memory_world.proofs.ByTurnsIn.{by_turn_in, by_run_in}
use Rattle.memory_world.proofs.ByEventsIn.{Steady, by_event_in}

-- ---- a program that runs is there

place_below : (ps : List Program) (i : ℕ) (p : Program) → slice_get ps i ≡ Some p → i < length ps
place_below [] i p is = absurd cc
place_below (p ∷ ps) zero q is = omega arith
place_below (p ∷ ps) (suc i) q is = let more = place_below ps i q is in omega (arith, more)

program_below : (ps : List Program) (f : Found) (i : ℕ) (p : Option Program) → slice_get ps i ≡ p → found_program i p ≡ Some f → f.index < length ps
program_below ps f i None there same = absurd cc
program_below ps f i (Some p) there same =
    let e : i ≡ f.index = ap (λ (g : Found). g.index) (same_Some _ _ same) in
    let below = place_below ps i p there in
    omega (arith, e, below)

mark_below : (ps : List Program) (f : Found) (mark : Option ℕ) → found_mark ps mark ≡ Some f → f.index < length ps
mark_below ps f None same = absurd cc
mark_below ps f (Some i) same = program_below ps f i (slice_get ps i) refl same

mark_runs : (o : Option Found) (f : Found) → or_eacces o ≡ Ok f → o ≡ Some f
mark_runs None f is = absurd cc
mark_runs (Some g) f is = let same : g ≡ f = cc in ap Some same

runs_below : (rest : Rest) (path : List ℕ) (f : Found) → runs rest path ≡ Ok f → f.index < length rest.programs
runs_below rest path f is = by_node (lookup rest.tree path) is
  where
    by_node : (node : Result (Option ℕ) Errno) → runs_node rest node ≡ Ok f → f.index < length rest.programs
    by_node (Ok (Some node)) same =
        mark_below rest.programs f (program_of rest.tree node) (mark_runs (found_mark rest.programs (program_of rest.tree node)) f same)
    by_node (Ok None) same = absurd cc
    by_node (Err errno) same = absurd cc

-- ---- since a world

-- the console, and what stays
record Outside (old : Rest) (console : List ℕ) (programs : List Program) (pages : ℕ) (kind : Kind) : Type 0 where
  written : List ℕ
  wrote : console ≡ old.console ++ written
  same_programs : programs ≡ old.programs
  same_pages : pages ≡ old.pages
  same_kind : kind ≡ old.kind

-- the notes
record Noted (old : World) (notes : List Note) : Type 0 where
  more : List Note
  before : notes ≡ more ++ old.notes
  loaded : AreLoaded (length old.rest.programs) old.notes → AreLoaded (length old.rest.programs) notes

module _ (old : World) where
  abbrev OutsideOf : Rest → Type 0
  OutsideOf rest = Outside old.rest rest.console rest.programs rest.pages rest.kind

  abbrev Since : World → Type 0
  Since now = OutsideOf now.rest × Noted old now.notes

  begun : Since old
  begun = (record { written = []; wrote = append_none old.rest.console; same_programs = refl; same_pages = refl; same_kind = refl }, record { more = []; before = refl; loaded = λ are. are })
    where
      append_none : (xs : List ℕ) → xs ≡ xs ++ []
      append_none [] = refl
      append_none (x ∷ xs) = ap (λ ys. x ∷ ys) (append_none xs)

  one_more : (note : Note) (notes : List Note) → IsProgramBelow (length old.rest.programs) note → Noted old notes → Noted old (note ∷ notes)
  one_more note notes below h = record { more = note ∷ h.more; before = ap (λ ns. note ∷ ns) h.before; loaded = λ are. (below, h.loaded are) }

  -- a row writes to the console behind all else, and leaves the rest of it
  rows_since : (a : Ask) → OutsideOf a.rest → EachChange OutsideOf a
  rows_since a h = record {
    dup = λ free is. h;
    dup3 = λ none. h;
    close = λ none. h;
    seek = λ v node at shows is. h;
    list = λ v node shows is. h;
    read = λ v node spans shows reads is. h;
    take = λ v spans shows reads. h;
    write = λ v node bytes nodes shows may some is. h;
    print = λ v bytes shows may. record {
      written = h.written ++ bytes;
      wrote = ap (λ console. console ++ bytes) h.wrote ∙ append_assoc old.rest.console h.written bytes;
      same_programs = h.same_programs;
      same_pages = h.same_pages;
      same_kind = h.same_kind;
    };
    pipe = λ ends free. h;
    drain = λ v id end spans shows reads. h;
    fill = λ v id end bytes shows may. h;
    make = λ nodes is. h;
    remove = λ nodes is. h;
    open_old = λ fd node free found none. h;
    open_new = λ fd nodes free found may made. h;
  }

  module _ (w : World) (h : Since w) where
    call_since : (a : Ask) → Answered (λ now t. Since now) OutsideOf w a
    unfolding ended
    call_since a = record {
      reply = λ ended r m holds room. (holds, one_more _ w.notes tt h.1);
      wait = λ state. h;
      exit = λ room. (h.0, one_more _ _ tt (one_more _ w.notes tt h.1));
      fork = λ few room. (h.0, one_more _ w.notes tt h.1);
      load = λ f s page is fits room.
          let below = runs_below w.rest _ f is in
          let same : length w.rest.programs ≡ length old.rest.programs = ap length h.0.same_programs in
          (h.0, one_more _ _ (omega (arith, below, same)) (one_more _ w.notes tt h.1));
    }

    act_since : (p : Process) (s : Space) → Happened (λ now t. Since now) OutsideOf w p s
    unfolding ended
    act_since p s = record {
      step = λ regs bytes. h;
      trap = λ signal. (h.0, one_more _ w.notes tt h.1);
      calls = λ bytes. call_since (ask_of w p s bytes);
    }

  steady : Steady Since (λ w. OutsideOf)
  steady = record {
    wakes = λ now h. h;
    shows = λ memory now h. h;
    strays = λ pid seen now h. (h.0, one_more _ now.notes tt h.1);
    reaps = λ ended now h. h;
    acts = λ w q s h. act_since w h q s;
    rests = λ w h. h.0;
    rows = λ w q s bytes h. by_rows OutsideOf (ask_of w q s bytes) (rows_since (ask_of w q s bytes) h.0) h.0;
  }

  events_since : (p : Physical) (pid : ℕ) → Since p.world → AfterHas Since (event_in p pid)
  events_since = by_event_in Since (λ w. OutsideOf) steady

  -- what it says of a world
  adds : (now : World) → Since now → Adds old now
  adds now h = ((h.1.more, h.1.before), (h.0.written, h.0.wrote))

  leaves : (now : World) → Since now → LeavesPrograms old now
  leaves now h = record { programs = h.0.same_programs; pages = h.0.same_pages; kind = h.0.same_kind; loaded = h.1.loaded }

  each_after : (P : World → Type 0) → ((now : World) → Since now → P now) → (a : After) → AfterHas Since a → AfterHas P a
  each_after P says (after now over) h = says now.world h
  each_after P says (no_room now) h = says now.world h
  each_after P says nobody h = tt

-- ---- events, turns and runs

pub events_add : EventsAdd
events_add p pid = each_after p.world (Adds p.world) (adds p.world) (event_in p pid) (events_since p.world p pid (begun p.world))

pub turns_add : TurnsAdd
turns_add count pid p = adds p.world (turn_in count pid p).now.world (by_turn_in (λ now. Since p.world now.world) (events_since p.world) count pid p (begun p.world))

pub runs_add : RunsAdd
runs_add quanta p = adds p.world (turns_in quanta p).now.world (by_run_in (λ now. Since p.world now.world) (events_since p.world) quanta p (begun p.world))

pub events_leave_programs : EventsLeavePrograms
events_leave_programs p pid =
    each_after p.world (LeavesPrograms p.world) (leaves p.world) (event_in p pid) (events_since p.world p pid (begun p.world))

pub turns_leave_programs : TurnsLeavePrograms
turns_leave_programs count pid p = leaves p.world (turn_in count pid p).now.world (by_turn_in (λ now. Since p.world now.world) (events_since p.world) count pid p (begun p.world))

pub runs_leave_programs : RunsLeavePrograms
runs_leave_programs quanta p = leaves p.world (turns_in quanta p).now.world (by_run_in (λ now. Since p.world now.world) (events_since p.world) quanta p (begun p.world))
