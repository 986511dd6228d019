-- The programs that load notes name.
use Rattle.std.proofs.Common.{◌≡◌, ℕ, zero, suc, ◌<◌, Bool, true, false, List, [], ◌∷◌, length, Some, None, refl, sym, ap, subst, arith}
use Rattle.std.specs.Prelude.{Option, Result, Ok, Err, slice_get}
use Rattle.std.proofs.lemmas.Option.{same_Some}
use Rattle.mmap_rules.specs.Space.{Space}
use Rattle.flat_loader.specs.Original.{block_pages}
use Rattle.flat_loader.specs.Frame.{frame_fits}
use Rattle.call_log.specs.declared.errno.Errno.{Errno}
use Rattle.mem_files.specs.Inodes.{program_of}
use Rattle.mem_files.specs.Paths.{lookup}
use Rattle.machine_world.specs.World.{Program, Process, Rest, World}
use Rattle.machine_world.specs.Free.{free}
use Rattle.machine_world.specs.Asks.{Ask}
use Rattle.machine_world.specs.Found.{Found, found, found_program, found_mark, found_node, taken}
use Rattle.machine_world.specs.FamilyCalls.{or_eacces, runs_node, runs}
use Rattle.machine_world.specs.Event.{ended, ask_of, event}
use Rattle.machine_world.specs.Boot.{StartLine, BootFault, start_path, placed, fitting, located, started, all_started, then_started, empty_world, boot}
use Rattle.machine_world.specs.Programs.{AreLoaded, LoadsPrograms, BootsLoadPrograms, TurnsLoadPrograms, RunsLoadPrograms}
use Rattle.machine_world.proofs.EachChange.{kept_outside}
use Rattle.machine_world.proofs.ByRows.{by_rows}
use Rattle.machine_world.proofs.ByEvents.{Answered, Happened, Keeps, by_event, by_turn, by_turns}

-- ---- a program that is found is there

place_below : (ps : List Program) (i : ℕ) (p : Program) → slice_get ps i ≡ Some p → i < length ps
place_below [] i p is = absurd cc
place_below (p ∷ ps) zero q is = omega arith
place_below (p ∷ ps) (suc i) q is = let more = place_below ps i q is in omega (arith, more)

program_below : (rest : Rest) (f : Found) (i : ℕ) (p : Option Program) → slice_get rest.programs i ≡ p → found_program i p ≡ Some f → f.index < length rest.programs
program_below rest f i None there same = absurd cc
program_below rest f i (Some p) there same =
    let e : i ≡ f.index = ap (λ (g : Found). g.index) (same_Some _ _ same) in
    let below = place_below rest.programs i p there in
    omega (arith, e, below)

mark_below : (rest : Rest) (f : Found) (mark : Option ℕ) → found_mark rest.programs mark ≡ Some f → f.index < length rest.programs
mark_below rest f None same = absurd cc
mark_below rest f (Some i) same = program_below rest f i (slice_get rest.programs i) refl same

found_below : (rest : Rest) (path : List ℕ) (f : Found) → found rest path ≡ Some f → f.index < length rest.programs
found_below rest path f is = by_node (lookup rest.tree path) is
  where
    by_node : (node : Result (Option ℕ) Errno) → found_node rest node ≡ Some f → f.index < length rest.programs
    by_node (Ok (Some node)) same = mark_below rest f (program_of rest.tree node) same
    by_node (Ok None) same = absurd cc
    by_node (Err errno) same = absurd cc

mark_runs : (o : Option Found) (f : Found) → or_eacces o ≡ Ok f → o ≡ Some f
mark_runs None f is = absurd cc
mark_runs (Some g) f is = let same : g ≡ f = cc in ap Some same

runs_below : (rest : Rest) (path : List ℕ) (f : Found) → runs rest path ≡ Ok f → f.index < length rest.programs
runs_below rest path f is = by_node (lookup rest.tree path) is
  where
    by_node : (node : Result (Option ℕ) Errno) → runs_node rest node ≡ Ok f → f.index < length rest.programs
    by_node (Ok (Some node)) same =
        mark_below rest f (program_of rest.tree node) (mark_runs (found_mark rest.programs (program_of rest.tree node)) f same)
    by_node (Ok None) same = absurd cc
    by_node (Err errno) same = absurd cc

-- ---- an event

-- so many programs
abbrev Counts : ℕ → Rest → Type 0
Counts n rest = length rest.programs ≡ n

module _ (n : ℕ) (w : World) (h : LoadsPrograms n w) where
  call_loads : (a : Ask) → Answered (λ now t. LoadsPrograms n now) (Counts n) w a
  unfolding ended
  call_loads a = record {
    reply = λ ended r m same room. record { count = same; loaded = (tt, h.loaded) };
    wait = λ state. record { count = h.count; loaded = h.loaded };
    exit = λ room. record { count = h.count; loaded = (tt, (tt, h.loaded)) };
    fork = λ few room. record { count = h.count; loaded = (tt, h.loaded) };
    load = λ f s page is fits room.
        let below = runs_below w.rest _ f is in
        record { count = h.count; loaded = (omega (arith, below, h.count), (tt, h.loaded)) };
  }

  act_loads : (p : Process) (s : Space) → Happened (λ now t. LoadsPrograms n now) (Counts n) w p s
  unfolding ended
  act_loads p s = record {
    step = λ regs bytes. record { count = h.count; loaded = h.loaded };
    trap = λ signal. record { count = h.count; loaded = (tt, h.loaded) };
    calls = λ bytes. call_loads (ask_of w p s bytes);
  }

  event_loads : (pid : ℕ) → Keeps (LoadsPrograms n) (event w pid)
  event_loads pid =
      by_event (λ now t. LoadsPrograms n now) (Counts n) (λ now t kept. record { count = kept.count; loaded = kept.loaded }) w h.count pid (λ p s lives has. act_loads p s.space)
      (λ p s bytes. by_rows (Counts n) (ask_of w p s bytes) (kept_outside (λ programs pages kind. length programs ≡ n) (ask_of w p s bytes) h.count) h.count)

-- ---- turns

pub turn_loads_programs : TurnsLoadPrograms
turn_loads_programs n count pid w h =
    by_turn (LoadsPrograms n) (λ v own holds. event_loads n v holds own) (λ v own access holds. record { count = holds.count; loaded = (tt, holds.loaded) }) count pid w h

pub run_loads_programs : RunsLoadPrograms
run_loads_programs n quanta w h =
    by_turns (LoadsPrograms n) (λ v own holds. event_loads n v holds own) (λ v own access holds. record { count = holds.count; loaded = (tt, holds.loaded) }) quanta w h

-- ---- the start lines

-- what a start line gives has its load note, of a program that is there, and the same programs
abbrev Began : List Program → Result World BootFault → Type 0
Began programs (Ok now) = AreLoaded (length programs) now.notes × (now.rest.programs ≡ programs)
Began programs (Err fault) = Unit {0}

module _ (w : World) (are : AreLoaded (length w.rest.programs) w.notes) (s : StartLine) where
  began_placed : (f : Found) → f.index < length w.rest.programs → (page : Option ℕ) → Began w.rest.programs (placed w s f page)
  began_placed f below None = tt
  began_placed f below (Some page) = ((below, are), refl)

  began_fitting : (f : Found) → f.index < length w.rest.programs → (fits : Bool) → Began w.rest.programs (fitting w s f fits)
  began_fitting f below true = began_placed f below (taken w (block_pages f.original) (free w))
  began_fitting f below false = tt

  began_located : (found : Option Found) → ((f : Found) → found ≡ Some f → f.index < length w.rest.programs) → Began w.rest.programs (located w s found)
  began_located None below = tt
  began_located (Some f) below = began_fitting f (below f refl) (frame_fits f.original s.args [])

  began_started : Began w.rest.programs (started w s)
  unfolding started
  began_started = began_located (found w.rest (start_path s)) (λ f is. found_below w.rest (start_path s) f is)

began_all : (programs : List Program) (ss : List StartLine) (w : World) → w.rest.programs ≡ programs → AreLoaded (length programs) w.notes → Began programs (all_started w ss)
unfolding all_started
began_all programs [] w same are = (are, same)
began_all programs (s ∷ ss) w same are = on (started w s) (subst (λ r. Began r (started w s)) same (began_started w (subst (λ r. AreLoaded (length r) w.notes) (sym same) are) s))
    (λ v h is. began_all programs ss v h is)
  where
    on : (r : Result World BootFault) → Began programs r → ((v : World) → v.rest.programs ≡ programs → AreLoaded (length programs) v.notes → Began programs (all_started v ss))
        → Began programs (then_started r (λ now. all_started now ss))
    on (Ok now) h more = more now h.1 h.0
    on (Err fault) h more = tt

pub boot_loads_programs : BootsLoadPrograms
unfolding boot
boot_loads_programs rest starts w is =
    let began = subst (Began rest.programs) is (began_all rest.programs starts (empty_world rest) refl tt) in
    record { count = ap length began.1; loaded = began.0 }
