-- The process of a turn may run, and is that of the world.
use Rattle.std.proofs.Common.{◌≡◌, ◌≢◌, ℕ, true, false, List, [], ◌∷◌, map, length, Option, Some, None, refl, sym, ap, ◌∙◌, arith}
use Rattle.std.specs.Prelude.{◌==◌, option_map, IfSome}
use Rattle.std.proofs.lemmas.List.{length-map}
use Rattle.std.proofs.lemmas.Bool.Decides.{nat_tests}
use Rattle.vfork_exec.specs.declared.entry.Entry.{Entry}
use Rattle.vfork_exec.specs.Keyed.{Falls}
use Rattle.vfork_exec.specs.Procs.{CanRun, process, ready, state_at}
use Rattle.vfork_exec.specs.Procs.{pid_of as entry_pid, ready_pids as ready_entries}
use Rattle.quantum_sched.specs.Picked.{picked}
use Rattle.machine_world.specs.World.{Process, pid_of}
use Rattle.machine_world.specs.Families.{MayRun, ready_pids}
use Rattle.machine_world.specs.Families.{state_at as state_in}
use Rattle.machine_world.specs.Turns.{all_ended, stuck, out_of_quanta, Walk, none_runs, last_end, turns}
use Rattle.machine_world.proofs.Runnable.{ready_found}
use Rattle.machine_world.proofs.RunLaws.{none_left}
use Rattle.kept_parts.specs.declared.task.Task.{Task}
use Rattle.kept_parts.specs.Kept.{Kept}
use Rattle.kept_parts.specs.Stands.{About, process_of, world_of}
use Rattle.kept_parts.proofs.Common.ProcessList.{ready_is, falls_is}
use Rattle.kept_parts.proofs.Common.FoundInWorld.{find_process}
use Rattle.kept_parts.proofs.Common.AnyRun.{some_about}

-- ---- who may run

-- a process of the world has the state of its entry
state_is : (a : About) (k : Kept) (pid : ℕ) → state_in (world_of a k) pid ≡ state_at k.procs pid
unfolding world_of
state_is a k pid = ap (option_map (λ (p : Process). p.state)) (find_process pid k.procs.entries) ∙ same (process k.procs pid)
  where
    same : (o : Option (Entry Task)) → option_map (λ (p : Process). p.state) (option_map process_of o) ≡ option_map (λ (e : Entry Task). e.state) o
    same None = refl
    same (Some e) = refl

pub can_run : (a : About) (k : Kept) (pid : ℕ) → MayRun (world_of a k) pid → CanRun k.procs pid
can_run a k pid may = sym (state_is a k pid) ∙ may

pub may_run : (a : About) (k : Kept) (pid : ℕ) → CanRun k.procs pid → MayRun (world_of a k) pid
may_run a k pid can = state_is a k pid ∙ can

-- ---- the process of a turn

world_ready : (a : About) (k : Kept) → ready_pids (world_of a k).procs ≡ ready_entries k.procs
unfolding world_of
world_ready a k = ready_is k.procs

pub picked_world : (a : About) (k : Kept) (pick : ℕ) (o : Option ℕ) → o ≡ picked pick (ready_entries k.procs) → o ≡ picked pick (ready_pids (world_of a k).procs)
picked_world a k pick o h = h ∙ ap (picked pick) (sym (world_ready a k))

world_falls : (a : About) (k : Kept) (next : ℕ) → Falls entry_pid next k.procs.entries → Falls pid_of next (world_of a k).procs
unfolding world_of
world_falls a k next falls = falls_is k.procs next falls

pub picked_can_run : (k : Kept) (next : ℕ) → Falls entry_pid next k.procs.entries → (pick : ℕ) (o : Option ℕ) → o ≡ picked pick (ready_entries k.procs) → IfSome o (λ pid. CanRun k.procs pid)
picked_can_run k next falls pick None h = tt
picked_can_run k next falls pick (Some pid) h =
    can_run some_about k pid
    (ready_found (world_of some_about k).procs next pick pid (sym (picked_world some_about k pick (Some pid) h)) (world_falls some_about k next falls))

-- ---- where none may run

pub none_lives : (a : About) (k : Kept) → length k.procs.entries ≡ 0 → none_runs (world_of a k) ≡ all_ended
unfolding world_of
none_lives a k none =
    let test : (length (map process_of k.procs.entries) == 0) ≡ true = grind (arith, nat_tests, length-map {A = Entry Task} {B = Process}) in
    rw test refl

pub some_live : (a : About) (k : Kept) → length k.procs.entries ≢ 0 → none_runs (world_of a k) ≡ stuck
unfolding world_of
some_live a k some =
    let test : (length (map process_of k.procs.entries) == 0) ≡ false = grind (arith, nat_tests, length-map {A = Entry Task} {B = Process}) in
    rw test refl

-- ---- behind the last quantum

last_is : (a : About) (k : Kept) → (turns [] (world_of a k)).end ≡ Some (last_end (world_of a k) (ready_entries k.procs))
last_is a k = ap (λ (v : Walk). v.end) (none_left (world_of a k)) ∙ ap (λ (pids : List ℕ). Some (last_end (world_of a k) pids)) (world_ready a k)

pub last_of_none : (a : About) (k : Kept) → length (ready k.procs) ≡ 0 → (turns [] (world_of a k)).end ≡ Some (none_runs (world_of a k))
last_of_none a k none = last_is a k ∙ ap Some (tells (ready k.procs) none)
  where
    tells : (es : List (Entry Task)) → length es ≡ 0 → last_end (world_of a k) (map entry_pid es) ≡ none_runs (world_of a k)
    tells [] empty = refl
    tells (e ∷ es) empty = absurd (omega arith)

pub last_of_some : (a : About) (k : Kept) → length (ready k.procs) ≢ 0 → (turns [] (world_of a k)).end ≡ Some out_of_quanta
last_of_some a k some = last_is a k ∙ ap Some (tells (ready k.procs) some)
  where
    tells : (es : List (Entry Task)) → length es ≢ 0 → last_end (world_of a k) (map entry_pid es) ≡ out_of_quanta
    tells [] there = absurd (there refl)
    tells (e ∷ es) there = refl
