-- An end writes nothing: what comes of it in the world of private spaces comes of it in the one memory.
use Rattle.std.proofs.Common.{◌≡◌, ℕ, Bool, true, false, List, Option, Some, None, refl, ap, ◌∙◌}
use Rattle.call_log.specs.Notes.{Note}
use Rattle.vfork_exec.specs.declared.entry.Entry.{Entry}
use Rattle.vfork_exec.specs.Procs.{Lives, borrows}
use Rattle.mmap_rules.specs.Held.{Held}
use Rattle.call_log.specs.declared.how.How.{How}
use Rattle.vfork_exec.specs.Keyed.{find}
use Rattle.machine_world.specs.World.{Process, LiveSpace, Recording, World, pid_of, id_of}
use Rattle.machine_world.specs.Event.{trapped, in_space, by_process, at_process}
use Rattle.memory_world.specs.Physical as all
use Rattle.memory_world.specs.Physical.{Physical, carried, settled_in, killed, died_in}
use Rattle.memory_world.proofs.InMemory.{BeginsNothing, trapped_begins}
use Rattle.kept_parts.specs.Kept.{Kept}
use Rattle.kept_parts.specs.declared.task.Task.{Task}
use Rattle.kept_parts.specs.Regular.{Regular}
use Rattle.kept_parts.specs.Gone.{space_left, ended, gone}
use Rattle.kept_parts.specs.Calls.{LivesIn}
use Rattle.kept_parts.proofs.Common.RunningProcess.{runs_in}

-- ---- the end of a process by its number

module _ (p : Physical) (signal : ℕ) where
  pub died_carried : (pid : ℕ) → died_in p pid signal ≡ settled_in (carried p p.memory (at_process p.world pid (λ q s. trapped p.world q signal)))
  unfolding died_in all.at_process_in at_process
  died_carried pid = by_found (find pid_of pid p.world.procs)
    where
      in_either : (q : Process) (o : Option LiveSpace) → all.in_space_in (λ q s. settled_in (killed p q signal)) q o ≡ settled_in (carried p p.memory (in_space (λ q s. trapped p.world q signal) q o))
      in_either q (Some s) = refl
      in_either q None = refl

      by_found : (o : Option Process) → all.by_process_in p.world.spaces (λ q s. settled_in (killed p q signal)) o ≡ settled_in (carried p p.memory (by_process p.world.spaces (λ q s. trapped p.world q signal) o))
      by_found (Some q) = in_either q (find id_of q.space p.world.spaces)
      by_found None = refl

pub ending_begins : (w : World) (pid signal : ℕ) → BeginsNothing (at_process w pid (λ q s. trapped w q signal))
unfolding at_process
ending_begins w pid signal = by_found (find pid_of pid w.procs)
  where
    in_either : (q : Process) (o : Option LiveSpace) → BeginsNothing (in_space (λ q s. trapped w q signal) q o)
    in_either q (Some s) = trapped_begins w q signal
    in_either q None = tt

    by_found : (o : Option Process) → BeginsNothing (by_process w.spaces (λ q s. trapped w q signal) o)
    by_found (Some q) = in_either q (find id_of q.space w.spaces)
    by_found None = tt

-- ---- an end leaves memory

left_mem : (k : Kept) (lent : Bool) (number : ℕ) (h : Held) → (space_left k lent number h).mem ≡ k.mem
left_mem k true number h = refl
left_mem k false number h = refl

pub end_mem : (k : Kept) (pid : ℕ) → Regular k → Lives k.procs pid → (notes : List Note) (recording : Recording) (how : How) (new : Kept) →
    ((e : Entry Task) → (h : Held) → LivesIn (record k { notes = notes; recording = recording }) pid e h → new ≡ gone (record k { notes = notes; recording = recording }) e h how) → new.mem ≡ k.mem
end_mem k pid regular lives notes recording how new departs =
    let r = runs_in k pid regular lives in
    let e : Entry Task = r.0 in
    let h : Held = r.1.0 in
    let now = record k { notes = notes; recording = recording } in
    ap (λ (s : Kept). s.mem) (departs e h (record { lives = r.1.1.lives; home = r.1.1.home }))
    ∙ left_mem (ended now e how) (borrows now.procs e.pid) e.value.space h
