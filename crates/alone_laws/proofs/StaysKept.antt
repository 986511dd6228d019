-- What is told of the stays is right behind every event.
use Rattle.std.proofs.Common.{◌≡◌, ℕ, List, Option, Some, None, Result, Ok, Err, refl, ap, subst, ◌∙◌}
use Rattle.std.specs.Prelude.{◌==◌, option_map}
use Rattle.std.proofs.lemmas.Option.{same_Some}
use Rattle.rv32im_step.specs.Meaning.{Meaning, next, call, trap, refused, meaning}
use Rattle.call_log.specs.Sent.{Span, sent}
use Rattle.mmap_rules.specs.Space.{writable_in}
use Rattle.vfork_exec.specs.declared.family.State.TheVariants.{Ready}
use Rattle.vfork_exec.specs.Keyed.{find}
use Rattle.flat_loader.specs.Alone.{number_of, args_of}
use Rattle.machine_world.specs.World.{Process, LiveSpace, World, pid_of, id_of}
use Rattle.machine_world.specs.Families.{MayRun}
use Rattle.machine_world.specs.Asks.{Ask}
use Rattle.machine_world.specs.Rows.{row}
use Rattle.machine_world.specs.Event.{ask_of, answered, exited, is_exit, waitid, cloned, exec, asked, answer, trapped, effect, in_space, by_process, at_process, event}
use Rattle.machine_world.proofs.EachChange.{kept_outside}
use Rattle.machine_world.proofs.ByRows.{by_rows}
use Rattle.machine_world.proofs.States.{find_has}
use Rattle.alone_laws.specs.Stays.{Stay, AreRight}
use Rattle.alone_laws.specs.Sound.{IsSound}
use Rattle.alone_laws.specs.Laws.{EventsKeepStays}
use Rattle.alone_laws.proofs.EventStays.{Keeps, keeps_test, keeps_settled, below, means, keeps_stepped, keeps_answered}
use Rattle.alone_laws.proofs.Ends.{keeps_trapped, keeps_exited}
use Rattle.alone_laws.proofs.Forks.{keeps_cloned}
use Rattle.alone_laws.proofs.Execs.{keeps_exec}
use Rattle.alone_laws.proofs.Waits.{keeps_waitid}
use Rattle.alone_laws.proofs.RowStays.{follows_row}

module _ (ys : List Stay) (w : World) (sound : IsSound w) (right : AreRight ys w) where
  module _ (p : Process) (s : LiveSpace) (lives : find pid_of p.pid w.procs ≡ Some p) (ready : p.state ≡ Ready) (has : find id_of p.space w.spaces ≡ Some s) where
    keeps_asked : means ys w sound right p s lives ready has ≡ call → (found : Result (List ℕ) Span) → sent (number_of p.regs) (args_of p.regs) s.space.bytes ≡ found
        → Keeps ys (asked w p s.space found)
    keeps_asked is (Err span) reads = tt
    keeps_asked is (Ok bytes) reads =
        let a : Ask = ask_of w p s.space bytes in
        keeps_test ys (is_exit a.number) (exited w a) _ (λ exits. keeps_exited ys w sound right p s lives ready has is bytes reads exits)
        (λ stays. keeps_test ys (a.number == 95) (waitid w a) _ (λ asks. keeps_waitid ys w sound right p s lives ready has is bytes reads asks)
        (λ others. keeps_test ys (a.number == 220) (cloned w a) _ (λ clones. keeps_cloned ys w sound right p s lives ready has is bytes reads clones)
        (λ no_clone. keeps_test ys (a.number == 221) (exec w a) (answered w a (row a)) (λ execs. keeps_exec ys w sound right p s lives ready has is bytes reads execs)
        (λ no_execve. keeps_answered ys w sound right p s lives ready has is bytes reads (row a)
        (follows_row w sound p (below ys w sound right p s lives ready has) s has bytes stays no_clone no_execve)
        (by_rows (λ rest. rest.programs ≡ w.rest.programs) a (kept_outside (λ programs pages kind. programs ≡ w.rest.programs) a refl) refl)))))

    keeps_effect : (m : Meaning) → means ys w sound right p s lives ready has ≡ m → Keeps ys (effect w p s.space m)
    unfolding answer
    keeps_effect (next regs bytes) is = keeps_stepped ys w sound right p s lives ready has regs bytes is
    keeps_effect (trap signal) is = keeps_settled ys (trapped w p signal) (keeps_trapped ys w sound right p s lives ready has signal is)
    keeps_effect (refused access) is = tt
    keeps_effect call is = keeps_settled ys (answer w p s.space) (keeps_asked is (sent (number_of p.regs) (args_of p.regs) s.space.bytes) refl)

  keeps_in : (p : Process) → find pid_of p.pid w.procs ≡ Some p → p.state ≡ Ready → (found : Option LiveSpace) → find id_of p.space w.spaces ≡ found
      → Keeps ys (in_space (λ q s. effect w q s (meaning q.regs s.bytes (writable_in s.maps))) p found)
  keeps_in p lives ready None has = tt
  keeps_in p lives ready (Some s) has = keeps_effect p s lives ready has (meaning p.regs s.space.bytes (writable_in s.space.maps)) refl

  keeps_by : (pid : ℕ) (found : Option Process) → find pid_of pid w.procs ≡ found → option_map (λ p. p.state) found ≡ Some Ready
      → Keeps ys (by_process w.spaces (λ q s. effect w q s (meaning q.regs s.bytes (writable_in s.maps))) found)
  keeps_by pid None lives may = tt
  keeps_by pid (Some p) lives may =
      keeps_in p (ap (λ n. find pid_of n w.procs) (find_has pid_of pid w.procs p lives) ∙ lives) (same_Some p.state Ready may) (find id_of p.space w.spaces) refl

  keeps_event : (pid : ℕ) → MayRun w pid → Keeps ys (event w pid)
  unfolding event at_process
  keeps_event pid may = keeps_by pid (find pid_of pid w.procs) refl may

pub events_keep_stays : EventsKeepStays
events_keep_stays ys w pid now t sound may right is = subst (Keeps ys) is (keeps_event ys w sound right pid may)
