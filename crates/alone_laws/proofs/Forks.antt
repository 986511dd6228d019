-- A clone keeps what is told of the stays right: the child runs in its parent's space, before it.
use Rattle.std.proofs.Common.{◌≡◌, ◌≢◌, ℕ, true, false, not, List, [], ◌∷◌, Some, None, Ok, refl, sym, ap, subst, ◌∙◌, arith}
use Rattle.std.specs.Prelude.{◌==◌, ◌||◌, ◌&&◌}
use Rattle.rv32im_step.specs.Meaning.{call}
use Rattle.call_log.specs.declared.errno.Errno.TheVariants.{Eagain, Einval}
use Rattle.call_log.specs.Notes.{weight_of}
use Rattle.call_log.specs.Sent.{sent}
use Rattle.vfork_exec.specs.declared.family.State.TheVariants.{Ready}
use Rattle.vfork_exec.specs.Keyed.{find}
use Rattle.flat_loader.specs.Alone.{Runner, Solo, Item, memory_of, number_of, args_of, is_errno, leaves_space, with_items, solo_mapped, solo_unmapped, solo_forked, solo_effect, solo_put, none_left}
use Rattle.machine_world.specs.World.{Process, LiveSpace, World, pid_of, id_of}
use Rattle.machine_world.specs.Families.{is_full}
use Rattle.machine_world.specs.FamilyCalls.{vfork_flags}
use Rattle.machine_world.specs.Asks.{Ask, arg, refuses}
use Rattle.machine_world.specs.Recordings.{room_in}
use Rattle.machine_world.specs.Event.{went, full, ask_of, entry_of, plain_item, child_of, with_child, answered, forked, cloned, is_exit}
use Rattle.machine_world.proofs.Chains.{parent_now}
use Rattle.alone_laws.specs.Stays.{Stay, longer, runner_of, runners, Agrees, kept_calls_of, loads_of, AreRight}
use Rattle.alone_laws.specs.Sound.{IsSound}
use Rattle.alone_laws.proofs.Lists.{if_yes, if_no, eqb_same, eqb_is, eqb_other}
use Rattle.alone_laws.proofs.Runners.{runners_head, runners_beside_change, runners_change}
use Rattle.alone_laws.proofs.SoloRuns.{alone_more}
use Rattle.alone_laws.proofs.EventStays.{tells, Keeps, keeps_if, below, solo, first, end_of, right_after, means, takes, keeps_answered}
use Rattle.alone_laws.proofs.PlainCalls.{now, answered_here, follows_refused}
use Rattle.alone_laws.proofs.RowStays.{not_errno}

-- a pid is no errno
pub pid_isnt : (w : World) → IsSound w → is_errno w.next_pid ≡ false
pid_isnt w sound = let given = sound.given in let calls = sound.calls in not_errno w.next_pid (omega (arith, given, calls))

module _ (ys : List Stay) (w : World) (sound : IsSound w) (right : AreRight ys w) (p : Process) (s : LiveSpace)
    (lives : find pid_of p.pid w.procs ≡ Some p) (ready : p.state ≡ Ready) (has : find id_of p.space w.spaces ≡ Some s)
    (is : means ys w sound right p s lives ready has ≡ call) (bytes : List ℕ) (reads : sent (number_of p.regs) (args_of p.regs) s.space.bytes ≡ Ok bytes)
    (clones : (number_of p.regs == 220) ≡ true) where
  abbrev a : Ask
  a = ask_of w p s.space bytes

  abbrev those : List Runner
  those = below ys w sound right p s lives ready has

  abbrev before : Solo
  before = solo ys w sound right p s lives ready has

  abbrev behind : Solo
  behind = record { stack = runner_of (child_of w a) ∷ runner_of (parent_now w a p) ∷ those; memory = memory_of s.space }

  number : number_of p.regs ≡ 220
  number = eqb_is (number_of p.regs) 220 clones

  stays : is_exit (number_of p.regs) ≡ false
  stays = ap (λ (n : ℕ). n == 93 || n == 94) number

  -- alone
  forks_alone : (i : Item) → i ≡ plain_item (entry_of a w.next_pid []) → solo_put (runner_of p) those (memory_of s.space) i (Ok s.space.bytes) ≡ Some behind
  forks_alone i same = ap (λ (x : Item). solo_put (runner_of p) those (memory_of s.space) x (Ok s.space.bytes)) same ∙ (
      let x : Item = plain_item (entry_of a w.next_pid []) in
      let at : Solo = now w p those s.space bytes w.next_pid s.space.bytes in
      let here : leaves_space x.entry ≡ false = ap (λ (n : ℕ). n == 93 || n == 94 || (n == 221 && (w.next_pid == 0))) number in
      answered_here w p those s.space bytes x s.space.bytes here
      ∙ if_no (is_errno w.next_pid) (Some at) (solo_effect at p.regs x) (pid_isnt w sound)
      ∙ if_no (number_of p.regs == 222) (solo_mapped at x) _ (ap (λ (n : ℕ). n == 222) number)
      ∙ if_no (number_of p.regs == 215) (solo_unmapped at x.entry) _ (ap (λ (n : ℕ). n == 215) number)
      ∙ if_yes (number_of p.regs == 220) (Some (solo_forked at p.regs x.entry)) (Some at) clones)

  -- in the world
  runs_there : runners p.space (with_child w a).procs ≡ runner_of (child_of w a) ∷ runner_of (parent_now w a p) ∷ those
  runs_there =
      runners_head p.space (child_of w a) _ true (eqb_same p.space p.space refl)
      ∙ ap (λ (rs : List Runner). runner_of (child_of w a) ∷ rs)
      (runners_change w.next_pid p w.procs sound.pids lives those (first ys w sound right p s lives ready has) (parent_now w a) refl)

  runs_beside : (j : ℕ) → j ≢ p.space → runners j (with_child w a).procs ≡ runners j w.procs
  runs_beside j other =
      runners_head j (child_of w a) _ false (eqb_other p.space j (λ e. other (sym e)))
      ∙ runners_beside_change w.next_pid p w.procs sound.pids lives (parent_now w a) j (λ e. other (sym e)) (λ e. other (sym e))

  keeps_forked : Keeps ys (forked w a)
  unfolding forked kept_calls_of loads_of
  keeps_forked =
      let i : Item = plain_item (entry_of a w.next_pid []) in
      keeps_if ys (room_in w (weight_of bytes [])) (went _ (record { space = p.space; events = 1; items = i ∷ []; begins = None; over = true })) full
      (right_after ys w sound right p s lives ready has _ (i ∷ []) true refl refl refl refl
      (record { procs = λ j other old. runs_beside j other; spaces = λ j other old. refl })
      (λ y there.
      subst (λ o. Agrees p.space (with_child w a).procs (longer (record { space = p.space; events = 1; items = i ∷ []; begins = None; over = true }) y) o) (sym has)
      (alone_more y.loading y.pid y.items (i ∷ []) y.events before (end_of ys w sound right p s lives ready has y there)
      ∙ ap none_left (takes ys w sound right p s lives ready has is bytes reads i (tells p s.space w bytes w.next_pid []) ∙ ap (with_items []) (forks_alone i refl))
      ∙ ap (λ l. Some (record { stack = l; memory = memory_of s.space })) (sym runs_there))))
      tt

  pub keeps_cloned : Keeps ys (cloned w a)
  unfolding cloned
  keeps_cloned =
      keeps_if ys (not (arg a 0 == vfork_flags)) (answered w a (refuses a Einval)) _
      (keeps_answered ys w sound right p s lives ready has is bytes reads (refuses a Einval) (follows_refused w p those s.space bytes stays Einval) refl)
      (keeps_if ys (is_full w) (answered w a (refuses a Eagain)) (forked w a)
      (keeps_answered ys w sound right p s lives ready has is bytes reads (refuses a Eagain) (follows_refused w p those s.space bytes stays Eagain) refl) keeps_forked)
