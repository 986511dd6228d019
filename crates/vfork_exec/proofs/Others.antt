-- What a call leaves of the processes that it isn't about.
use Rattle.std.proofs.Common.{◌≡◌, ◌≢◌, ℕ, Bool, true, false, cond, not, List, [], ◌∷◌, ◌⊎◌, inl, inr, Option, Some, None, Result, Ok, Err, refl, sym, ap, subst, ◌∙◌}
use Rattle.std.specs.Prelude.{◌==◌, ◌&&◌, filter, option_map}
use Rattle.call_log.specs.declared.errno.Errno.{Errno}
use Rattle.call_log.specs.declared.how.How.{How}
use Rattle.vfork_exec.specs.declared.family.Who.{Who}
use Rattle.vfork_exec.specs.declared.family.State.{State}
use Rattle.vfork_exec.specs.declared.family.State.TheVariants.{Ready, Waiting, OnPipe, Lent}
use Rattle.vfork_exec.specs.declared.family.Ended.{Ended}
use Rattle.vfork_exec.specs.declared.family.Waited.{Waited}
use Rattle.vfork_exec.specs.declared.family.Waited.TheVariants.{Child, NoneYet, Waits}
use Rattle.vfork_exec.specs.declared.entry.Entry.{Entry}
use Rattle.vfork_exec.specs.Families.{is_child, is_meant, is_lent_to, parent_behind, resumed, woken, state_behind, roused, ended_behind, without_first}
use Rattle.vfork_exec.specs.Procs.{Listed, process, pid_of, behind, with_state, with_state_at, with_start, with_child, with_exec, with_end, with_wait, with_wait_on, with_wake}
use Rattle.vfork_exec.specs.OtherLaws.{RemainsBut, WakesFor, LivesOn, OthersRemain, EndedRemain, ended_of_others}
use Rattle.vfork_exec.proofs.Keyed.{decide, eqb_same, eqb_is, find_later, find_beside_change}
use Rattle.vfork_exec.proofs.Loops.{filter_head}
use Rattle.vfork_exec.proofs.Values.{process_exec, process_end, process_wake, process_beside_new}

-- ---- states

resumed_so : (child : ℕ) (state : State) → (resumed child state ≡ state) ⊎ (resumed child state ≡ Ready)
unfolding resumed
resumed_so child state = elim (decide (is_lent_to child state)) [
  | inl is ↦ inr (rw is refl)
  | inr is ↦ inl (rw is refl)
]

resumed_pipe : (child pipe : ℕ) (state : State) → state ≡ OnPipe pipe → resumed child state ≡ OnPipe pipe
unfolding resumed
resumed_pipe child pipe state is = rw is refl

woken_so : (own pid parent : ℕ) (state : State) → (woken own pid parent state ≡ state) ⊎ (woken own pid parent state ≡ Ready)
woken_so own pid parent Ready = inl refl
woken_so own pid parent (Waiting who) = elim (decide (is_child own who pid parent)) [
  | inl is ↦ inr (rw is refl)
  | inr is ↦ inl (rw is refl)
]
woken_so own pid parent (OnPipe pipe) = inl refl
woken_so own pid parent (Lent child) = inl refl

ready_stays : (child : ℕ) → resumed child Ready ≡ Ready
unfolding resumed
ready_stays child = refl

behind_so : (own pid parent : ℕ) (state : State) → (state_behind own pid parent state ≡ state) ⊎ (state_behind own pid parent state ≡ Ready)
unfolding state_behind
behind_so own pid parent state = elim (woken_so own pid parent state) [
  | inl stays ↦ rw stays (resumed_so pid state)
  | inr wakes ↦ inr (rw wakes (ready_stays pid))
]

behind_pipe : (own pid parent pipe : ℕ) (state : State) → state ≡ OnPipe pipe → state_behind own pid parent state ≡ OnPipe pipe
unfolding state_behind
behind_pipe own pid parent pipe state is = rw is (resumed_pipe pid pipe (OnPipe pipe) refl)

parent_so : (gone parent : ℕ) → (parent_behind gone parent ≡ parent) ⊎ (parent_behind gone parent ≡ 0)
parent_so gone parent = elim (decide (parent == gone)) [
  | inl is ↦ inr (rw is refl)
  | inr is ↦ inl (rw is refl)
]

roused_it : (pipe : ℕ) (state : State) → state ≡ OnPipe pipe → roused pipe state ≡ Ready
unfolding roused
roused_it pipe state is = rw (is, eqb_same pipe pipe refl) refl

not_roused : (pipe : ℕ) (state : State) → state ≢ OnPipe pipe → roused pipe state ≡ state
unfolding roused
not_roused pipe Ready other = refl
not_roused pipe (Waiting who) other = refl
not_roused pipe (OnPipe id) other = elim (decide (id == pipe)) [
  | inl is ↦ absurd (other (ap (λ (k : ℕ). OnPipe k) (eqb_is id pipe is)))
  | inr is ↦ rw is refl
]
not_roused pipe (Lent child) other = refl

-- ---- those that have ended

child_own : (own : ℕ) (who : Who) (pid parent : ℕ) → is_child own who pid parent ≡ true → (parent == own) ≡ true
child_own own who pid parent is = first (parent == own) (is_meant who pid) is
  where
    first : (a b : Bool) → (a && b) ≡ true → a ≡ true
    first true b h = refl
    first false b h = h

same_behind : (own : ℕ) (e : Ended) (es fs : List Ended) → ended_of_others own es ≡ ended_of_others own fs → ended_of_others own (e ∷ es) ≡ ended_of_others own (e ∷ fs)
same_behind own e es fs same =
    filter_head (λ (child : Ended). not (child.parent == own)) e es (not (e.parent == own)) refl
    ∙ (ap (λ (rest : List Ended). cond (not (e.parent == own)) (e ∷ rest) rest) same ∙ sym (filter_head (λ (child : Ended). not (child.parent == own)) e fs (not (e.parent == own)) refl))

asked_for : (own : ℕ) (who : Who) (es : List Ended) → ended_of_others own (without_first own who es) ≡ ended_of_others own es
unfolding without_first
asked_for own who [] = refl
asked_for own who (e ∷ es) = elim (decide (is_child own who e.pid e.parent)) [
  | inl is ↦ rw is (sym (filter_head (λ (child : Ended). not (child.parent == own)) e es false (rw (child_own own who e.pid e.parent is) refl)))
  | inr is ↦ rw is (same_behind own e (without_first own who es) es (asked_for own who es))
]

module _ {P : Type 0} where
  -- ---- who lives on

  lives_on : (change : Entry P → Entry P → Type 0) (g : Entry P → Entry P) → ((e : Entry P) → change e (g e)) → (o now : Option (Entry P)) → now ≡ option_map g o → LivesOn change o now
  lives_on change g so None now is = rw is tt
  lives_on change g so (Some e) now is = rw is (so e)

  exec_stays : (pid : ℕ) (e : Entry P) → RemainsBut e (with_state e (resumed pid e.state))
  exec_stays pid e = record { value = refl; parent = inl refl; state = resumed_so pid e.state; on_pipe = λ pipe is. resumed_pipe pid pipe e.state is }

  end_stays : (pid parent : ℕ) (e : Entry P) → RemainsBut e (behind pid parent e)
  end_stays pid parent e = record { value = refl; parent = parent_so pid e.parent; state = behind_so e.pid pid parent e.state; on_pipe = λ pipe is. behind_pipe e.pid pid parent pipe e.state is }

  wake_stays : (pipe : ℕ) (e : Entry P) → WakesFor pipe e (with_state e (roused pipe e.state))
  wake_stays pipe e = record { value = refl; parent = refl; wakes = roused_it pipe e.state; remains = not_roused pipe e.state }

  beside_state : (s : Listed P) (pid : ℕ) (state : State) (other : ℕ) → other ≢ pid → process (with_state_at s pid state) other ≡ process s other
  beside_state s pid state other differs = find_beside_change pid_of pid other differs (λ e. with_state e state) (λ e. refl) s.entries

  beside_wait : (s : Listed P) (pid : ℕ) (who : Who) (told : Result Waited Errno) (other : ℕ) → other ≢ pid → process (with_wait s pid who told) other ≡ process s other
  beside_wait s pid who (Ok (Child child how)) other differs = refl
  beside_wait s pid who (Ok NoneYet) other differs = refl
  beside_wait s pid who (Ok Waits) other differs = beside_state s pid (Waiting who) other differs
  beside_wait s pid who (Err errno) other differs = refl

  ended_wait : (s : Listed P) (pid : ℕ) (who : Who) (told : Result Waited Errno) → ended_of_others pid (with_wait s pid who told).ended ≡ ended_of_others pid s.ended
  ended_wait s pid who (Ok (Child child how)) = asked_for pid who s.ended
  ended_wait s pid who (Ok NoneYet) = refl
  ended_wait s pid who (Ok Waits) = refl
  ended_wait s pid who (Err errno) = refl

  ended_end : (s : Listed P) (gone : Entry P) (how : How) → (with_end s gone how).ended ≡ ended_behind (record { pid = gone.pid; parent = gone.parent; how = how }) s.ended
  ended_end s gone how = refl

pub others_stay : (P : Type 0) → OthersRemain P
others_stay P = record {
  start = λ s value other differs. process_beside_new s 0 value other differs;
  vfork = λ s parent value other fresh differs. find_later pid_of other (record { pid = s.next_pid; parent = parent; state = Ready; value = value }) (with_state_at s parent (Lent s.next_pid)).entries (λ e. fresh (sym e)) ∙ beside_state s parent (Lent s.next_pid) other differs;
  exec_done = λ s pid other. lives_on RemainsBut (λ e. with_state e (resumed pid e.state)) (exec_stays pid) (process s other) (process (with_exec s pid) other) (process_exec s pid other);
  end = λ s gone how other differs. lives_on RemainsBut (behind gone.pid gone.parent) (end_stays gone.pid gone.parent) (process s other) (process (with_end s gone how) other) (process_end s gone how other differs);
  wait = λ s pid who told other differs. beside_wait s pid who told other differs;
  wait_on = λ s pid pipe other differs. beside_state s pid (OnPipe pipe) other differs;
  wake = λ s pipe other. lives_on (WakesFor pipe) (λ e. with_state e (roused pipe e.state)) (wake_stays pipe) (process s other) (process (with_wake s pipe) other) (process_wake s pipe other);
}

pub ended_stay : (P : Type 0) → EndedRemain P
unfolding ended_behind
ended_stay P = record {
  start = λ s value. refl;
  vfork = λ s parent value. refl;
  exec_done = λ s pid. refl;
  end = λ s gone how. refl;
  wait = λ s pid who told. ended_wait s pid who told;
  wait_on = λ s pid pipe. refl;
  wake = λ s pipe. refl;
}
