-- Which process lives, and what is kept of it, behind each call.
use Rattle.std.proofs.Common.{◌≡◌, ◌≢◌, ℕ, true, false, cond, List, inl, inr, Option, Some, None, refl, sym, ap, subst, ◌∙◌}
use Rattle.std.specs.Prelude.{◌==◌, is_some, option_map}
use Rattle.call_log.specs.declared.how.How.{How}
use Rattle.vfork_exec.specs.declared.family.State.{State}
use Rattle.vfork_exec.specs.declared.family.State.TheVariants.{Ready, OnPipe, Lent}
use Rattle.vfork_exec.specs.declared.entry.Entry.{Entry}
use Rattle.vfork_exec.specs.Keyed.{find, change, without}
use Rattle.vfork_exec.specs.Families.{resumed, roused}
use Rattle.vfork_exec.specs.Procs.{Listed, process, value_at, pid_of, behind, with_state, with_entry, with_child, with_exec, with_end, with_state_at, with_wait_on, with_wake}
use Rattle.vfork_exec.proofs.Keyed.{decide, eqb_same, eqb_is, find_head, find_later, find_changed, find_map, find_gone, find_beside_change, find_beside_without}

option_map_id : {A : Type 0} (o : Option A) → option_map (λ x. x) o ≡ o
option_map_id (Some x) = refl
option_map_id None = refl

module _ {P : Type 0} where
  value_kept : (g : Entry P → Entry P) → ((e : Entry P) → (g e).value ≡ e.value) → (o : Option (Entry P)) → option_map (λ (e : Entry P). e.value) (option_map g o) ≡ option_map (λ (e : Entry P). e.value) o
  value_kept g same (Some e) = ap Some (same e)
  value_kept g same None = refl

  lives_kept : (g : Entry P → Entry P) (o : Option (Entry P)) → is_some (option_map g o) ≡ is_some o
  lives_kept g (Some e) = refl
  lives_kept g None = refl

  -- ---- a process more

  pub value_new : (s : Listed P) (parent : ℕ) (value : P) → value_at (with_entry s parent value) s.next_pid ≡ Some value
  value_new s parent value = ap (option_map (λ (e : Entry P). e.value)) (find_head pid_of s.next_pid (record { pid = s.next_pid; parent = parent; state = Ready; value = value }) s.entries true (eqb_same s.next_pid s.next_pid refl))

  pub process_beside_new : (s : Listed P) (parent : ℕ) (value : P) (pid : ℕ) → pid ≢ s.next_pid → process (with_entry s parent value) pid ≡ process s pid
  process_beside_new s parent value pid other = find_later pid_of pid (record { pid = s.next_pid; parent = parent; state = Ready; value = value }) s.entries (λ e. other (sym e))

  pub value_child : (s : Listed P) (parent : ℕ) (value : P) → value_at (with_child s parent value) s.next_pid ≡ Some value
  value_child s parent value =
      ap (option_map (λ (e : Entry P). e.value)) (find_head pid_of s.next_pid (record { pid = s.next_pid; parent = parent; state = Ready; value = value }) (with_state_at s parent (Lent s.next_pid)).entries true (eqb_same s.next_pid s.next_pid refl))

  -- ---- another state

  -- what is found behind a change at one number
  found_change : (f : Entry P → Entry P) → ((e : Entry P) → (f e).pid ≡ e.pid) → (at pid : ℕ) (es : List (Entry P))
      → find pid_of pid (change pid_of at f es) ≡ option_map (λ e. cond (pid == at) (f e) e) (find pid_of pid es)
  found_change f same at pid es = elim (decide (pid == at)) [
    | inl is ↦ rw is (subst (λ k. find pid_of k (change pid_of at f es) ≡ option_map f (find pid_of k es)) (sym (eqb_is pid at is)) (find_changed pid_of at f same es))
    | inr is ↦ rw is (find_beside_change pid_of at pid (λ e. let wrong : true ≡ false = sym (eqb_same pid at e) ∙ is in absurd cc) f same es ∙ sym (option_map_id (find pid_of pid es)))
  ]

  process_state : (s : Listed P) (at : ℕ) (state : State) (pid : ℕ) → process (with_state_at s at state) pid ≡ option_map (λ e. cond (pid == at) (with_state e state) e) (process s pid)
  process_state s at state pid = found_change (λ e. with_state e state) (λ e. refl) at pid s.entries

  value_either : (state : State) (pid at : ℕ) (e : Entry P) → (cond (pid == at) (with_state e state) e).value ≡ e.value
  value_either state pid at e = elim (decide (pid == at)) [
    | inl is ↦ rw is refl
    | inr is ↦ rw is refl
  ]

  pub value_state : (s : Listed P) (at : ℕ) (state : State) (pid : ℕ) → value_at (with_state_at s at state) pid ≡ value_at s pid
  value_state s at state pid =
      ap (option_map (λ (e : Entry P). e.value)) (process_state s at state pid) ∙ value_kept (λ e. cond (pid == at) (with_state e state) e) (value_either state pid at) (process s pid)

  pub lives_state : (s : Listed P) (at : ℕ) (state : State) (pid : ℕ) → is_some (process (with_state_at s at state) pid) ≡ is_some (process s pid)
  lives_state s at state pid = ap is_some (process_state s at state pid) ∙ lives_kept (λ e. cond (pid == at) (with_state e state) e) (process s pid)

  child_later : (s : Listed P) (parent : ℕ) (value : P) (pid : ℕ) → pid ≢ s.next_pid → process (with_child s parent value) pid ≡ process (with_state_at s parent (Lent s.next_pid)) pid
  child_later s parent value pid other =
      find_later pid_of pid (record { pid = s.next_pid; parent = parent; state = Ready; value = value }) (with_state_at s parent (Lent s.next_pid)).entries (λ e. other (sym e))

  pub value_beside_child : (s : Listed P) (parent : ℕ) (value : P) (pid : ℕ) → pid ≢ s.next_pid → value_at (with_child s parent value) pid ≡ value_at s pid
  value_beside_child s parent value pid other = ap (option_map (λ (e : Entry P). e.value)) (child_later s parent value pid other) ∙ value_state s parent (Lent s.next_pid) pid

  pub lives_beside_child : (s : Listed P) (parent : ℕ) (value : P) (pid : ℕ) → pid ≢ s.next_pid → is_some (process (with_child s parent value) pid) ≡ is_some (process s pid)
  lives_beside_child s parent value pid other = ap is_some (child_later s parent value pid other) ∙ lives_state s parent (Lent s.next_pid) pid

  -- ---- a process leaves its space

  pub process_exec : (s : Listed P) (at pid : ℕ) → process (with_exec s at) pid ≡ option_map (λ e. with_state e (resumed at e.state)) (process s pid)
  process_exec s at pid = find_map pid_of pid_of pid (λ (e : Entry P). with_state e (resumed at e.state)) (λ e. refl) s.entries

  pub value_exec : (s : Listed P) (at pid : ℕ) → value_at (with_exec s at) pid ≡ value_at s pid
  value_exec s at pid = ap (option_map (λ (e : Entry P). e.value)) (process_exec s at pid) ∙ value_kept (λ e. with_state e (resumed at e.state)) (λ e. refl) (process s pid)

  pub lives_exec : (s : Listed P) (at pid : ℕ) → is_some (process (with_exec s at) pid) ≡ is_some (process s pid)
  lives_exec s at pid = ap is_some (process_exec s at pid) ∙ lives_kept (λ e. with_state e (resumed at e.state)) (process s pid)

  -- the others, behind an end
  pub process_end : (s : Listed P) (gone : Entry P) (how : How) (pid : ℕ) → pid ≢ gone.pid → process (with_end s gone how) pid ≡ option_map (behind gone.pid gone.parent) (process s pid)
  process_end s gone how pid other =
      find_map pid_of pid_of pid (behind gone.pid gone.parent) (λ e. refl) (without pid_of gone.pid s.entries) ∙ ap (option_map (behind gone.pid gone.parent)) (find_beside_without pid_of gone.pid pid other s.entries)

  pub value_end : (s : Listed P) (gone : Entry P) (how : How) (pid : ℕ) → pid ≢ gone.pid → value_at (with_end s gone how) pid ≡ value_at s pid
  value_end s gone how pid other = ap (option_map (λ (e : Entry P). e.value)) (process_end s gone how pid other) ∙ value_kept (behind gone.pid gone.parent) (λ e. refl) (process s pid)

  pub lives_end : (s : Listed P) (gone : Entry P) (how : How) (pid : ℕ) → pid ≢ gone.pid → is_some (process (with_end s gone how) pid) ≡ is_some (process s pid)
  lives_end s gone how pid other = ap is_some (process_end s gone how pid other) ∙ lives_kept (behind gone.pid gone.parent) (process s pid)

  -- who has ended lives no more
  pub gone_end : (s : Listed P) (gone : Entry P) (how : How) → process (with_end s gone how) gone.pid ≡ None
  gone_end s gone how =
      find_map pid_of pid_of gone.pid (behind gone.pid gone.parent) (λ e. refl) (without pid_of gone.pid s.entries) ∙ ap (option_map (behind gone.pid gone.parent)) (find_gone pid_of gone.pid s.entries)

  -- ---- pipes

  pub value_wait_on : (s : Listed P) (at pipe pid : ℕ) → value_at (with_wait_on s at pipe) pid ≡ value_at s pid
  value_wait_on s at pipe pid = value_state s at (OnPipe pipe) pid

  pub lives_wait_on : (s : Listed P) (at pipe pid : ℕ) → is_some (process (with_wait_on s at pipe) pid) ≡ is_some (process s pid)
  lives_wait_on s at pipe pid = lives_state s at (OnPipe pipe) pid

  pub process_wake : (s : Listed P) (pipe pid : ℕ) → process (with_wake s pipe) pid ≡ option_map (λ e. with_state e (roused pipe e.state)) (process s pid)
  process_wake s pipe pid = find_map pid_of pid_of pid (λ (e : Entry P). with_state e (roused pipe e.state)) (λ e. refl) s.entries

  pub value_wake : (s : Listed P) (pipe pid : ℕ) → value_at (with_wake s pipe) pid ≡ value_at s pid
  value_wake s pipe pid = ap (option_map (λ (e : Entry P). e.value)) (process_wake s pipe pid) ∙ value_kept (λ e. with_state e (roused pipe e.state)) (λ e. refl) (process s pid)

  pub lives_wake : (s : Listed P) (pipe pid : ℕ) → is_some (process (with_wake s pipe) pid) ≡ is_some (process s pid)
  lives_wake s pipe pid = ap is_some (process_wake s pipe pid) ∙ lives_kept (λ e. with_state e (roused pipe e.state)) (process s pid)
