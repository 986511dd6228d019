-- The list of processes, as the world has it: what changes in the one changes in the other.
use Rattle.std.proofs.Common.{◌≡◌, ◌≢◌, ℕ, ◌+◌, ◌<◌, ◌≤◌, Bool, true, false, cond, inl, inr, List, [], ◌∷◌, map, length, Option, Some, None, refl, sym, ap, subst, ◌∙◌, arith, length-append}
use Rattle.std.specs.Prelude.{◌==◌, ◌||◌, not, filter, reverse, slice_get, IsSome, option_map}
use Rattle.std.specs.List.{list_any}
use Rattle.std.proofs.lemmas.Option.{same_Some, none-some, slice_get_within}
use Rattle.std.proofs.Math.Nat.{mod-eq_of_lt}
use Rattle.std.proofs.lemmas.List.{length-map, length-reverse}
use Rattle.std.proofs.lemmas.List.Sums.{length-filter, count_by-le-length}
use Rattle.rv32im_step.specs.declared.regs.Regs.{Regs}
use Rattle.call_log.specs.declared.how.How.{How}
use Rattle.vfork_exec.specs.declared.family.Who.{Who}
use Rattle.vfork_exec.specs.declared.family.State.{State}
use Rattle.vfork_exec.specs.declared.family.State.TheVariants.{Ready, Lent}
use Rattle.vfork_exec.specs.declared.family.Ended.{Ended}
use Rattle.vfork_exec.specs.declared.entry.Entry.{Entry}
use Rattle.vfork_exec.specs.Keyed.{find, change, without, Falls}
use Rattle.vfork_exec.specs.Families.{is_ready, is_child, is_lent_to, ended_behind}
use Rattle.vfork_exec.specs.Procs.{Listed, process, Lives, CanRun, count, with_value, with_state, with_value_at, with_state_at, with_child, with_exec, with_end, behind, ready}
use Rattle.vfork_exec.specs.Procs.{pid_of as entry_pid, borrows as entry_borrows, has_child as entry_has_child, ready_pids as entry_ready_pids}
use Rattle.vfork_exec.proofs.Keyed.{decide, eqb_is, any_map, any_found, find_head, change_head, find_key, find_gone, find_beside_without, find_map, change_map, without_map, falls_map, falls_without, length_gone}
use Rattle.quantum_sched.specs.Picked.{picked}
use Rattle.machine_world.specs.World.{Process, pid_of}
use Rattle.machine_world.specs.Families.{ready_pids, borrows, let_go, left_by, all_left_by, has_child, sharing, AreChains}
use Rattle.machine_world.proofs.Chains.{sharing_head, find_sharing, owner_alone, chains_same, chains_left}
use Rattle.machine_world.proofs.Runnable.{ready_found}
use Rattle.kept_parts.specs.declared.task.Task.{Task}
use Rattle.kept_parts.specs.Stands.{process_of}

-- ---- one list through a map

-- two changes that agree at what is found
pub same_change : {A : Type 0} (key : A → ℕ) (k : ℕ) (f g : A → A) (xs : List A) (x : A) → find key k xs ≡ Some x → f x ≡ g x → change key k f xs ≡ change key k g xs
unfolding find
same_change key k f g [] x there same = absurd cc
same_change key k f g (y ∷ xs) x there same = elim (decide (key y == k)) [
  | inl is ↦
      let at : y ≡ x = same_Some y x (sym (find_head key k y xs true is) ∙ there) in
      change_head key k f y xs true is ∙ ap (λ z. z ∷ xs) (ap f at ∙ same ∙ ap g (sym at)) ∙ sym (change_head key k g y xs true is)
  | inr is ↦
      change_head key k f y xs false is
      ∙ ap (λ zs. y ∷ zs) (same_change key k f g xs x (sym (find_head key k y xs false is) ∙ there) same)
      ∙ sym (change_head key k g y xs false is)
]

pub map_both : {A B : Type 0} (f : A → A) (g : A → B) (h : B → B) → ((x : A) → g (f x) ≡ h (g x)) → (xs : List A) → map g (map f xs) ≡ map h (map g xs)
map_both f g h goes [] = refl
map_both f g h goes (x ∷ xs) = λ j. goes x j ∷ map_both f g h goes xs j

-- those that pass, by the first one's test
ready_more : (b : Bool) (q : Process) (e : Entry Task) (qs : List Process) (es : List (Entry Task)) → q.pid ≡ e.pid → map pid_of qs ≡ map entry_pid es → map pid_of (cond b (q ∷ qs) qs) ≡ map entry_pid (cond b (e ∷ es) es)
ready_more true q e qs es same rest = λ j. same j ∷ rest j
ready_more false q e qs es same rest = rest

ready_map : (es : List (Entry Task)) → map pid_of (filter (λ q. is_ready q.state) (map process_of es)) ≡ map entry_pid (filter (λ e. is_ready e.state) es)
ready_map [] = refl
ready_map (e ∷ es) = ready_more (is_ready e.state) (process_of e) e (filter (λ q. is_ready q.state) (map process_of es)) (filter (λ x. is_ready x.state) es) refl (ready_map es)

module _ (s : Listed Task) where
  -- ---- what is asked

  pub borrows_is : (e : Entry Task) → borrows (process_of e) (map process_of s.entries) ≡ entry_borrows s e.pid
  unfolding borrows entry_borrows
  borrows_is e = any_map (λ q. is_lent_to e.pid q.state) (λ x. is_lent_to e.pid x.state) process_of (λ x. refl) s.entries

  pub has_child_is : (pid : ℕ) (who : Who) → has_child pid who (map process_of s.entries) ≡ entry_has_child s pid who
  unfolding has_child
  has_child_is pid who = any_map (λ q. is_child pid who q.pid q.parent) (λ x. is_child pid who x.pid x.parent) process_of (λ x. refl) s.entries

  pub ready_is : ready_pids (map process_of s.entries) ≡ entry_ready_pids s
  unfolding ready_pids ready
  ready_is = ready_map s.entries

  -- ---- what changes

  pub state_is : (pid : ℕ) (state : State) → map process_of (with_state_at s pid state).entries ≡ change pid_of pid (λ (q : Process). record q { state = state }) (map process_of s.entries)
  state_is pid state = change_map entry_pid pid_of pid process_of (λ _. refl) (λ (e : Entry Task). with_state e state) (λ (q : Process). record q { state = state }) (λ e. refl) s.entries

  pub value_is : (pid : ℕ) (value : Task) → map process_of (with_value_at s pid value).entries
      ≡ change pid_of pid (λ (q : Process). record q { regs = value.regs; space = value.space; table = value.table }) (map process_of s.entries)
  value_is pid value =
      change_map entry_pid pid_of pid process_of (λ _. refl) (λ (e : Entry Task). with_value e value)
      (λ (q : Process). record q { regs = value.regs; space = value.space; table = value.table }) (λ e. refl) s.entries

  pub exec_is : (pid : ℕ) → map process_of (with_exec s pid).entries ≡ map (let_go pid) (map process_of s.entries)
  exec_is pid = map_both _ process_of (let_go pid) (λ e. refl) s.entries

  pub child_is : (parent : ℕ) (value : Task) → map process_of (with_child s parent value).entries
      ≡ record { pid = s.next_pid; parent = parent; regs = value.regs; space = value.space; table = value.table; state = Ready }
      ∷ change pid_of parent (λ (q : Process). record q { state = Lent s.next_pid }) (map process_of s.entries)
  child_is parent value = ap (λ qs. record { pid = s.next_pid; parent = parent; regs = value.regs; space = value.space; table = value.table; state = Ready } ∷ qs) (state_is parent (Lent s.next_pid))

  pub left_is : (e : Entry Task) (how : How) → map process_of (with_end s e how).entries ≡ all_left_by (process_of e) (map process_of s.entries)
  unfolding all_left_by
  left_is e how =
      map_both (behind e.pid e.parent) process_of (left_by (process_of e)) (λ x. refl) (without entry_pid e.pid s.entries)
      ∙ ap (map (left_by (process_of e))) (without_map entry_pid pid_of e.pid process_of (λ _. refl) s.entries)

  -- numbers that fall do so in the world
  pub falls_is : (b : ℕ) → Falls entry_pid b s.entries → Falls pid_of b (map process_of s.entries)
  falls_is b falls = falls_map entry_pid pid_of 0 process_of (λ _. refl) b s.entries falls

  -- ---- who may run

  pub can_run_lives : (pid : ℕ) → CanRun s pid → Lives s pid
  can_run_lives pid runs = by_found (process s pid) runs
    where
      by_found : (o : Option (Entry Task)) → option_map (λ e. e.state) o ≡ Some Ready → IsSome o
      by_found (Some e) is = refl
      by_found None is = absurd cc

  -- one of the pids of those that may run, from either end
  pub can_run_ready : (b k pid : ℕ) → Falls entry_pid b s.entries → slice_get (reverse (entry_ready_pids s)) k ≡ Some pid → CanRun s pid
  unfolding picked
  can_run_ready b k pid falls is =
      let pids : List ℕ = ready_pids (map process_of s.entries) in
      let there : slice_get (reverse pids) k ≡ Some pid = ap (λ ns. slice_get (reverse ns) k) ready_is ∙ is in
      let inside : k < length pids = omega (arith, slice_get_within (reverse pids) k pid there, length-reverse pids) in
      let found = ready_found (map process_of s.entries) b k pid (ap (slice_get (reverse pids)) (mod-eq_of_lt inside) ∙ there) (falls_is b falls) in
      through (process s pid) (find_map entry_pid pid_of pid process_of (λ _. refl) s.entries) found
    where
      through : (o : Option (Entry Task)) → find pid_of pid (map process_of s.entries) ≡ option_map process_of o
          → option_map (λ (q : Process). q.state) (find pid_of pid (map process_of s.entries)) ≡ Some Ready → option_map (λ (e : Entry Task). e.state) o ≡ Some Ready
      through None same is = absurd (none-some Ready (sym (ap (option_map (λ (q : Process). q.state)) same) ∙ is))
      through (Some e) same is = sym (ap (option_map (λ (q : Process). q.state)) same) ∙ is

  -- ---- of one process

  module _ (pid : ℕ) (e : Entry Task) (lives : process s pid ≡ Some e) where
    pub found_is : find pid_of pid (map process_of s.entries) ≡ Some (process_of e)
    found_is = find_map entry_pid pid_of pid process_of (λ _. refl) s.entries ∙ ap (option_map process_of) lives

    pub own_pid : e.pid ≡ pid
    own_pid = find_key entry_pid pid s.entries e lives

    pub found_own : find pid_of e.pid (map process_of s.entries) ≡ Some (process_of e)
    found_own = ap (λ n. find pid_of n (map process_of s.entries)) own_pid ∙ found_is

    pub state_ready : CanRun s pid → e.state ≡ Ready
    state_ready runs = same_Some _ _ (sym (ap (option_map (λ (x : Entry Task). x.state)) lives) ∙ runs)

    -- it has other registers
    pub moved_is : (regs : Regs) → map process_of (with_value_at s pid (record e.value { regs = regs })).entries
        ≡ change pid_of pid (λ (q : Process). record q { regs = regs }) (map process_of s.entries)
    moved_is regs =
        value_is pid (record e.value { regs = regs })
        ∙ same_change pid_of pid (λ (q : Process). record q { regs = regs; space = e.value.space; table = e.value.table }) (λ (q : Process). record q { regs = regs })
        (map process_of s.entries) (process_of e) found_is refl

    pub chains_moved : (regs : Regs) → AreChains (map process_of s.entries) → AreChains (map process_of (with_value_at s pid (record e.value { regs = regs })).entries)
    chains_moved regs chains =
        subst AreChains (sym (moved_is regs))
        (chains_same (λ (q : Process). record q { regs = regs }) (λ q. refl) (λ q. refl) (λ q. refl) (map process_of s.entries) pid chains)

    -- it ends
    module _ (how : How) where
      pub chains_ended : AreChains (map process_of s.entries) → Falls entry_pid s.next_pid s.entries → e.state ≡ Ready → AreChains (map process_of (with_end s e how).entries)
      chains_ended chains falls ready =
          subst AreChains (sym (left_is e how)) (chains_left (map process_of s.entries) (process_of e) s.next_pid chains (falls_is s.next_pid falls) found_own ready)

      pub falls_ended : (b : ℕ) → Falls entry_pid b s.entries → Falls entry_pid b (with_end s e how).entries
      falls_ended b falls = falls_map entry_pid entry_pid 0 (behind e.pid e.parent) (λ _. refl) b (without entry_pid e.pid s.entries) (falls_without entry_pid e.pid b s.entries falls)

      pub dead_ended : process (with_end s e how) pid ≡ None
      dead_ended =
          find_map entry_pid entry_pid pid (behind e.pid e.parent) (λ _. refl) (without entry_pid e.pid s.entries)
          ∙ ap (λ n. option_map (behind e.pid e.parent) (find entry_pid pid (without entry_pid n s.entries))) own_pid
          ∙ ap (option_map (behind e.pid e.parent)) (find_gone entry_pid pid s.entries)

      few_behind : (d : Ended) (ds : List Ended) → length (ended_behind d ds) ≤ length ds + 1
      unfolding ended_behind
      few_behind d ds =
          let kept : List Ended = filter (λ (child : Ended). not (child.parent == d.pid)) ds in
          let few : length kept ≤ length ds = omega (arith, length-filter (λ (child : Ended). not (child.parent == d.pid)) ds, count_by-le-length (λ (child : Ended). not (child.parent == d.pid)) ds) in
          elim (decide (d.parent == 0)) [
            | inl is ↦ rw is (omega (arith, few, length-append kept []))
            | inr is ↦ rw is (omega (arith, few, length-append kept (d ∷ [])))
          ]

      pub count_ended : count (with_end s e how) ≤ count s
      count_ended =
          let one = length_gone entry_pid e.pid s.entries (subst IsSome (sym (ap (λ n. find entry_pid n s.entries) own_pid ∙ lives)) refl) in
          let same = length-map (without entry_pid e.pid s.entries) (behind e.pid e.parent) in
          let more = few_behind (record { pid = e.pid; parent = e.parent; how = how }) s.ended in
          omega (arith, one, same, more)

    -- ---- who borrows from nobody is alone in its space

    pub alone_in : AreChains (map process_of s.entries) → e.state ≡ Ready → entry_borrows s e.pid ≡ false → (p : ℕ) (f : Entry Task) → process s p ≡ Some f → f.value.space ≡ e.value.space
        → p ≡ pid
    unfolding find
    alone_in chains ready none p f there same =
        let procs : List Process = map process_of s.entries in
        let alone = owner_alone procs pid (process_of e) chains found_is ready (borrows_is e ∙ none) in
        let among = find_sharing p (process_of f) procs (find_map entry_pid pid_of p process_of (λ _. refl) s.entries ∙ ap (option_map process_of) there) in
        let one : find pid_of p (process_of e ∷ []) ≡ Some (process_of f) = ap (find pid_of p) (sym alone ∙ ap (λ n. sharing n procs) (sym same)) ∙ among in
        elim (decide (e.pid == p)) [
          | inl is ↦ sym (eqb_is e.pid p is) ∙ own_pid
          | inr is ↦ let wrong = sym (find_head pid_of p (process_of e) [] false is) ∙ one in absurd cc
        ]

-- ---- who lives behind an end

-- another one, that lived before, with the same kept of it
pub record Stayed (s : Listed Task) (gone p : ℕ) (f : Entry Task) : Type 0 where
  pub old : Entry Task
  pub there : process s p ≡ Some old
  pub other : p ≢ gone
  pub value : f.value ≡ old.value

pub stayed : (s : Listed Task) (e : Entry Task) (how : How) (p : ℕ) (f : Entry Task) → process (with_end s e how) p ≡ Some f → Stayed s e.pid p f
stayed s e how p f is = by_found (find entry_pid p (without entry_pid e.pid s.entries)) refl
  where
    through : (o : Option (Entry Task)) → find entry_pid p (without entry_pid e.pid s.entries) ≡ o → option_map (behind e.pid e.parent) o ≡ Some f
    through o there =
        ap (option_map (behind e.pid e.parent)) (sym there)
        ∙ sym (find_map entry_pid entry_pid p (behind e.pid e.parent) (λ _. refl) (without entry_pid e.pid s.entries)) ∙ is

    beside : p ≢ e.pid → (x : Entry Task) → find entry_pid p (without entry_pid e.pid s.entries) ≡ Some x → process s p ≡ Some x
    beside ne x there = sym (find_beside_without entry_pid e.pid p ne s.entries) ∙ there

    by_found : (o : Option (Entry Task)) → find entry_pid p (without entry_pid e.pid s.entries) ≡ o → Stayed s e.pid p f
    by_found None there = let wrong = through None there in absurd cc
    by_found (Some x) there =
        let ne : p ≢ e.pid = λ same.
        let none = sym there ∙ ap (λ n. find entry_pid n (without entry_pid e.pid s.entries)) same ∙ find_gone entry_pid e.pid s.entries in
        absurd (none-some x (sym none)) in
        record {
          old = x;
          there = beside ne x there;
          other = ne;
          value = sym (ap (λ (y : Entry Task). y.value) (same_Some (behind e.pid e.parent x) f (through (Some x) there)));
        }

-- ---- a space in which no process runs

none_shared : (i : ℕ) (ps : List Process) → list_any (λ (q : Process). q.space == i) ps ≡ false → sharing i ps ≡ []
unfolding sharing
none_shared i [] none = refl
none_shared i (q ∷ qs) none = elim (decide (q.space == i)) [
  | inl is ↦ let wrong = sym (ap (λ (t : Bool). t || list_any (λ (x : Process). x.space == i) qs) is) ∙ none in absurd cc
  | inr is ↦ sharing_head i q qs false is ∙ none_shared i qs (sym (ap (λ (t : Bool). t || list_any (λ (x : Process). x.space == i) qs) is) ∙ none)
]

pub nobody_in : (s : Listed Task) (b i : ℕ) → Falls entry_pid b s.entries → ((pid : ℕ) (e : Entry Task) → process s pid ≡ Some e → e.value.space ≢ i) → sharing i (map process_of s.entries) ≡ []
nobody_in s b i falls none =
    none_shared i (map process_of s.entries) (any_map (λ (q : Process). q.space == i) (λ (e : Entry Task). e.value.space == i) process_of (λ e. refl) s.entries ∙ no_entry (list_any (λ (e : Entry Task). e.value.space == i) s.entries) refl)
  where
    no_entry : (t : Bool) → list_any (λ (e : Entry Task). e.value.space == i) s.entries ≡ t → t ≡ false
    no_entry false is = refl
    no_entry true is =
        let one = any_found entry_pid (λ (e : Entry Task). e.value.space == i) b s.entries falls is in
        absurd (none one.0.pid one.0 one.1 (eqb_is one.0.value.space i one.2))
