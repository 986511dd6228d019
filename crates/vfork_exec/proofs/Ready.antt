-- Who is among those that may run can run.
use Rattle.std.proofs.Common.{◌≡◌, ℕ, zero, suc, ◌-◌, ◌<◌, true, false, ◌⊎◌, inl, inr, List, [], ◌∷◌, length, get_or, Option, Some, None, refl, sym, ap, ◌∙◌, arith}
use Rattle.std.specs.Prelude.{filter, slice_get, reverse, option_map}
use Rattle.std.proofs.lemmas.List.{get_or-reverse, length-reverse}
use Rattle.std.proofs.lemmas.Option.{slice_get-get_or, slice_get-map, slice_get_within, get_or_from_slice_get, same_Some, none-some}
use Rattle.vfork_exec.specs.declared.family.State.{State}
use Rattle.vfork_exec.specs.declared.family.State.TheVariants.{Ready, Waiting, OnPipe, Lent}
use Rattle.vfork_exec.specs.declared.entry.Entry.{Entry}
use Rattle.vfork_exec.specs.Keyed.{find, Falls}
use Rattle.vfork_exec.specs.Families.{is_ready}
use Rattle.vfork_exec.specs.Procs.{Listed, CanRun, pid_of, state_at, ready, ready_pids}
use Rattle.vfork_exec.proofs.Keyed.{decide, eqb_same, find_head, find_later, find_below}
use Rattle.vfork_exec.proofs.Loops.{filter_head}

is_ready_state : (state : State) → is_ready state ≡ true → state ≡ Ready
is_ready_state Ready is = refl
is_ready_state (Waiting who) is = absurd cc
is_ready_state (OnPipe pipe) is = absurd cc
is_ready_state (Lent child) is = absurd cc

by_place : {A : Type 0} (x : A) (xs : List A) (i : ℕ) (y : A) → slice_get (x ∷ xs) i ≡ Some y → (x ≡ y) ⊎ ((j : ℕ) × (slice_get xs j ≡ Some y))
by_place x xs zero y at = inl (same_Some x y at)
by_place x xs (suc j) y at = inr (j, at)

source : {A B : Type 0} (g : A → B) (o : Option A) (y : B) → option_map g o ≡ Some y → (x : A) × (o ≡ Some x) × (g x ≡ y)
source g (Some x) y is = (x, refl, same_Some (g x) y is)
source g None y is = absurd cc

module _ {P : Type 0} where
  ready_found : (b : ℕ) (es : List (Entry P)) → Falls pid_of b es → (i : ℕ) (e : Entry P) → slice_get (filter (λ x. is_ready x.state) es) i ≡ Some e
      → (find pid_of e.pid es ≡ Some e) × (e.state ≡ Ready)
  ready_found b [] f i e at = absurd (none-some e at)
  ready_found b (y ∷ ys) f i e at =
      let test = λ (x : Entry P). is_ready x.state in
      let later : (j : ℕ) → slice_get (filter test ys) j ≡ Some e → (find pid_of e.pid (y ∷ ys) ≡ Some e) × (e.state ≡ Ready) = λ j there.
      let h = ready_found y.pid ys f.1 j e there in
      let less : e.pid < y.pid = find_below pid_of e.pid y.pid ys e f.1 h.0 in
      (find_later pid_of e.pid y ys (omega (arith, less)) ∙ h.0, h.1) in
      elim (decide (is_ready y.state)) [
        | inl is ↦ elim (by_place y (filter test ys) i e (ap (λ zs. slice_get zs i) (sym (filter_head test y ys true is)) ∙ at)) [
          | inl same ↦ (
            find_head pid_of e.pid y ys true (eqb_same y.pid e.pid (ap pid_of same)) ∙ ap Some same,
            is_ready_state e.state (ap (λ (x : Entry P). is_ready x.state) (sym same) ∙ is),
          )
          | inr there ↦ later there.0 there.1
        ]
        | inr is ↦ later i (ap (λ zs. slice_get zs i) (sym (filter_head test y ys false is)) ∙ at)
      ]

  -- by its number, ascending by pid
  pub ready_can_run : (b : ℕ) (s : Listed P) (k pid : ℕ) → Falls pid_of b s.entries → slice_get (reverse (ready_pids s)) k ≡ Some pid → CanRun s pid
  unfolding ready
  ready_can_run b s k pid falls is =
      let pids = ready_pids s in
      let j : ℕ = length pids - 1 - k in
      let n : length (reverse pids) ≡ length pids = length-reverse pids in
      let inside : k < length (reverse pids) = slice_get_within (reverse pids) k pid is in
      let there : get_or pids j pid ≡ pid = sym (get_or-reverse pids k pid (omega (arith, inside, n))) ∙ get_or_from_slice_get (reverse pids) k pid pid is in
      let at : slice_get pids j ≡ Some pid = slice_get-get_or pids j pid (omega (arith, inside, n)) ∙ ap Some there in
      let e = source pid_of (slice_get (ready s) j) pid (sym (slice_get-map pid_of (ready s) j) ∙ at) in
      let h = ready_found b s.entries falls j e.0 e.1 in
      ap (state_at s) (sym e.2) ∙ ap (option_map (λ (x : Entry P). x.state)) h.0 ∙ ap Some h.1
