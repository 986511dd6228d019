-- The space of each process, behind a change of processes and notes.
use Rattle.std.proofs.Common.{◌≡◌, ◌≢◌, ℕ, ◌⊎◌, Bool, true, false, inl, inr, List, [], ◌∷◌, ◌++◌, Option, Some, None, refl, sym, ap, ◌∙◌}
use Rattle.std.specs.Prelude.{◌==◌, ◌&&◌, option_map, if◌then◌else◌}
use Rattle.std.proofs.lemmas.Bool.{cases_Bool}
use Rattle.std.proofs.lemmas.Option.{same_Some}
use Rattle.call_log.specs.declared.how.How.{How}
use Rattle.call_log.specs.Notes.{CallEntry, Note, call_note, end_note}
use Rattle.vfork_exec.specs.Keyed.{find, change}
use Rattle.vfork_exec.proofs.Keyed.{find_head, find_changed, find_beside_change}
use Rattle.flat_loader.specs.Begin.{Loading}
use Rattle.machine_world.specs.World.{Process, World, pid_of}
use Rattle.machine_world.specs.Families.{left_by, let_go, all_left_by, all_roused}
use Rattle.machine_world.specs.Asks.{Ask}
use Rattle.machine_world.specs.Event.{child_of, with_child, with_exec}
use Rattle.machine_world.proofs.Awake.{was_there}
use Rattle.machine_world.proofs.Chains.{find_left, find_left_own, find_exec, find_exec_own}
use Rattle.alone_laws.proofs.Lists.{eqb_is, eqb_isnt, eqb_same, eqb_other}
use Rattle.recording_laws.specs.Homes.{forks, home, is_in, calls_at}

-- a process that was there, in the same space
abbrev pub Was : List Process → ℕ → Process → Type 0
Was procs x q = (o : Process) × (find pid_of x procs ≡ Some o) × (o.space ≡ q.space)

back : (g : Process → Process) → ((o : Process) → (g o).space ≡ o.space) → (procs : List Process) (x : ℕ) (found : Option Process) → find pid_of x procs ≡ found
    → (q : Process) → option_map g found ≡ Some q → Was procs x q
back g same procs x None is q there = absurd cc
back g same procs x (Some o) is q there = (o, is, sym (same o) ∙ ap (λ (p : Process). p.space) (same_Some (g o) q there))

module _ (procs : List Process) where
  pub was_changed : (k : ℕ) (f : Process → Process) → ((o : Process) → pid_of (f o) ≡ pid_of o) → ((o : Process) → (f o).space ≡ o.space)
      → (x : ℕ) (q : Process) → find pid_of x (change pid_of k f procs) ≡ Some q → Was procs x q
  was_changed k f pids same x q lives = elim (cases_Bool (x == k)) [
    | inl here ↦
        let at : x ≡ k = eqb_is x k here in
        back f same procs x (find pid_of x procs) refl q
        (ap (λ n. option_map f (find pid_of n procs)) at ∙ sym (find_changed pid_of k f pids procs) ∙ ap (λ n. find pid_of n (change pid_of k f procs)) (sym at) ∙ lives)
    | inr away ↦ (q, sym (find_beside_change pid_of k x (eqb_isnt x k away) f pids procs) ∙ lives, refl)
  ]

  pub was_left : (p : Process) (x : ℕ) (q : Process) → find pid_of x (all_left_by p procs) ≡ Some q → Was procs x q
  was_left p x q lives = elim (cases_Bool (x == p.pid)) [
    | inl here ↦
        let at : x ≡ p.pid = eqb_is x p.pid here in
        let gone = sym (find_left_own procs p) ∙ ap (λ n. find pid_of n (all_left_by p procs)) (sym at) ∙ lives in
        absurd cc
    | inr away ↦
        back (left_by p) (λ o. refl) procs x (find pid_of x procs) refl q (sym (find_left procs p x (eqb_isnt x p.pid away)) ∙ lives)
  ]

  pub was_roused : (pipes : List ℕ) (x : ℕ) (q : Process) → find pid_of x (all_roused pipes procs) ≡ Some q → Was procs x q
  was_roused pipes x q lives =
      let b = was_there pipes procs x q lives in
      (b.0, b.1, sym (ap (λ (o : Process). o.space) b.2))

-- the process is the child, or was there
pub was_forked : (w : World) (a : Ask) (x : ℕ) (q : Process) → find pid_of x (with_child w a).procs ≡ Some q
    → ((w.next_pid ≡ x) × (q.space ≡ a.process.space)) ⊎ ((w.next_pid ≢ x) × Was w.procs x q)
was_forked w a x q lives = elim (cases_Bool (w.next_pid == x)) [
  | inl here ↦
      let is : child_of w a ≡ q = same_Some (child_of w a) q (sym (find_head pid_of x (child_of w a) _ true here) ∙ lives) in
      inl (eqb_is w.next_pid x here, ap (λ (o : Process). o.space) (sym is))
  | inr away ↦
      inr (
        eqb_isnt w.next_pid x away,
        was_changed w.procs a.process.pid _ (λ o. refl) (λ o. refl) x q (sym (find_head pid_of x (child_of w a) _ false away) ∙ lives),
      )
]

-- it is the one that has a new space, or was there
pub was_exec : (w : World) (p : Process) (l : Loading) → find pid_of p.pid w.procs ≡ Some p → (x : ℕ) (q : Process) → find pid_of x (with_exec w p l).procs ≡ Some q
    → ((p.pid ≡ x) × (q.space ≡ w.loads)) ⊎ ((p.pid ≢ x) × Was w.procs x q)
was_exec w p l there x q lives = elim (cases_Bool (p.pid == x)) [
  | inl here ↦
      let at : p.pid ≡ x = eqb_is p.pid x here in
      let is = same_Some _ q (sym (find_exec_own w p l there) ∙ ap (λ n. find pid_of n (with_exec w p l).procs) at ∙ lives) in
      inl (at, ap (λ (o : Process). o.space) (sym is))
  | inr away ↦
      let ne = eqb_isnt p.pid x away in
      inr (ne, back (let_go p.pid) (λ o. refl) w.procs x (find pid_of x w.procs) refl q (sym (find_exec w p l x (λ e. ne (sym e))) ∙ lives))
]

-- ---- a call that is noted

home_test : (e : CallEntry) (x : ℕ) (notes : List Note) (b : Bool) → (forks e && (e.reply == x)) ≡ b → home x (call_note e ∷ notes) ≡ (if b then home e.pid notes else home x notes)
unfolding home
home_test e x notes b is = ap (λ (t : Bool). if t then home e.pid notes else home x notes) is

and_false : (b c : Bool) → b ≡ false → (b && c) ≡ false
and_false true c is = absurd cc
and_false false c is = refl

and_both : (b c : Bool) → b ≡ true → c ≡ true → (b && c) ≡ true
and_both true c is it = it
and_both false c is it = absurd cc

and_second : (b c : Bool) → c ≡ false → (b && c) ≡ false
and_second true c is = is
and_second false c is = refl

pub home_plain : (e : CallEntry) (x : ℕ) (notes : List Note) → forks e ≡ false → home x (call_note e ∷ notes) ≡ home x notes
home_plain e x notes is = home_test e x notes false (and_false (forks e) (e.reply == x) is)

pub home_child : (e : CallEntry) (x : ℕ) (notes : List Note) → forks e ≡ true → e.reply ≡ x → home x (call_note e ∷ notes) ≡ home e.pid notes
home_child e x notes is same = home_test e x notes true (and_both (forks e) (e.reply == x) is (eqb_same e.reply x same))

pub home_other : (e : CallEntry) (x : ℕ) (notes : List Note) → e.reply ≢ x → home x (call_note e ∷ notes) ≡ home x notes
home_other e x notes other = home_test e x notes false (and_second (forks e) (e.reply == x) (eqb_other e.reply x other))

pub calls_more : (i : ℕ) (e : CallEntry) (notes : List Note) (space : ℕ) → home e.pid notes ≡ Some space
    → calls_at i (call_note e ∷ notes) ≡ calls_at i notes ++ (if space == i then e ∷ [] else [])
unfolding calls_at
calls_more i e notes space at = ap (λ (o : Option ℕ). calls_at i notes ++ (if is_in i o then e ∷ [] else [])) at

-- an end moves no process, and is no call
pub home_end : (x pid : ℕ) (how : How) (notes : List Note) → home x (end_note pid how ∷ notes) ≡ home x notes
unfolding home
home_end x pid how notes = refl

pub calls_end : (i pid : ℕ) (how : How) (notes : List Note) → calls_at i (end_note pid how ∷ notes) ≡ calls_at i notes
unfolding calls_at
calls_end i pid how notes = refl
