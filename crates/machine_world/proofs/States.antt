-- A world in which one process has other registers and other bytes.
use Rattle.std.proofs.Common.{◌≡◌, ℕ, ◌+◌, Bool, true, false, cond, ◌⊎◌, inl, inr, List, [], ◌∷◌, Some, refl, sym, ap, ◌∙◌, arith}
use Rattle.std.specs.Prelude.{◌==◌, option_map}
use Rattle.std.proofs.lemmas.Bool.Decides.{nat_tests}
use Rattle.rv32im_step.specs.declared.regs.Regs.{Regs}
use Rattle.byte_words.specs.declared.access.Access.{Access}
use Rattle.rv32im_step.specs.Meaning.{call, trap, refused, meaning}
use Rattle.mmap_rules.specs.Space.{Space, writable_in}
use Rattle.vfork_exec.specs.Keyed.{find, change}
use Rattle.vfork_exec.proofs.Keyed.{find_head, find_changed}
use Rattle.machine_world.specs.World.{World, Process, LiveSpace, pid_of, id_of}
use Rattle.machine_world.specs.Event.{Outcome, strays, effect, at_process, event, called, died, answer, trapped, settled}
use Rattle.machine_world.specs.Courses.{moved}
use Rattle.machine_world.specs.Recordings.{is_recorded, raised_in}
use Rattle.machine_world.proofs.Raised.{raised_none, raised_twice}

decide : (b : Bool) → (b ≡ true) ⊎ (b ≡ false)
decide true = inl refl
decide false = inr refl

eqb_is : (n k : ℕ) → (n == k) ≡ true → n ≡ k
eqb_is n k h = grind (arith, nat_tests)

-- ---- one item of a list

module _ {A : Type 0} (key : A → ℕ) (k : ℕ) where
  change_head : (f : A → A) (x : A) (xs : List A) (b : Bool) → (key x == k) ≡ b → change key k f (x ∷ xs) ≡ cond b (f x ∷ xs) (x ∷ change key k f xs)
  unfolding change
  change_head f x xs b is = ap (λ (t : Bool). cond t (f x ∷ xs) (x ∷ change key k f xs)) is

  -- what is found has the number
  pub find_has : (xs : List A) (x : A) → find key k xs ≡ Some x → key x ≡ k
  unfolding find
  find_has [] x h = absurd cc
  find_has (y ∷ ys) x h = elim (decide (key y == k)) [
    | inl is ↦ let same : y ≡ x = let e = sym (find_head key k y ys true is) ∙ h in cc in ap key (sym same) ∙ eqb_is (key y) k is
    | inr is ↦ find_has ys x (sym (find_head key k y ys false is) ∙ h)
  ]

  -- changed alike
  pub change_alike : (f g : A → A) (xs : List A) (x : A) → find key k xs ≡ Some x → f x ≡ g x → change key k f xs ≡ change key k g xs
  unfolding find change
  change_alike f g [] x h goes = refl
  change_alike f g (y ∷ ys) x h goes = elim (decide (key y == k)) [
    | inl is ↦
        let same : y ≡ x = let e = sym (find_head key k y ys true is) ∙ h in cc in
        change_head f y ys true is ∙ ap (λ z. z ∷ ys) (ap f same ∙ goes ∙ ap g (sym same)) ∙ sym (change_head g y ys true is)
    | inr is ↦
        change_head f y ys false is ∙ ap (λ zs. y ∷ zs) (change_alike f g ys x (sym (find_head key k y ys false is) ∙ h) goes)
        ∙ sym (change_head g y ys false is)
  ]

  -- not at all
  change_none : (xs : List A) → change key k (λ x. x) xs ≡ xs
  unfolding change
  change_none [] = refl
  change_none (y ∷ ys) = elim (decide (key y == k)) [
    | inl is ↦ change_head (λ x. x) y ys true is
    | inr is ↦ change_head (λ x. x) y ys false is ∙ ap (λ zs. y ∷ zs) (change_none ys)
  ]

  -- changed to what it is
  pub change_same : (f : A → A) (xs : List A) (x : A) → find key k xs ≡ Some x → f x ≡ x → change key k f xs ≡ xs
  change_same f xs x h goes = change_alike f (λ y. y) xs x h goes ∙ change_none xs

  -- changed twice
  pub change_twice : (f g h : A → A) → ((x : A) → key (f x) ≡ key x) → ((x : A) → g (f x) ≡ h x) → (xs : List A) → change key k g (change key k f xs) ≡ change key k h xs
  unfolding change
  change_twice f g h same goes [] = refl
  change_twice f g h same goes (x ∷ xs) = elim (decide (key x == k)) [
    | inl is ↦
        ap (change key k g) (change_head f x xs true is) ∙ change_head g (f x) xs true (ap (λ n. n == k) (same x) ∙ is)
        ∙ ap (λ z. z ∷ xs) (goes x) ∙ sym (change_head h x xs true is)
    | inr is ↦
        ap (change key k g) (change_head f x xs false is) ∙ change_head g x (change key k f xs) false is
        ∙ ap (λ zs. x ∷ zs) (change_twice f g h same goes xs) ∙ sym (change_head h x xs false is)
  ]

-- ---- one process in its space

abbrev pub with_regs : Process → Regs → Process
with_regs p regs = record p { regs = regs }

abbrev pub with_own : LiveSpace → Space → LiveSpace
with_own s space = record s { space = space }

module _ (w : World) (pid : ℕ) (p : Process) (s : LiveSpace) (lives : find pid_of pid w.procs ≡ Some p) (has : find id_of p.space w.spaces ≡ Some s) where
  pub lives_moved : (regs : Regs) (space : Space) (done : ℕ) → find pid_of pid (moved w p regs space done).procs ≡ Some (with_regs p regs)
  lives_moved regs space done =
      let same : p.pid ≡ pid = find_has pid_of pid w.procs p lives in
      ap (λ (n : ℕ). find pid_of pid (change pid_of n (λ q. with_regs q regs) w.procs)) same
      ∙ find_changed pid_of pid (λ q. with_regs q regs) (λ q. refl) w.procs
      ∙ ap (option_map (λ q. with_regs q regs)) lives

  pub has_moved : (regs : Regs) (space : Space) (done : ℕ) → find id_of p.space (moved w p regs space done).spaces ≡ Some (with_own s space)
  has_moved regs space done =
      find_changed id_of p.space (λ l. with_own l space) (λ l. refl) w.spaces ∙ ap (option_map (λ l. with_own l space)) has

  -- not at all
  pub not_moved : moved w p p.regs s.space 0 ≡ w
  not_moved =
      let same : p.pid ≡ pid = find_has pid_of pid w.procs p lives in
      let procs : change pid_of p.pid (λ q. with_regs q p.regs) w.procs ≡ w.procs =
      ap (λ (n : ℕ). change pid_of n (λ q. with_regs q p.regs) w.procs) same ∙ change_same pid_of pid (λ q. with_regs q p.regs) w.procs p lives refl in
      let spaces : change id_of p.space (λ l. with_own l s.space) w.spaces ≡ w.spaces =
      change_same id_of p.space (λ l. with_own l s.space) w.spaces s has refl in
      let events : w.events + 0 ≡ w.events = omega arith in
      let passed : raised_in w.recording p.space 0 ≡ w.recording.events = raised_none (is_recorded w.recording p.space) w.recording.events in
      rw (procs, spaces, events, passed) refl

  -- what comes of an act, and of the next event
  pub acts : (act : Process → Space → Outcome) → at_process w pid act ≡ act p s.space
  unfolding at_process
  acts act = rw (lives, has) refl

  pub event_is : event w pid ≡ effect w p s.space (meaning p.regs s.space.bytes (writable_in s.space.maps))
  unfolding event
  event_is = acts (λ q l. effect w q l (meaning q.regs l.bytes (writable_in l.maps)))

  pub is_called : meaning p.regs s.space.bytes (writable_in s.space.maps) ≡ call → event w pid ≡ called w pid
  unfolding called
  is_called is = event_is ∙ ap (effect w p s.space) is ∙ sym (acts (λ q l. settled (answer w q l)))

  pub is_died : (signal : ℕ) → meaning p.regs s.space.bytes (writable_in s.space.maps) ≡ trap signal → event w pid ≡ died w pid signal
  unfolding died
  is_died signal is = event_is ∙ ap (effect w p s.space) is ∙ sym (acts (λ q l. settled (trapped w q signal)))

  pub is_stray : (access : Access) → meaning p.regs s.space.bytes (writable_in s.space.maps) ≡ refused access → event w pid ≡ strays access
  is_stray access is = event_is ∙ ap (effect w p s.space) is

-- twice
pub moved_twice : (w : World) (p : Process) (regs after : Regs) (space now : Space) (i j : ℕ) →
    moved (moved w p regs space i) (with_regs p regs) after now j ≡ moved w p after now (i + j)
moved_twice w p regs after space now i j =
    let procs : change pid_of p.pid (λ q. with_regs q after) (change pid_of p.pid (λ q. with_regs q regs) w.procs) ≡ change pid_of p.pid (λ q. with_regs q after) w.procs =
    change_twice pid_of p.pid (λ q. with_regs q regs) (λ q. with_regs q after) (λ q. with_regs q after) (λ q. refl) (λ q. refl) w.procs in
    let spaces : change id_of p.space (λ l. with_own l now) (change id_of p.space (λ l. with_own l space) w.spaces) ≡ change id_of p.space (λ l. with_own l now) w.spaces =
    change_twice id_of p.space (λ l. with_own l space) (λ l. with_own l now) (λ l. with_own l now) (λ l. refl) (λ l. refl) w.spaces in
    let events : w.events + i + j ≡ w.events + (i + j) = omega arith in
    let passed = raised_twice (is_recorded w.recording p.space) i j w.recording.events in
    rw (procs, spaces, events, passed) refl
