-- A world in which one process and its space change.
use Rattle.std.proofs.Common.{◌≡◌, ◌≢◌, ℕ, ◌+◌, ◌≤◌, false, inl, inr, List, ◌∷◌, ◌++◌, map, Option, Some, None, refl, sym, ap, subst, ◌∙◌, arith}
use Rattle.std.specs.Prelude.{IsSome, option_map}
use Rattle.std.proofs.lemmas.Bool.{cases_eq}
use Rattle.std.proofs.lemmas.Option.{same_Some}
use Rattle.rv32im_step.specs.declared.regs.Regs.{Regs}
use Rattle.call_log.specs.Notes.{Note, most_calls}
use Rattle.mmap_rules.specs.Space.{Space}
use Rattle.vfork_exec.specs.declared.family.State.{State}
use Rattle.vfork_exec.specs.declared.family.State.TheVariants.{Ready}
use Rattle.vfork_exec.specs.declared.family.Ended.{Ended}
use Rattle.vfork_exec.specs.Keyed.{find, change}
use Rattle.vfork_exec.proofs.Keyed.{falls_change, find_changed, find_beside_change}
use Rattle.machine_world.specs.World.{Process, LiveSpace, Recording, Rest, World, pid_of, id_of}
use Rattle.machine_world.specs.Families.{is_lent, sharing}
use Rattle.machine_world.specs.Event.{counted, with_state, awake}
use Rattle.machine_world.specs.Ages.{Follows, AreChanged, kept_calls, most_at_boot}
use Rattle.machine_world.proofs.States.{find_has, with_regs, with_own}
use Rattle.machine_world.proofs.Awake.{woke, find_roused, falls_roused}
use Rattle.machine_world.proofs.Chains.{head_ready, chains_same, chains_stopped, chains_roused}
use Rattle.alone_laws.specs.Stays.{runners, runner_of}
use Rattle.alone_laws.specs.Sound.{IsSpace, AreApart, HoldCopies, most_given, IsSound}
use Rattle.alone_laws.proofs.AllMaps.{Around, around}
use Rattle.alone_laws.proofs.Runners.{runners_sharing}
use Rattle.alone_laws.proofs.Files.{copies_later}

some_mapped : {A : Type 0} (f : A → A) (o : Option A) → IsSome o → IsSome (option_map f o)
some_mapped f None there = there
some_mapped f (Some x) there = there

-- what is found stays there
pub there_changed : {A : Type 0} (key : A → ℕ) (k j : ℕ) (f : A → A) → ((x : A) → key (f x) ≡ key x) → (xs : List A) → IsSome (find key j xs) → IsSome (find key j (change key k f xs))
there_changed key k j f same xs there = elim (cases_eq j k) [
  | inl is ↦
      subst (λ (n : ℕ). IsSome (find key n (change key k f xs))) (sym is)
      (subst IsSome (sym (find_changed key k f same xs)) (some_mapped f (find key k xs) (subst (λ (n : ℕ). IsSome (find key n xs)) is there)))
  | inr other ↦ subst IsSome (sym (find_beside_change key k j other f same xs)) there
]

-- what holds of the item that changed, and of each other one
pub by_changed : {A : Type 0} (key : A → ℕ) (f : A → A) → ((x : A) → key (f x) ≡ key x) → (x : A) (xs : List A) → find key (key x) xs ≡ Some x
    → (P : A → Type 0) (k : ℕ) (y : A) → find key k (change key (key x) f xs) ≡ Some y → P (f x) → (k ≢ key x → find key k xs ≡ Some y → P y) → P y
by_changed key f same x xs lives P k y found here away = elim (cases_eq k (key x)) [
  | inl is ↦ (
      let changed : find key (key x) (change key (key x) f xs) ≡ Some (f x) = find_changed key (key x) f same xs ∙ ap (option_map f) lives in
      subst P (same_Some _ _ (sym changed ∙ ap (λ (n : ℕ). find key n (change key (key x) f xs)) (sym is) ∙ found)) here)
  | inr other ↦ away other (sym (find_beside_change key (key x) k other f same xs) ∙ found)
]

abbrev pub moved_to : World → Process → Regs → Space → Rest → List Note → ℕ → Recording → World
moved_to w p regs space rest notes events recording = record {
  procs = change pid_of p.pid (λ q. with_regs q regs) w.procs;
  ended = w.ended;
  spaces = change id_of p.space (λ s. with_own s space) w.spaces;
  loads = w.loads;
  next_pid = w.next_pid;
  rest = rest;
  notes = notes;
  events = events;
  recording = recording;
}

-- what is outside of the spaces follows what it was, under these notes
pub record Goes (w : World) (rest : Rest) (notes : List Note) : Type 0 where
  pub pages : rest.pages ≡ w.rest.pages
  pub follows : Follows w.rest.tree rest.tree
  pub changes : AreChanged (most_at_boot + kept_calls notes) rest.tree
  pub more : kept_calls w.notes ≤ kept_calls notes
  pub calls : kept_calls notes ≤ most_calls

-- other processes have ended
pub ended_sound : (w : World) (ended : List Ended) → IsSound w → IsSound (record w { ended = ended })
ended_sound w ended h = record {
  some = h.some;
  most = h.most;
  pids = h.pids;
  numbers = h.numbers;
  given = h.given;
  homes = h.homes;
  chains = h.chains;
  spaces = h.spaces;
  apart = h.apart;
  copies = h.copies;
  changes = h.changes;
  calls = h.calls;
}

-- those go on who wait on pipes
pub awake_sound : (w : World) → IsSound w → IsSound (awake w)
awake_sound w h = record {
  some = h.some;
  most = h.most;
  pids = falls_roused w.rest.files.changed w.procs w.next_pid h.pids;
  numbers = h.numbers;
  given = h.given;
  homes = λ pid q found. home pid q (find pid_of pid w.procs) refl (sym (find_roused w.rest.files.changed w.procs pid) ∙ found);
  chains = chains_roused w.rest.files.changed w.procs h.chains;
  spaces = h.spaces;
  apart = h.apart;
  copies = h.copies;
  changes = h.changes;
  calls = h.calls;
}
  where
    home : (pid : ℕ) (q : Process) (o : Option Process) → find pid_of pid w.procs ≡ o → option_map (woke w.rest.files.changed) o ≡ Some q → IsSome (find id_of q.space w.spaces)
    home pid q None was is = absurd cc
    home pid q (Some old) was is =
        let same : woke w.rest.files.changed old ≡ q = cc in
        subst (λ (n : ℕ). IsSome (find id_of n w.spaces)) (ap (λ (x : Process). x.space) same) (h.homes pid old was)

-- the copies of a space stay
pub copies_stay : (w : World) → IsSound w → (rest : Rest) (notes : List Note) → Goes w rest notes → (i : ℕ) (l : LiveSpace) → find id_of i w.spaces ≡ Some l → HoldCopies rest.tree l.space
copies_stay w h rest notes goes i l found = copies_later l.space l.space w.rest.tree rest.tree refl goes.follows (λ j m there copy a inside. refl) (h.copies i l found)

-- no more pids are given than calls kept
pub given_still : (w : World) → IsSound w → (rest : Rest) (notes : List Note) → Goes w rest notes → w.next_pid ≤ most_given + kept_calls notes
given_still w h rest notes goes = let given = h.given in let more = goes.more in omega (arith, given, more)

-- ---- a process that may run, in its space

module _ (w : World) (h : IsSound w) (pid : ℕ) (p : Process) (s : LiveSpace) (lives : find pid_of pid w.procs ≡ Some p) (ready : p.state ≡ Ready) (has : find id_of p.space w.spaces ≡ Some s) where
  pub own_pid : p.pid ≡ pid
  own_pid = find_has pid_of pid w.procs p lives

  pub own_lives : find pid_of p.pid w.procs ≡ Some p
  own_lives = ap (λ (n : ℕ). find pid_of n w.procs) own_pid ∙ lives

  pub own_around : Around p.space s w.spaces
  own_around = around p.space w.loads s w.spaces h.numbers has

  -- those that stand still for it, and for one another
  pub lenders : List Process
  lenders = (head_ready w.procs pid p h.chains lives ready).0

  pub first : sharing p.space w.procs ≡ p ∷ lenders
  unfolding lenders
  first = (head_ready w.procs pid p h.chains lives ready).1

  pub runs_first : runners p.space w.procs ≡ runner_of p ∷ map runner_of lenders
  runs_first = runners_sharing p.space w.procs ∙ ap (map runner_of) first

  module _ (rest : Rest) (notes : List Note) (events : ℕ) (recording : Recording) (goes : Goes w rest notes) (regs : Regs) (space : Space) (is_space : IsSpace w.rest.pages space.maps)
      (apart : AreApart (own_around.front ++ (space.maps ++ own_around.back))) (holds : HoldCopies rest.tree space) where
    by_pid : (P : Process → Type 0) (k : ℕ) (q : Process) → find pid_of k (change pid_of p.pid (λ x. with_regs x regs) w.procs) ≡ Some q
        → P (with_regs p regs) → (k ≢ p.pid → find pid_of k w.procs ≡ Some q → P q) → P q
    by_pid = by_changed pid_of (λ x. with_regs x regs) (λ x. refl) p w.procs own_lives

    number : s.id ≡ p.space
    number = find_has id_of p.space w.spaces s has

    by_id : (P : LiveSpace → Type 0) (i : ℕ) (l : LiveSpace) → find id_of i (change id_of p.space (λ x. with_own x space) w.spaces) ≡ Some l
        → P (with_own s space) → (find id_of i w.spaces ≡ Some l → P l) → P l
    by_id P i l found here away =
        by_changed id_of (λ x. with_own x space) (λ x. refl) s w.spaces (ap (λ (n : ℕ). find id_of n w.spaces) number ∙ has) P i l
        (ap (λ (n : ℕ). find id_of i (change id_of n (λ x. with_own x space) w.spaces)) number ∙ found) here (λ other was. away was)

    pub moved_sound : IsSound (moved_to w p regs space rest notes events recording)
    moved_sound = record {
      some = subst (λ (n : ℕ). 1 ≤ n) (sym goes.pages) h.some;
      most = subst (λ (n : ℕ). n ≤ 16384) (sym goes.pages) h.most;
      pids = falls_change pid_of p.pid (λ x. with_regs x regs) (λ x. refl) w.next_pid w.procs h.pids;
      numbers = falls_change id_of p.space (λ x. with_own x space) (λ x. refl) w.loads w.spaces h.numbers;
      given = given_still w h rest notes goes;
      homes = λ k q found.
          by_pid (λ x. IsSome (find id_of x.space (change id_of p.space (λ y. with_own y space) w.spaces))) k q found
          (there_changed id_of p.space p.space (λ y. with_own y space) (λ y. refl) w.spaces (h.homes pid p lives))
          (λ other was. there_changed id_of p.space q.space (λ y. with_own y space) (λ y. refl) w.spaces (h.homes k q was));
      chains = chains_same (λ q. with_regs q regs) (λ q. refl) (λ q. refl) (λ q. refl) w.procs p.pid h.chains;
      spaces = λ i l found.
          subst (λ (n : ℕ). IsSpace n l.space.maps) (sym goes.pages)
          (by_id (λ x. IsSpace w.rest.pages x.space.maps) i l found is_space (λ was. h.spaces i l was));
      apart = subst AreApart (sym (own_around.changed (λ y. with_own y space))) apart;
      copies = λ i l found. by_id (λ x. HoldCopies rest.tree x.space) i l found holds (λ was. copies_stay w h rest notes goes i l was);
      changes = goes.changes;
      calls = goes.calls;
    }

  -- it waits, for its children or on a pipe
  pub waiting_sound : (state : State) → is_lent state ≡ false → IsSound (counted (with_state w p.pid state))
  waiting_sound state own = record {
    some = h.some;
    most = h.most;
    pids = falls_change pid_of p.pid (λ q. record q { state = state }) (λ q. refl) w.next_pid w.procs h.pids;
    numbers = h.numbers;
    given = h.given;
    homes = λ k q found.
        by_changed pid_of (λ x. record x { state = state }) (λ x. refl) p w.procs own_lives (λ x. IsSome (find id_of x.space w.spaces)) k q found
        (h.homes pid p lives) (λ other was. h.homes k q was);
    chains = chains_stopped w.procs p.pid p state own h.chains own_lives ready;
    spaces = h.spaces;
    apart = h.apart;
    copies = h.copies;
    changes = h.changes;
    calls = h.calls;
  }
