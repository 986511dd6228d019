-- The world of the parts, where one space or one process is found, changed or taken out.
use Rattle.std.proofs.Common.{◌≡◌, ◌≢◌, ℕ, zero, suc, ◌+◌, ◌<◌, Bool, true, false, not, cond, ◌⊎◌, inl, inr, List, [], ◌∷◌, ◌++◌, map, Option, Some, None, refl, sym, ap, ◌∙◌, arith}
use Rattle.std.specs.Prelude.{◌==◌, filter, slice_get, slice_set, option_map}
use Rattle.mmap_rules.specs.Held.{Held}
use Rattle.vfork_exec.specs.declared.entry.Entry.{Entry}
use Rattle.vfork_exec.specs.Keyed.{find, change, without}
use Rattle.vfork_exec.specs.Procs.{pid_of as entry_pid}
use Rattle.vfork_exec.proofs.Keyed.{find_head, eqb_same, eqb_other, find_map, change_map, without_map}
use Rattle.machine_world.specs.World.{Process, LiveSpace, pid_of, id_of}
use Rattle.kept_parts.specs.declared.task.Task.{Task}
use Rattle.kept_parts.specs.Stands.{private_bytes, private_of, live_at, live_from, live_spaces, process_of}

decide : (b : Bool) → (b ≡ true) ⊎ (b ≡ false)
decide true = inl refl
decide false = inr refl

-- ---- one list behind the other

module _ {A : Type 0} (key : A → ℕ) (k : ℕ) where
  change_head : (f : A → A) (x : A) (xs : List A) (b : Bool) → (key x == k) ≡ b → change key k f (x ∷ xs) ≡ cond b (f x ∷ xs) (x ∷ change key k f xs)
  unfolding change
  change_head f x xs b is = ap (λ (t : Bool). cond t (f x ∷ xs) (x ∷ change key k f xs)) is

  without_head : (x : A) (xs : List A) (b : Bool) → (key x == k) ≡ b → without key k (x ∷ xs) ≡ cond (not b) (x ∷ without key k xs) (without key k xs)
  unfolding without
  without_head x xs b is = ap (λ (t : Bool). cond (not t) (x ∷ filter (λ y. not (key y == k)) xs) (filter (λ y. not (key y == k)) xs)) is

  find_front : (xs ys : List A) (x : A) → find key k xs ≡ Some x → find key k (xs ++ ys) ≡ Some x
  unfolding find
  find_front [] ys x h = absurd cc
  find_front (y ∷ xs) ys x h = elim (decide (key y == k)) [
    | inl is ↦ find_head key k y (xs ++ ys) true is ∙ sym (find_head key k y xs true is) ∙ h
    | inr is ↦ find_head key k y (xs ++ ys) false is ∙ find_front xs ys x (sym (find_head key k y xs false is) ∙ h)
  ]

  find_back : (xs ys : List A) → find key k xs ≡ None → find key k (xs ++ ys) ≡ find key k ys
  unfolding find
  find_back [] ys h = refl
  find_back (y ∷ xs) ys h = elim (decide (key y == k)) [
    | inl is ↦ absurd (let e = sym (find_head key k y xs true is) ∙ h in cc)
    | inr is ↦ find_head key k y (xs ++ ys) false is ∙ find_back xs ys (sym (find_head key k y xs false is) ∙ h)
  ]

  change_front : (f : A → A) (xs ys : List A) (x : A) → find key k xs ≡ Some x → change key k f (xs ++ ys) ≡ change key k f xs ++ ys
  unfolding find
  change_front f [] ys x h = absurd cc
  change_front f (y ∷ xs) ys x h = elim (decide (key y == k)) [
    | inl is ↦ change_head f y (xs ++ ys) true is ∙ ap (λ zs. zs ++ ys) (sym (change_head f y xs true is))
    | inr is ↦
        change_head f y (xs ++ ys) false is
        ∙ ap (λ zs. y ∷ zs) (change_front f xs ys x (sym (find_head key k y xs false is) ∙ h))
        ∙ ap (λ zs. zs ++ ys) (sym (change_head f y xs false is))
  ]

  change_back : (f : A → A) (xs ys : List A) → find key k xs ≡ None → change key k f (xs ++ ys) ≡ xs ++ change key k f ys
  unfolding find
  change_back f [] ys h = refl
  change_back f (y ∷ xs) ys h = elim (decide (key y == k)) [
    | inl is ↦ absurd (let e = sym (find_head key k y xs true is) ∙ h in cc)
    | inr is ↦ change_head f y (xs ++ ys) false is ∙ ap (λ zs. y ∷ zs) (change_back f xs ys (sym (find_head key k y xs false is) ∙ h))
  ]

  without_both : (xs ys : List A) → without key k (xs ++ ys) ≡ without key k xs ++ without key k ys
  unfolding without
  without_both [] ys = refl
  without_both (x ∷ xs) ys = elim (decide (key x == k)) [
    | inl is ↦ without_head x (xs ++ ys) true is ∙ without_both xs ys ∙ ap (λ zs. zs ++ without key k ys) (sym (without_head x xs true is))
    | inr is ↦ without_head x (xs ++ ys) false is ∙ ap (λ zs. x ∷ zs) (without_both xs ys) ∙ ap (λ zs. zs ++ without key k ys) (sym (without_head x xs false is))
  ]

  without_none : (xs : List A) → find key k xs ≡ None → without key k xs ≡ xs
  unfolding find without
  without_none [] h = refl
  without_none (y ∷ xs) h = elim (decide (key y == k)) [
    | inl is ↦ absurd (let e = sym (find_head key k y xs true is) ∙ h in cc)
    | inr is ↦ without_head y xs false is ∙ ap (λ zs. y ∷ zs) (without_none xs (sym (find_head key k y xs false is) ∙ h))
  ]

-- ---- the live spaces from a number on

abbrev live : List ℕ → ℕ → Held → LiveSpace
live mem i h = record { id = i; space = private_of mem h }

module _ (mem : List ℕ) (k : ℕ) where
  find_live : (i : ℕ) (s : Option Held) → k ≢ i → find id_of k (live_at mem i s) ≡ None
  unfolding find
  find_live i None other = refl
  find_live i (Some h) other = find_head id_of k (live mem i h) [] false (eqb_other i k (λ e. other (sym e)))

  -- no space has a number below
  find_below : (i : ℕ) (ss : List (Option Held)) → k < i → find id_of k (live_from mem i ss) ≡ None
  unfolding find
  find_below i [] below = refl
  find_below i (s ∷ ss) below =
      find_back id_of k (live_from mem (i + 1) ss) (live_at mem i s) (find_below (i + 1) ss (omega arith)) ∙ find_live i s (omega arith)

  find_from : (ss : List (Option Held)) (i j : ℕ) (h : Held) → k ≡ i + j → slice_get ss j ≡ Some (Some h) → find id_of k (live_from mem i ss) ≡ Some (live mem k h)
  unfolding find
  find_from [] i j h at there = absurd cc
  find_from (s ∷ ss) i zero h at there =
      let same : s ≡ Some h = cc in
      let here : k ≡ i = omega arith in
      find_back id_of k (live_from mem (i + 1) ss) (live_at mem i s) (find_below (i + 1) ss (omega arith))
      ∙ ap (λ (o : Option Held). find id_of k (live_at mem i o)) same
      ∙ find_head id_of k (live mem i h) [] true (eqb_same i k (sym here))
      ∙ ap (λ (n : ℕ). Some (live mem n h)) (sym here)
  find_from (s ∷ ss) i (suc j) h at there =
      find_front id_of k (live_from mem (i + 1) ss) (live_at mem i s) (live mem k h) (find_from ss (i + 1) j h (omega arith) there)

  without_live : (i : ℕ) (s : Option Held) → k ≢ i → without id_of k (live_at mem i s) ≡ live_at mem i s
  without_live i s other = without_none id_of k (live_at mem i s) (find_live i s other)

  without_from : (ss : List (Option Held)) (i j : ℕ) (h : Held) → k ≡ i + j → slice_get ss j ≡ Some (Some h) → without id_of k (live_from mem i ss) ≡ live_from mem i (slice_set ss j None)
  unfolding without
  without_from [] i j h at there = absurd cc
  without_from (s ∷ ss) i zero h at there =
      let same : s ≡ Some h = cc in
      let here : k ≡ i = omega arith in
      without_both id_of k (live_from mem (i + 1) ss) (live_at mem i s)
      ∙ ap (λ zs. zs ++ without id_of k (live_at mem i s)) (without_none id_of k (live_from mem (i + 1) ss) (find_below (i + 1) ss (omega arith)))
      ∙ ap (λ (o : Option Held). live_from mem (i + 1) ss ++ without id_of k (live_at mem i o)) same
      ∙ ap (λ zs. live_from mem (i + 1) ss ++ zs) (without_head id_of k (live mem i h) [] true (eqb_same i k (sym here)))
  without_from (s ∷ ss) i (suc j) h at there =
      without_both id_of k (live_from mem (i + 1) ss) (live_at mem i s)
      ∙ ap (λ zs. zs ++ without id_of k (live_at mem i s)) (without_from ss (i + 1) j h (omega arith) there)
      ∙ ap (λ zs. live_from mem (i + 1) (slice_set ss j None) ++ zs) (without_live i s (omega arith))

module _ (mem now : List ℕ) where
  live_same : (i : ℕ) (s : Option Held) → ((o : Held) → s ≡ Some o → private_bytes now o ≡ private_bytes mem o) → live_at mem i s ≡ live_at now i s
  live_same i None same = refl
  live_same i (Some h) same = ap (λ m. record { id = i; space = record { maps = h.maps; brk = h.brk; brk_low = h.brk_low; brk_high = h.brk_high; bytes = m } } ∷ []) (sym (same h refl))

  pub others_same : (ss : List (Option Held)) (i : ℕ) → ((j : ℕ) (o : Held) → slice_get ss j ≡ Some (Some o) → private_bytes now o ≡ private_bytes mem o) → live_from mem i ss ≡ live_from now i ss
  others_same [] i same = refl
  others_same (s ∷ ss) i same =
      ap (λ zs. zs ++ live_at mem i s) (others_same ss (i + 1) (λ j. same (suc j)))
      ∙ ap (λ zs. live_from now (i + 1) ss ++ zs) (live_same i s (λ o e. same zero o (ap Some e)))

  module _ (f : LiveSpace → LiveSpace) (k : ℕ) (h g : Held) (goes : f (live mem k h) ≡ live now k g) where
    change_from : (ss : List (Option Held)) (i j : ℕ) → k ≡ i + j → slice_get ss j ≡ Some (Some h) →
        ((n : ℕ) (o : Held) → n ≢ j → slice_get ss n ≡ Some (Some o) → private_bytes now o ≡ private_bytes mem o) →
        change id_of k f (live_from mem i ss) ≡ live_from now i (slice_set ss j (Some g))
    unfolding change
    change_from [] i j at there others = absurd cc
    change_from (s ∷ ss) i zero at there others =
        let same : s ≡ Some h = cc in
        let here : k ≡ i = omega arith in
        change_back id_of k f (live_from mem (i + 1) ss) (live_at mem i s) (find_below mem k (i + 1) ss (omega arith))
        ∙ ap (λ zs. zs ++ change id_of k f (live_at mem i s)) (others_same ss (i + 1) (λ n o. others (suc n) o (omega arith)))
        ∙ ap (λ (o : Option Held). live_from now (i + 1) ss ++ change id_of k f (live_at mem i o)) same
        ∙ ap (λ (n : ℕ). live_from now (i + 1) ss ++ change id_of k f (live mem n h ∷ [])) (sym here)
        ∙ ap (λ zs. live_from now (i + 1) ss ++ zs) (change_head id_of k f (live mem k h) [] true (eqb_same k k refl))
        ∙ ap (λ (l : LiveSpace). live_from now (i + 1) ss ++ (l ∷ [])) goes
        ∙ ap (λ (n : ℕ). live_from now (i + 1) ss ++ (live now n g ∷ [])) here
    change_from (s ∷ ss) i (suc j) at there others =
        change_front id_of k f (live_from mem (i + 1) ss) (live_at mem i s) (live mem k h) (find_from mem k ss (i + 1) j h (omega arith) there)
        ∙ ap (λ zs. zs ++ live_at mem i s) (change_from ss (i + 1) j (omega arith) there (λ n o ne. others (suc n) o (omega arith)))
        ∙ ap (λ zs. live_from now (i + 1) (slice_set ss j (Some g)) ++ zs) (live_same i s (λ o e. others zero o (omega arith) (ap Some e)))

-- ---- of the parts

pub find_space : (mem : List ℕ) (spaces : List (Option Held)) (k : ℕ) (h : Held) → slice_get spaces k ≡ Some (Some h) → find id_of k (live_spaces mem spaces) ≡ Some (record { id = k; space = private_of mem h })
unfolding live_spaces
find_space mem spaces k h there = find_from mem k spaces 0 k h (omega arith) there

-- what happens to one space, where all others have the bytes that they had
pub change_space : (f : LiveSpace → LiveSpace) (mem now : List ℕ) (spaces : List (Option Held)) (k : ℕ) (h g : Held) →
    slice_get spaces k ≡ Some (Some h) →
    f (record { id = k; space = private_of mem h }) ≡ record { id = k; space = private_of now g } →
    ((j : ℕ) (o : Held) → j ≢ k → slice_get spaces j ≡ Some (Some o) → private_bytes now o ≡ private_bytes mem o) →
    change id_of k f (live_spaces mem spaces) ≡ live_spaces now (slice_set spaces k (Some g))
unfolding live_spaces
change_space f mem now spaces k h g there goes others = change_from mem now f k h g goes spaces 0 k (omega arith) there others

pub without_space : (mem : List ℕ) (spaces : List (Option Held)) (k : ℕ) (h : Held) → slice_get spaces k ≡ Some (Some h) → without id_of k (live_spaces mem spaces) ≡ live_spaces mem (slice_set spaces k None)
unfolding live_spaces
without_space mem spaces k h there = without_from mem k spaces 0 k h (omega arith) there

module _ (pid : ℕ) where
  pub find_process : (es : List (Entry Task)) → find pid_of pid (map process_of es) ≡ option_map process_of (find entry_pid pid es)
  find_process es = find_map entry_pid pid_of pid process_of (λ _. refl) es

  pub change_process : (f : Entry Task → Entry Task) (g : Process → Process) (es : List (Entry Task)) → ((e : Entry Task) → process_of (f e) ≡ g (process_of e)) → map process_of (change entry_pid pid f es) ≡ change pid_of pid g (map process_of es)
  change_process f g es goes = change_map entry_pid pid_of pid process_of (λ _. refl) f g goes es

  pub without_process : (es : List (Entry Task)) → map process_of (without entry_pid pid es) ≡ without pid_of pid (map process_of es)
  without_process es = without_map entry_pid pid_of pid process_of (λ _. refl) es
