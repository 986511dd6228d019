-- What is laid where no mapping held the page before.
use Rattle.std.proofs.Common.{◌≡◌, ℕ, true, false, inl, inr, List, [], ◌∷◌, Option, Some, None, refl, sym, ap, ◌∙◌, arith}
use Rattle.std.specs.Prelude.{◌==◌}
use Rattle.std.proofs.lemmas.Bool.{cases_Bool, false≢true, false_from_ne_true}
use Rattle.std.proofs.lemmas.Option.{none-some}
use Rattle.byte_words.specs.ByteMap.{Bytes}
use Rattle.mmap_rules.specs.Space.{Space, own_in}
use Rattle.region_watch.specs.Private.{only}
use Rattle.vfork_exec.specs.Keyed.{Falls, find, change}
use Rattle.vfork_exec.proofs.Keyed.{find_head, find_later, find_below, change_head, eqb_same}
use Rattle.machine_world.specs.World.{LiveSpace, World, id_of}
use Rattle.machine_world.proofs.States.{with_own}
use Rattle.alone_laws.specs.Sound.{IsSound}
use Rattle.memory_world.specs.Physical.{Physical, or_below, over, bytes_in, is_free_at}
use Rattle.go_on_laws.specs.Alike.{Stands}
use Rattle.go_on_laws.proofs.Pages.{own_not_free}
use Rattle.go_on_laws.proofs.Behind.{is_in}
use Rattle.go_on_laws.proofs.Writes.{only_at, only_off}

-- ---- what a list of spaces has at an address

pub below_none : (x : Option ℕ) → or_below x None ≡ x
below_none (Some b) = refl
below_none None = refl

both_none : (x y : Option ℕ) → or_below x y ≡ None → (x ≡ None) × (y ≡ None)
both_none None y is = (refl, is)
both_none (Some b) y is = absurd cc

pub none_in : (b : ℕ) (ss : List LiveSpace) (a : ℕ) → Falls id_of b ss → ((k : ℕ) (t : LiveSpace) → find id_of k ss ≡ Some t → t.space.bytes a ≡ None) → bytes_in ss a ≡ None
none_in b [] a falls each = refl
none_in b (s ∷ ss) a falls each =
    ap (λ (x : Option ℕ). or_below x (bytes_in ss a)) (each s.id s (find_head id_of s.id s ss true (eqb_same s.id s.id refl)))
    ∙ none_in s.id ss a falls.1 (λ k t found. each k t (find_later id_of k s ss (λ e. (let less = find_below id_of k s.id ss t falls.1 found in omega (arith, less, e))) ∙ found))

-- where no space has a byte but the one that changed
pub changed_in : (i : ℕ) (space : Space) (s : LiveSpace) (ss : List LiveSpace) (a : ℕ) → find id_of i ss ≡ Some s → bytes_in ss a ≡ None
    → bytes_in (change id_of i (λ l. with_own l space) ss) a ≡ space.bytes a
unfolding find
changed_in i space s [] a found none = absurd (none-some s found)
changed_in i space s (x ∷ ss) a found none =
    let parts = both_none (x.space.bytes a) (bytes_in ss a) none in
    elim (cases_Bool (x.id == i)) [
      | inl here ↦
          ap (λ (l : List LiveSpace). bytes_in l a) (change_head id_of i (λ l. with_own l space) x ss true here) ∙ ap (or_below (space.bytes a)) parts.1
          ∙ below_none (space.bytes a)
      | inr away ↦
          ap (λ (l : List LiveSpace). bytes_in l a) (change_head id_of i (λ l. with_own l space) x ss false away)
          ∙ ap (λ (y : Option ℕ). or_below y (bytes_in (change id_of i (λ l. with_own l space) ss) a)) parts.0
          ∙ changed_in i space s ss a (sym (find_head id_of i x ss false away) ∙ found) parts.1
    ]

-- ---- at an address

module _ (w : World) (ss : List LiveSpace) (memory : Bytes) where
  -- bytes of these spaces, laid where no mapping of the world holds the page
  abbrev pub laid : Bytes
  laid = over (only (is_free_at w) (bytes_in ss)) memory

  pub laid_held : (a : ℕ) → is_free_at w a ≡ false → laid a ≡ memory a
  laid_held a is = ap (λ (x : Option ℕ). or_below x (memory a)) (only_off (is_free_at w) (bytes_in ss) a is)

  pub laid_free : (a : ℕ) → is_free_at w a ≡ true → laid a ≡ or_below (bytes_in ss a) (memory a)
  laid_free a is = ap (λ (x : Option ℕ). or_below x (memory a)) (only_at (is_free_at w) (bytes_in ss) a is)

  pub laid_some : (a b : ℕ) → is_free_at w a ≡ true → bytes_in ss a ≡ Some b → laid a ≡ Some b
  laid_some a b free is = laid_free a free ∙ ap (λ (x : Option ℕ). or_below x (memory a)) is

  pub laid_none : (a : ℕ) → (is_free_at w a ≡ true → bytes_in ss a ≡ None) → laid a ≡ memory a
  laid_none a none = elim (cases_Bool (is_free_at w a)) [
    | inl free ↦ laid_free a free ∙ ap (λ (x : Option ℕ). or_below x (memory a)) (none free)
    | inr is ↦ laid_held a is
  ]

-- a space has no byte in a page that isn't held
module _ (p : Physical) (sound : IsSound p.world) (stands : Stands p.world p) where
  pub free_space : (k : ℕ) (t : LiveSpace) (a : ℕ) → find id_of k p.world.spaces ≡ Some t → is_free_at p.world a ≡ true → t.space.bytes a ≡ None
  free_space k t a found free =
      let none : own_in t.space.maps a ≡ false = false_from_ne_true (own_in t.space.maps a) (λ own. false≢true (sym (own_not_free p.world sound k t found a own) ∙ free)) in
      ap (λ (f : Bytes). f a) (is_in p sound stands k t found).shown ∙ only_off (own_in t.space.maps) p.memory a none

  pub free_none : (a : ℕ) → is_free_at p.world a ≡ true → bytes_in p.world.spaces a ≡ None
  free_none a free = none_in p.world.loads p.world.spaces a sound.numbers (λ k t found. free_space k t a found free)
