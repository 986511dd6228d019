-- How many mappings name a region, and places of lists.
use Rattle.std.proofs.Common.{◌≡◌, ◌≢◌, ℕ, zero, suc, ◌+◌, ◌<◌, ◌≤◌, inl, inr, Bool, true, false, cond, List, [], ◌∷◌, ◌++◌, arith, refl, ap, ◌∙◌}
use Rattle.std.specs.Prelude.{Option, Some, None, slice_get, ◌==◌}
use Rattle.std.proofs.lemmas.Option.{same_Some, none-some}
use Rattle.std.proofs.lemmas.Bool.Decides.{nat_tests}
use Rattle.std.proofs.lemmas.List.Sums.{sum_by-cons}
use Rattle.mmap_rules.specs.declared.mapping.Mapping.{Mapping}
use Rattle.mmap_rules.specs.Held.{Held}
use Rattle.call_bytes.proofs.Places.{decide}
use Rattle.kept_parts.specs.Regular.{named_in, uses_in}

-- ---- how many name a region

pub eqb_is : (n k : ℕ) → (n == k) ≡ true → n ≡ k
eqb_is n k h = grind (arith, nat_tests)

named_cons : (id : ℕ) (n : Mapping) (maps : List Mapping) (b : Bool) → (n.first == id) ≡ b → named_in id (n ∷ maps) ≡ cond b 1 0 + named_in id maps
named_cons id n maps b is = sum_by-cons (λ (m : Mapping). cond (m.first == id) 1 0) n maps ∙ ap (λ (t : Bool). cond t 1 0 + named_in id maps) is

pub named_yes : (id : ℕ) (n : Mapping) (maps : List Mapping) → n.first ≡ id → named_in id (n ∷ maps) ≡ 1 + named_in id maps
named_yes id n maps same = named_cons id n maps true (grind (arith, nat_tests, same))

pub named_no : (id : ℕ) (n : Mapping) (maps : List Mapping) → n.first ≢ id → named_in id (n ∷ maps) ≡ named_in id maps
named_no id n maps other = named_cons id n maps false (grind (arith, nat_tests, other)) ∙ omega arith

-- a mapping of the list names the region
pub named : (id : ℕ) (maps : List Mapping) (j : ℕ) (m : Mapping) → slice_get maps j ≡ Some m → m.first ≡ id → 1 ≤ named_in id maps
named id [] j m is names = absurd (none-some m is)
named id (n ∷ maps) zero m is names =
    omega (arith, named_yes id n maps (ap (λ (x : Mapping). x.first) (same_Some _ _ is) ∙ names))
named id (n ∷ maps) (suc j) m is names = let rest = named id maps j m is names in elim (decide (n.first == id)) [
  | inl here ↦ omega (arith, rest, named_yes id n maps (eqb_is n.first id here))
  | inr other ↦ omega (arith, rest, named_cons id n maps false other)
]

-- a mapping that does
pub record Naming (id : ℕ) (maps : List Mapping) : Type 0 where
  pub place : ℕ
  pub mapping : Mapping
  pub there : slice_get maps place ≡ Some mapping
  pub names : mapping.first ≡ id

pub named_by : (id : ℕ) (maps : List Mapping) → 0 < named_in id maps → Naming id maps
named_by id [] some = absurd (omega arith)
named_by id (n ∷ maps) some = elim (decide (n.first == id)) [
  | inl here ↦ record { place = 0; mapping = n; there = refl; names = eqb_is n.first id here }
  | inr other ↦
      let later = named_by id maps (omega (arith, some, named_cons id n maps false other)) in
      record { place = suc later.place; mapping = later.mapping; there = later.there; names = later.names }
]

-- a live space counts
pub counted : (id : ℕ) (spaces : List (Option Held)) (i : ℕ) (h : Held) → slice_get spaces i ≡ Some (Some h) → named_in id h.maps ≤ uses_in id spaces
counted id [] i h is = absurd (none-some _ is)
counted id (None ∷ spaces) zero h is = absurd (none-some h (same_Some _ _ is))
counted id (Some g ∷ spaces) zero h is =
    let same = ap (λ (x : Held). named_in id x.maps) (same_Some _ _ (same_Some _ _ is)) in omega (arith, same)
counted id (None ∷ spaces) (suc i) h is = counted id spaces i h is
counted id (Some g ∷ spaces) (suc i) h is = omega (arith, counted id spaces i h is)

-- and so do two of them
pub counted_both : (id : ℕ) (spaces : List (Option Held)) (i j : ℕ) (h g : Held) → i ≢ j → slice_get spaces i ≡ Some (Some h) → slice_get spaces j ≡ Some (Some g)
    → named_in id h.maps + named_in id g.maps ≤ uses_in id spaces
counted_both id [] i j h g other is it = absurd (none-some _ is)
counted_both id (s ∷ spaces) zero zero h g other is it = absurd (other refl)
counted_both id (None ∷ spaces) zero (suc j) h g other is it = absurd (none-some h (same_Some _ _ is))
counted_both id (None ∷ spaces) (suc i) zero h g other is it = absurd (none-some g (same_Some _ _ it))
counted_both id (Some x ∷ spaces) zero (suc j) h g other is it =
    let same = ap (λ (y : Held). named_in id y.maps) (same_Some _ _ (same_Some _ _ is)) in omega (arith, same, counted id spaces j g it)
counted_both id (Some x ∷ spaces) (suc i) zero h g other is it =
    let same = ap (λ (y : Held). named_in id y.maps) (same_Some _ _ (same_Some _ _ it)) in omega (arith, same, counted id spaces i h is)
counted_both id (None ∷ spaces) (suc i) (suc j) h g other is it = counted_both id spaces i j h g (λ e. other (ap suc e)) is it
counted_both id (Some x ∷ spaces) (suc i) (suc j) h g other is it =
    omega (arith, counted_both id spaces i j h g (λ e. other (ap suc e)) is it)

-- a space more
pub uses_pushed : (id : ℕ) (spaces : List (Option Held)) (h : Held) → uses_in id (spaces ++ Some h ∷ []) ≡ uses_in id spaces + named_in id h.maps
uses_pushed id [] h = omega arith
uses_pushed id (None ∷ spaces) h = uses_pushed id spaces h
uses_pushed id (Some g ∷ spaces) h = omega (arith, uses_pushed id spaces h)

-- a live space that names the region
pub record Using (id : ℕ) (spaces : List (Option Held)) : Type 0 where
  pub number : ℕ
  pub held : Held
  pub there : slice_get spaces number ≡ Some (Some held)
  pub some : 0 < named_in id held.maps

pub used_by : (id : ℕ) (spaces : List (Option Held)) → 0 < uses_in id spaces → Using id spaces
used_by id [] some = absurd (omega arith)
used_by id (None ∷ spaces) some =
    let later = used_by id spaces some in record { number = suc later.number; held = later.held; there = later.there; some = later.some }
used_by id (Some h ∷ spaces) some = by_count (named_in id h.maps) refl (λ more. used_by id spaces more)
  where
    by_count : (n : ℕ) → named_in id h.maps ≡ n → (0 < uses_in id spaces → Using id spaces) → Using id (Some h ∷ spaces)
    by_count zero is deeper =
        let later = deeper (omega (arith, is, some)) in
        record { number = suc later.number; held = later.held; there = later.there; some = later.some }
    by_count (suc n) is deeper = record { number = 0; held = h; there = refl; some = omega (arith, is) }
