-- The indexes of tables, by section.
use Rattle.std.proofs.Common.{◌≡◌, ℕ, zero, suc, ◌<◌, inl, inr, ◌⊎◌, List, [], ◌∷◌, length, replicate, slice_set, slice_get, slice_index_or, is_some, true, Option, Some, None, refl, sym, ap, ◌∙◌, subst, arith}
use Rattle.std.proofs.lemmas.Option.{same_Some, slice_get_read}
use Rattle.std.proofs.lemmas.List.{length-replicate}
use Rattle.elf32_reader.specs.Accepted.{IsAccepted}
use Rattle.elf32_reader.specs.Header.{count_of}
use Rattle.psabi_relocs.specs.declared.around.Spot.{Spot}
use Rattle.psabi_relocs.specs.Spots.{IsAroundOf}
use Rattle.fault_texts.specs.InFile.{AreTables, HasTable}

none_there : (n t : ℕ) (ss : List Spot) → slice_get (replicate n None) t ≡ Some (Some ss) → ⊥
none_there zero t ss is = absurd cc
none_there (suc n) zero ss is = absurd cc
none_there (suc n) (suc t) ss is = none_there n t ss is

pub no_tables : (e : List ℕ) (ts : List (Option (List Spot))) → IsAccepted e → ts ≡ replicate (count_of e) None → AreTables e ts
no_tables e ts accepted is = record {
  accepted = accepted;
  all = ap length is ∙ length-replicate (count_of e) None;
  each = λ t ss there. absurd (none_there (count_of e) t ss (ap (λ us. slice_get us t) (sym is) ∙ there));
}

set_there : (ts : List (Option (List Spot))) (t : ℕ) (o : Option (List Spot)) → t < length ts → slice_get (slice_set ts t o) t ≡ Some o
set_there [] t o below = absurd (omega arith)
set_there (p ∷ ts) zero o below = refl
set_there (p ∷ ts) (suc t) o below = set_there ts t o (omega arith)

set_other : (ts : List (Option (List Spot))) (t u : ℕ) (o q : Option (List Spot)) → slice_get (slice_set ts t o) u ≡ Some q
    → ((u ≡ t) × (o ≡ q)) ⊎ (slice_get ts u ≡ Some q)
set_other [] t u o q there = inr there
set_other (p ∷ ts) zero zero o q there = inl (refl, same_Some o q there)
set_other (p ∷ ts) zero (suc u) o q there = inr there
set_other (p ∷ ts) (suc t) zero o q there = inr there
set_other (p ∷ ts) (suc t) (suc u) o q there = elim (set_other ts t u o q there) [
  | inl here ↦ inl (ap suc here.0, here.1)
  | inr later ↦ inr later
]

length_set : (ts : List (Option (List Spot))) (t : ℕ) (o : Option (List Spot)) → length (slice_set ts t o) ≡ length ts
length_set [] t o = refl
length_set (p ∷ ts) zero o = refl
length_set (p ∷ ts) (suc t) o = ap suc (length_set ts t o)

-- with the index of one table more
pub with_table : (e : List ℕ) (ts : List (Option (List Spot))) (t : ℕ) (ss : List Spot) → AreTables e ts → IsAroundOf e t ss → AreTables e (slice_set ts t (Some ss))
with_table e ts t ss tables right = record {
  accepted = tables.accepted;
  all = length_set ts t (Some ss) ∙ tables.all;
  each = λ u rs there. elim (set_other ts t u (Some ss) (Some rs) there) [
    | inl here ↦ subst (λ (v : ℕ). IsAroundOf e v rs) (sym here.0) (subst (IsAroundOf e t) (same_Some ss rs here.1) right)
    | inr later ↦ tables.each u rs later
  ];
}

pub has_set : (ts : List (Option (List Spot))) (t : ℕ) (ss : List Spot) → t < length ts → HasTable (slice_set ts t (Some ss)) t
has_set ts t ss below = record { spots = ss; there = set_there ts t (Some ss) below }

pub has_old : (ts : List (Option (List Spot))) (t : ℕ) (o : Option (List Spot)) → t < length ts → is_some o ≡ true → o ≡ slice_index_or ts t o → HasTable ts t
has_old ts t None below some is = absurd cc
has_old ts t (Some ss) below some is = record { spots = ss; there = slice_get_read ts (length ts) t (Some ss) refl below is }
