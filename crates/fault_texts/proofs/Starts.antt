-- The start of a name tells what is shown of it.
use Rattle.std.proofs.Common.{◌≡◌, ℕ, zero, suc, nat_lt, inl, inr, List, [], ◌∷◌, length, take, refl, sym, ap, ◌∙◌, arith, length-take}
use Rattle.std.proofs.lemmas.Bool.{cases_lt, lt-ltb, le-ltb}
use Rattle.fault_texts.specs.Names.{shown, name_or}

take_start : (n : ℕ) (name : List ℕ) → take n (take (suc n) name) ≡ take n name
take_start n [] = refl
take_start zero (b ∷ bs) = refl
take_start (suc n) (b ∷ bs) = ap (λ cs. b ∷ cs) (take_start n bs)

longer : (n : ℕ) (name : List ℕ) → nat_lt n (length (take (suc n) name)) ≡ nat_lt n (length name)
longer n name =
    let size = length-take (suc n) name in
    elim (cases_lt n (length name)) [
      | inl more ↦ lt-ltb n (length (take (suc n) name)) (omega arith) ∙ sym (lt-ltb n (length name) more)
      | inr few ↦ le-ltb n (length (take (suc n) name)) (omega arith) ∙ sym (le-ltb n (length name) few)
    ]

shown_start : (name : List ℕ) → shown (take 256 name) ≡ shown name
unfolding shown
shown_start name = rw (take_start 255 name, longer 255 name) refl

pub name_or_start : (sign index : ℕ) (name : List ℕ) → name_or sign index (take 256 name) ≡ name_or sign index name
name_or_start sign index [] = refl
name_or_start sign index (b ∷ bs) = shown_start (b ∷ bs)
