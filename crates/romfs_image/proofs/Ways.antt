-- The way from a node up to the root, a name at a time.
use Rattle.std.proofs.Common.{◌≡◌, ℕ, ◌+◌, ◌-◌, ◌<◌, suc, List, [], ◌∷◌, ◌++◌, map, Option, Some, None, sym, ap, ◌∙◌, append_assoc, arith}
use Rattle.std.specs.Prelude.{reverse, option_map}
use Rattle.std.specs.Option.{unwrap_or}
use Rattle.std.specs.Borrow.{Bor}
use Rattle.std.proofs.lemmas.List.{reverse-append, map-append}
use Rattle.romfs_image.specs.Nodes.{RomValue}
use Rattle.romfs_image.specs.Paths.{numbered, names_to}

abbrev pub now_of : Bor (List ℕ) → List ℕ
now_of name = name.now

-- the names that were taken, the one nearest to the root first
abbrev pub taken : List (Bor (List ℕ)) → List (List ℕ)
taken names = reverse (map now_of names)

pub taken_more : (names : List (Bor (List ℕ))) (name : Bor (List ℕ)) → taken (names ++ name ∷ []) ≡ name.now ∷ taken names
taken_more names name = ap reverse (map-append now_of names (name ∷ [])) ∙ reverse-append (map now_of names) (name.now ∷ [])

steps_left : (number k : ℕ) → k < number → number - k ≡ suc (number - (k + 1))
steps_left number k lt = omega arith

-- one node further up
pub goes_up : (nodes : List RomValue) (number k at : ℕ) (n : RomValue) (names : List (List ℕ)) → k < number → numbered nodes at ≡ Some n
    → names_to (number - (k + 1)) nodes n.parent ++ n.name ∷ names ≡ names_to (number - k) nodes at ++ names
goes_up nodes number k at n names lt is =
    let m = number - (k + 1) in
    let opened : names_to (suc m) nodes at ≡ names_to m nodes n.parent ++ n.name ∷ [] = ap (λ (o : Option RomValue). unwrap_or (option_map (λ (x : RomValue). names_to m nodes x.parent ++ x.name ∷ []) o) []) is in
    sym (append_assoc (names_to m nodes n.parent) (n.name ∷ []) names) ∙ sym (ap (λ (xs : List (List ℕ)). xs ++ names) (ap (λ (s : ℕ). names_to s nodes at) (steps_left number k lt) ∙ opened))

-- no node is there
pub is_at_root : (nodes : List RomValue) (number k at : ℕ) → k < number → numbered nodes at ≡ None → names_to (number - k) nodes at ≡ []
is_at_root nodes number k at lt is =
    let m = number - (k + 1) in
    let opened : names_to (suc m) nodes at ≡ [] = ap (λ (o : Option RomValue). unwrap_or (option_map (λ (x : RomValue). names_to m nodes x.parent ++ x.name ∷ []) o) []) is in
    ap (λ (s : ℕ). names_to s nodes at) (steps_left number k lt) ∙ opened
