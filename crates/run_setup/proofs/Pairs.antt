-- A loop over lines, each with its file.
use Rattle.std.proofs.Common.{◌≡◌, ℕ, ◌<◌, ◌≤◌, List, length, get_or, Option, Some, None, ap, ◌∙◌, arith, Bor}
use Rattle.std.specs.List.{zip}
use Rattle.std.specs.Iterator.{Yields}
use Rattle.std.specs.Iterator.Adapters.{zip_first, zip_second}
use Rattle.std.specs.Slice.Iter.{iter_rest}
use Rattle.std.specs.Vec.Iter.{into_iter_items, into_iter_len, into_iter_steps}
use Rattle.std.specs.declared.iter.Zip.{Zip}
use Rattle.std.specs.declared.vec.IntoIter.{IntoIter}
use Rattle.std.proofs.Common.{Iter}
use Rattle.std.proofs.iter.Yields.{fronts}
use Rattle.std.proofs.lemmas.Iterator.{YieldsList, zips, YieldsList-from_slice, YieldsList-from_zip}
use Rattle.std.proofs.lemmas.Iterator.Adapters.{YieldsList-from_vec}
use Rattle.std.proofs.lemmas.Iterator.Consumers.{YieldsList-turn, YieldsList-end}
use Rattle.std.proofs.lemmas.Slice.Zip.{length-zip, get_or-zip}

-- the pair of one turn, by its number
pub record PairAt {A B : Type 0} (ks : List A) (vs : List B) (n : ℕ) (k : A) (v : B) : Type 0 where
  pub first_below : n < length ks
  pub second_below : n < length vs
  pub first : k ≡ get_or ks n k
  pub second : v ≡ get_or vs n v

module _ {A B Z : Type 0} where
  abbrev steps : Zip (Iter A) (IntoIter B Z) → Option (Bor A × B) → Zip (Iter A) (IntoIter B Z) → Type 0
  steps = zips fronts (into_iter_steps {X = B} {Z = Z})

  abbrev AllPairs : Zip (Iter A) (IntoIter B Z) → List A → List B → Type 0
  AllPairs s ks vs = YieldsList steps (λ p. (p.0.now, p.1)) s (zip ks vs)

  -- all pairs, in order
  pub pairs : (s from : Zip (Iter A) (IntoIter B Z)) → s ≡ from → (ks : List A) (vs : List B) → iter_rest (zip_first from) ≡ ks → into_iter_items (zip_second from) ≡ vs → into_iter_len (zip_second from) ≡ length vs
      → AllPairs s ks vs
  pairs s from same ks vs first second long =
      YieldsList-from_zip (YieldsList-from_slice ks (ap (λ t. iter_rest (zip_first t)) same ∙ first))
      (YieldsList-from_vec vs (ap (λ t. into_iter_items (zip_second t)) same ∙ second) (ap (λ t. into_iter_len (zip_second t)) same ∙ long))

  module _ {s : Zip (Iter A) (IntoIter B Z)} (ks : List A) (vs : List B) (all : AllPairs s ks vs) (xs : List (Bor A × B)) (t : Zip (Iter A) (IntoIter B Z)) (so_far : Yields steps s xs t) (r : Option (Bor A × B)) (u : Zip (Iter A) (IntoIter B Z)) where
    pub pair_at : (k : Bor A) (v : B) → r ≡ Some (k, v) → steps t r u → PairAt ks vs (length xs) k.now v
    pair_at k v is next =
        let at = YieldsList-turn all xs t so_far r u (k, v) is next in
        let many = length-zip ks vs in
        let below : length xs < length ks = omega (arith, at.0, many) in
        let below_too : length xs < length vs = omega (arith, at.0, many) in
        let both : (k.now, v) ≡ (get_or ks (length xs) k.now, get_or vs (length xs) v) = at.1 ∙ get_or-zip ks vs (length xs) (k.now, v) below below_too in
        record { first_below = below; second_below = below_too; first = ap (λ (p : A × B). p.0) both; second = ap (λ (p : A × B). p.1) both }

    -- behind the last pair there is no line
    pub none_left : r ≡ None → steps t r u → length vs ≡ length ks → length ks ≤ length xs
    none_left is next same = omega (arith, same, (YieldsList-end all xs t so_far r u is next).1, length-zip ks vs)
