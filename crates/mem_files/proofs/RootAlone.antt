-- The root alone is a tree.
use Rattle.std.proofs.Common.{◌≡◌, ℕ, zero, suc, ◌<◌, ◌≤◌, true, false, cond, not, List, [], refl, arith}
use Rattle.std.specs.Prelude.{◌==◌, ◌&&◌}
use Rattle.mem_files.specs.Inodes.{root, opening, entries_of}
use Rattle.mem_files.specs.Trees.{is_named, leading, having, link_count, IsTree}

opening_once : (id : ℕ) → link_count opening id ≡ cond (is_named opening id && not (id == root)) 1 0
opening_once zero = refl
opening_once (suc zero) = refl
opening_once (suc (suc id)) = refl

opening_apart : (at : ℕ) (name : List ℕ) → having name (entries_of opening at) ≤ 1
opening_apart zero name = omega arith
opening_apart (suc zero) name = omega arith
opening_apart (suc (suc at)) name = omega arith

opening_below : (id at : ℕ) → 1 ≤ leading id (entries_of opening at) → at < id
opening_below id zero some = absurd (omega (arith, some))
opening_below id (suc zero) some = absurd (omega (arith, some))
opening_below id (suc (suc at)) some = absurd (omega (arith, some))

opening_empty : (id : ℕ) → is_named opening id ≡ false → entries_of opening id ≡ []
opening_empty zero is = refl
opening_empty (suc zero) is = refl
opening_empty (suc (suc id)) is = refl

root_alone : (id : ℕ) → is_named opening id ≡ true → id ≡ root
root_alone zero is = let no : ⊥ = cc in absurd no
root_alone (suc zero) is = refl
root_alone (suc (suc id)) is = let no : ⊥ = cc in absurd no

pub at_opening : IsTree opening
at_opening = record {
  root_named = refl;
  root_above = refl;
  once = opening_once;
  below = opening_below;
  apart = opening_apart;
  empty = opening_empty;
  above = λ id parent named other found. absurd (other (root_alone id named));
}
