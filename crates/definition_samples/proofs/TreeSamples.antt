-- Trees of names, and nodes that aren't one.
use Rattle.std.proofs.Common.{◌≡◌, ◌≢◌, ℕ, zero, suc, ◌<◌, ◌≤◌, true, false, cond, not, sym, List, [], ◌∷◌, map, Some, None, refl, arith}
use Rattle.std.specs.Prelude.{◌==◌, ◌&&◌, codes}
use Rattle.std.proofs.lemmas.Bool.Decides.{nat_tests}
use Rattle.std.proofs.lemmas.Option.{same_Some}
use Rattle.mem_files.specs.Inodes.{Inodes, Entry, file, folder, root, new_inode, entries_of}
use Rattle.mem_files.specs.Trees.{is_named, parent_of, leading, having, link_count, IsTree}

-- ---- /a/c is a file, /bc another one; one node is gone, and one is open and has no name

abbrev named : ℕ → List ℕ → Entry
named id name = record { name = name; id = id }

abbrev nodes : Inodes
nodes =
    None
    ∷ Some (new_inode (folder root (named 2 (codes "a") ∷ named 4 (codes "bc") ∷ [])) None)
    ∷ Some (new_inode (folder root (named 3 (codes "c") ∷ [])) None)
    ∷ Some (new_inode (file (7 ∷ [])) None)
    ∷ Some (new_inode (file []) (Some 0))
    ∷ None
    ∷ Some (record (new_inode (file []) None) { linked = false; holds = 1 })
    ∷ []

-- a folder has a parent, and a file, a node that is gone and a number that nobody has don't
parents : map (parent_of nodes) (0 ∷ 1 ∷ 2 ∷ 3 ∷ 5 ∷ 6 ∷ 7 ∷ []) ≡ None ∷ Some 1 ∷ Some 1 ∷ None ∷ None ∷ None ∷ None ∷ []
parents = refl

-- no entry leads to the root, one to each other node with a name, and none to a node without one
counts : map (link_count nodes) (0 ∷ 1 ∷ 2 ∷ 3 ∷ 4 ∷ 5 ∷ 6 ∷ 7 ∷ []) ≡ 0 ∷ 0 ∷ 1 ∷ 1 ∷ 1 ∷ 0 ∷ 0 ∷ 0 ∷ []
counts = refl

-- two entries of two folders
counts-twice : link_count (None ∷ Some (new_inode (folder root (named 2 (codes "a") ∷ named 3 (codes "b") ∷ [])) None) ∷ Some (new_inode (folder root (named 3 (codes "c") ∷ [])) None) ∷ []) 3 ≡ 2
counts-twice = refl

once : (id : ℕ) → link_count nodes id ≡ cond (is_named nodes id && not (id == root)) 1 0
once zero = refl
once (suc zero) = refl
once (suc (suc zero)) = refl
once (suc (suc (suc zero))) = refl
once (suc (suc (suc (suc zero)))) = refl
once (suc (suc (suc (suc (suc zero))))) = refl
once (suc (suc (suc (suc (suc (suc zero)))))) = refl
once (suc (suc (suc (suc (suc (suc (suc id))))))) = grind (arith, nat_tests)

below : (id at : ℕ) → 1 ≤ leading id (entries_of nodes at) → at < id
below id zero some = absurd (omega (arith, some))
below id (suc zero) some = grind (arith, nat_tests, some)
below id (suc (suc zero)) some = grind (arith, nat_tests, some)
below id (suc (suc (suc zero))) some = absurd (omega (arith, some))
below id (suc (suc (suc (suc zero)))) some = absurd (omega (arith, some))
below id (suc (suc (suc (suc (suc zero))))) some = absurd (omega (arith, some))
below id (suc (suc (suc (suc (suc (suc zero)))))) some = absurd (omega (arith, some))
below id (suc (suc (suc (suc (suc (suc (suc at))))))) some = absurd (omega (arith, some))

-- the root's entries are "a" and "bc"
apart : (at : ℕ) (name : List ℕ) → having name (entries_of nodes at) ≤ 1
apart zero name = omega arith
apart (suc zero) [] = omega arith
apart (suc zero) (x ∷ []) = grind (arith, nat_tests)
apart (suc zero) (x ∷ y ∷ name) = grind (arith, nat_tests)
apart (suc (suc zero)) [] = omega arith
apart (suc (suc zero)) (x ∷ name) = grind (arith, nat_tests)
apart (suc (suc (suc zero))) name = omega arith
apart (suc (suc (suc (suc zero)))) name = omega arith
apart (suc (suc (suc (suc (suc zero))))) name = omega arith
apart (suc (suc (suc (suc (suc (suc zero)))))) name = omega arith
apart (suc (suc (suc (suc (suc (suc (suc at))))))) name = omega arith

empty : (id : ℕ) → is_named nodes id ≡ false → entries_of nodes id ≡ []
empty zero is = refl
empty (suc zero) is = absurd cc
empty (suc (suc zero)) is = absurd cc
empty (suc (suc (suc zero))) is = refl
empty (suc (suc (suc (suc zero)))) is = refl
empty (suc (suc (suc (suc (suc zero))))) is = refl
empty (suc (suc (suc (suc (suc (suc zero)))))) is = refl
empty (suc (suc (suc (suc (suc (suc (suc id))))))) is = refl

above : (id parent : ℕ) → is_named nodes id ≡ true → id ≢ root → parent_of nodes id ≡ Some parent → 1 ≤ leading id (entries_of nodes parent)
above zero parent is other found = absurd cc
above (suc zero) parent is other found = absurd (other refl)
above (suc (suc zero)) parent is other found = rw (sym (same_Some 1 parent found)) omega arith
above (suc (suc (suc zero))) parent is other found = absurd cc
above (suc (suc (suc (suc zero)))) parent is other found = absurd cc
above (suc (suc (suc (suc (suc zero))))) parent is other found = absurd cc
above (suc (suc (suc (suc (suc (suc zero)))))) parent is other found = absurd cc
above (suc (suc (suc (suc (suc (suc (suc id))))))) parent is other found = absurd cc

is-tree : IsTree nodes
is-tree = record { root_named = refl; root_above = refl; once = once; below = below; apart = apart; empty = empty; above = above }

-- ---- no trees

-- two entries lead to one node
abbrev pub twice : Inodes
twice = None ∷ Some (new_inode (folder root (named 2 (codes "a") ∷ named 2 (codes "b") ∷ [])) None) ∷ Some (new_inode (file []) None) ∷ []

pub refuted-twice : IsTree twice → ⊥
refuted-twice t = let is : 2 ≡ 1 = t.once 2 in omega (arith, is)

-- a folder that no entry leads to but its own
abbrev circle : Inodes
circle = None ∷ Some (new_inode (folder root []) None) ∷ Some (new_inode (folder 2 (named 2 (codes "a") ∷ [])) None) ∷ []

refuted-circle : IsTree circle → ⊥
refuted-circle t = let is : 2 < 2 = t.below 2 2 (omega arith) in omega (arith, is)

-- one name for two nodes
abbrev one_name : Inodes
one_name =
    None
    ∷ Some (new_inode (folder root (named 2 (codes "a") ∷ named 3 (codes "a") ∷ [])) None)
    ∷ Some (new_inode (file []) None)
    ∷ Some (new_inode (file []) None)
    ∷ []

refuted-one_name : IsTree one_name → ⊥
refuted-one_name t = let is : 2 ≤ 1 = t.apart 1 (codes "a") in omega (arith, is)
