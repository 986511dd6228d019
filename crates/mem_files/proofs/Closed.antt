-- What is made is named, and not open.
use Rattle.std.proofs.Common.{◌≡◌, ℕ, zero, suc, true, List, [], ◌∷◌, ◌++◌, length, Option, Some, None, IfSome, refl, sym, subst, ◌⊎◌, inl, inr}
use Rattle.std.proofs.lemmas.Bool.{cases_eq}
use Rattle.mem_files.specs.Inodes.{Entry, Content, file, folder, Inode, Inodes, new_inode, opening, inode_at}
use Rattle.mem_files.specs.Paths.{place_of}
use Rattle.mem_files.specs.Changes.{with_entries, with_entry, with_new, with_folder, with_file}
use Rattle.mem_files.specs.Trees.{AreNamedAndClosed}
use Rattle.mem_files.specs.TreeLaws.{MakingOpensNothing}
use Rattle.mem_files.proofs.Numbers.{made, change_each, behind_there, behind_other}
use Rattle.mem_files.proofs.TreesKept.{made_leaves}

abbrev IsClosed : Option Inode → Type 0
IsClosed o = IfSome o (λ n. (n.linked ≡ true) × (n.holds ≡ 0))

entries_closed : (f : List Entry → List Entry) (o : Option Inode) → IsClosed o → IsClosed (made (λ n. Some (with_entries f n)) o)
entries_closed f None is = tt
entries_closed f (Some n) is = by n.content refl
  where
    by : (x : Content) → n.content ≡ x → IsClosed (Some (with_entries f n))
    by (file bytes) e = rw e is
    by (folder parent entries) e = rw e is

entered : (ns : Inodes) (at : ℕ) (name : List ℕ) (id : ℕ) → AreNamedAndClosed ns → AreNamedAndClosed (with_entry ns at name id)
entered ns at name id each k =
    change_each (λ n. Some (with_entries (λ entries. entries ++ record { name = name; id = id } ∷ []) n)) (λ new old. IsClosed old → IsClosed new) ns at
    (entries_closed (λ entries. entries ++ record { name = name; id = id } ∷ []) (inode_at ns at)) (λ o is. is) k (each k)

behind : (n : Inode) → (n.linked ≡ true) × (n.holds ≡ 0) → (ns : Inodes) → AreNamedAndClosed ns → AreNamedAndClosed (ns ++ Some n ∷ [])
behind n is ns each k = by (cases_eq k (length ns))
  where
    by : (k ≡ length ns) ⊎ (k ≡ length ns → ⊥) → IsClosed (inode_at (ns ++ Some n ∷ []) k)
    by (inl e) = subst (λ (j : ℕ). IsClosed (inode_at (ns ++ Some n ∷ []) j)) (sym e) (subst IsClosed (sym (behind_there n ns)) is)
    by (inr other) = subst IsClosed (sym (behind_other n ns k other)) (each k)

new_closed : (ns : Inodes) (at : ℕ) (name : List ℕ) (content : Content) (program : Option ℕ) → AreNamedAndClosed ns → AreNamedAndClosed (with_new ns at name (new_inode content program))
new_closed ns at name content program each = behind (new_inode content program) (refl, refl) (with_entry ns at name (length ns)) (entered ns at name (length ns) each)

opening_closed : AreNamedAndClosed opening
opening_closed zero = tt
opening_closed (suc zero) = (refl, refl)
opening_closed (suc (suc id)) = tt

pub making_opens_nothing : MakingOpensNothing
unfolding with_folder with_file
making_opens_nothing = record {
  begins = opening_closed;
  folder = λ path ns new each is.
      made_leaves AreNamedAndClosed (λ parent. folder parent []) None ns (place_of ns path) (λ p at none. new_closed ns p.folder p.name (folder p.folder []) None each) new is;
  file = λ path bytes program ns new each is.
      made_leaves AreNamedAndClosed (λ parent. file bytes) program ns (place_of ns path) (λ p at none. new_closed ns p.folder p.name (file bytes) program each) new is;
}
