-- Each change keeps the tree.
use Rattle.std.proofs.Common.{◌≡◌, ℕ, ◌+◌, Bool, true, false, cond, List, [], ◌∷◌, ◌++◌, length, Option, Some, None, Result, Ok, Err, refl, sym, ap, subst, arith}
use Rattle.std.specs.Prelude.{◌==◌, ◌&&◌, nat_le, nat_lt, is_some}
use Rattle.std.proofs.lemmas.Bool.Decides.{nat_tests}
use Rattle.std.proofs.lemmas.Option.{same_Some}
use Rattle.call_log.specs.declared.errno.Errno.{Errno}
use Rattle.call_log.specs.declared.errno.Errno.TheVariants.{Enotempty}
use Rattle.mem_files.specs.Inodes.{Entry, Content, file, folder, Inode, Inodes, new_inode, inode_at, content_in, kind_in, kind_of, size_in, size_of, entries_in, entries_of, bytes_in, most_nodes, most_of_one, most_of_all, node_count, byte_count}
use Rattle.mem_files.specs.Paths.{Place, named, place_of}
use Rattle.mem_files.specs.Changes.{overwritten, or_no_space, written, truncated, with_entries, with_entry, with_new, made_at, with_folder, with_file, may_be_entry, naming_fault, unless_fault, unnamed, unnamed_at, unlinked, held, let_go}
use Rattle.mem_files.specs.Trees.{parent_in, IsTree}
use Rattle.mem_files.specs.TreeLaws.{ChangesKeepTree, NewFilesAreThere}
use Rattle.mem_files.proofs.Numbers.{length-change, behind_there}
use Rattle.mem_files.proofs.Counts.{having_none}
use Rattle.mem_files.proofs.Places.{place_stands}
use Rattle.mem_files.proofs.Alike.{tree-bytes, tree-held, tree-let_go}
use Rattle.mem_files.proofs.Entered.{tree-new}
use Rattle.mem_files.proofs.RootAlone.{at_opening}
use Rattle.mem_files.proofs.Left.{tree-unnamed}
use Rattle.mem_files.proofs.Lookups.{Placed, place_placed}

-- ---- a change that may be refused leaves what P says of it

abbrev pub Leaves : (Inodes → Type 0) → Result Inodes Errno → Type 0
Leaves P r = (new : Inodes) → r ≡ Ok new → P new

module _ (P : Inodes → Type 0) where
  refused : (errno : Errno) → Leaves P (Err errno)
  refused errno new is = let no : ⊥ = cc in absurd no

  done : (now : Inodes) → P now → Leaves P (Ok now)
  done now holds new is = let e : now ≡ new = cc in subst P e holds

  either : (b : Bool) (x y : Result Inodes Errno) → Leaves P x → Leaves P y → Leaves P (cond b x y)
  either true x y first second = first
  either false x y first second = second

  by_space : (now : Inodes) → P now → Leaves P (or_no_space now)
  by_space now holds = either (nat_le (node_count now) most_nodes && nat_le (byte_count now) most_of_all) _ _ (done now holds) (refused _)

  pub made_leaves : (content : ℕ → Content) (program : Option ℕ) (ns : Inodes) (r : Result Place Errno)
      → ((p : Place) → r ≡ Ok p → p.id ≡ None → P (with_new ns p.folder p.name (new_inode (content p.folder) program))) → Leaves P (made_at content program ns r)
  made_leaves content program ns (Err errno) each = refused errno
  made_leaves content program ns (Ok p) each = by p.id refl
    where
      by : (o : Option ℕ) → p.id ≡ o → Leaves P (made_at content program ns (Ok p))
      by (Some id) e = rw e (refused _)
      by None e = rw e (either (nat_lt most_of_one (length (bytes_in (content p.folder)))) _ _ (refused _) (by_space _ (each p refl e)))

-- ---- writes

written_keeps : (ns : Inodes) (id at : ℕ) (bytes : List ℕ) → IsTree ns → Leaves IsTree (written ns id at bytes)
unfolding written
written_keeps ns id at bytes t =
    either IsTree (length bytes == 0) _ _ (done IsTree ns t)
    (either IsTree (nat_lt most_of_one (at + length bytes)) _ _ (refused IsTree _) (by_space IsTree _ (tree-bytes (overwritten at bytes) ns id t)))

truncated_keeps : (ns : Inodes) (id : ℕ) → IsTree ns → Leaves IsTree (Ok (truncated ns id))
unfolding truncated
truncated_keeps ns id t = done IsTree _ (tree-bytes (λ bytes. []) ns id t)

-- ---- new names

new_keeps : (content : ℕ → Content) (program : Option ℕ) → ((at : ℕ) → entries_in (content at) ≡ []) → ((at parent : ℕ) → parent_in (content at) ≡ Some parent → parent ≡ at) → (ns : Inodes) (path : List ℕ) → IsTree ns
    → Leaves IsTree (made_at content program ns (place_of ns path))
new_keeps content program empty stands ns path t =
    made_leaves IsTree content program ns (place_of ns path)
    (λ p is none.
    let free = place_stands ns path p is none in
    tree-new ns t p.folder p.name (new_inode (content p.folder) program) (place_placed ns t path p is).within free.0 (having_none p.name (entries_of ns p.folder) free.1) refl (empty p.folder) (stands p.folder))

-- ---- names that go

no_size : (entries : List Entry) (b : Bool) → (length entries == 0) ≡ b → cond b None (Some Enotempty) ≡ None → entries ≡ []
no_size [] b is none = refl
no_size (e ∷ entries) false is none = let no : ⊥ = cc in absurd no
no_size (e ∷ entries) true is none = let no : ⊥ = grind (arith, nat_tests, is) in absurd no

none_in : (dir : Bool) (content : Content) → naming_fault dir (kind_in content) (size_in content) ≡ None → entries_in content ≡ []
none_in dir (file bytes) is = refl
none_in true (folder parent entries) is = no_size entries (length entries == 0) refl is
none_in false (folder parent entries) is = let no : ⊥ = cc in absurd no

unless_keeps : (now : Inodes) (fault : Option Errno) → (fault ≡ None → IsTree now) → Leaves IsTree (unless_fault fault now)
unless_keeps now None each = done IsTree now (each refl)
unless_keeps now (Some errno) each = refused IsTree errno

gone_at : (dir : Bool) (ns : Inodes) (p : Place) (t : IsTree ns) (may : Bool) → may_be_entry p.name ≡ may → Placed ns t p → (o : Option ℕ) → p.id ≡ o → Leaves IsTree (unnamed_at dir ns (Ok p))
gone_at dir ns p t false is placed o at = rw is (refused IsTree _)
gone_at dir ns p t true is placed None at = rw (is, at) (refused IsTree _)
gone_at dir ns p t true is placed (Some id) at =
    let leads : named p.name (entries_of ns p.folder) ≡ Some id = placed.entry id at is in
    let keeps : Leaves IsTree (unless_fault (naming_fault dir (kind_of ns id) (size_of ns id)) (unnamed ns p id)) =
    unless_keeps (unnamed ns p id) (naming_fault dir (kind_of ns id) (size_of ns id)) (λ none. tree-unnamed ns t p id leads (none_in dir (content_in (inode_at ns id)) none)) in
    rw (is, at) keeps

gone_keeps : (dir : Bool) (ns : Inodes) (path : List ℕ) → IsTree ns → (r : Result Place Errno) → place_of ns path ≡ r → Leaves IsTree (unnamed_at dir ns r)
gone_keeps dir ns path t (Err errno) is = refused IsTree errno
gone_keeps dir ns path t (Ok p) is = gone_at dir ns p t (may_be_entry p.name) refl (place_placed ns t path p is) p.id refl

-- ---- all of them

pub changes_keep_tree : ChangesKeepTree
unfolding with_folder with_file unlinked
changes_keep_tree = record {
  begins = at_opening;
  folder = λ path ns new t is. new_keeps (λ parent. folder parent []) None (λ at. refl) (λ at parent is. sym (same_Some at parent is)) ns path t new is;
  file = λ path bytes program ns new t is. new_keeps (λ parent. file bytes) program (λ at. refl) (λ at parent is. let no : ⊥ = cc in absurd no) ns path t new is;
  unlink = λ path dir ns new t is. gone_keeps dir ns path t (place_of ns path) refl new is;
  write = λ id at bytes ns new t is. written_keeps ns id at bytes t new is;
  truncate = λ id ns new t is. truncated_keeps ns id t new is;
  hold = λ id ns new t is. done IsTree (held ns id) (tree-held ns id t) new is;
  let_go = λ id ns new t is. done IsTree (let_go ns id) (tree-let_go ns id t) new is;
}

new_there : (ns : Inodes) (at : ℕ) (name : List ℕ) (n : Inode) → is_some (inode_at (with_new ns at name n) (length ns)) ≡ true
new_there ns at name n =
    let entered : Inodes = with_entry ns at name (length ns) in
    let same : length entered ≡ length ns = length-change (λ m. Some (with_entries (λ entries. entries ++ record { name = name; id = length ns } ∷ []) m)) ns at in
    ap is_some (subst (λ (k : ℕ). inode_at (with_new ns at name n) k ≡ Some n) same (behind_there n entered))

pub new_files_are_there : NewFilesAreThere
unfolding with_file
new_files_are_there ns path bytes program new is =
    made_leaves (λ now. is_some (inode_at now (length ns)) ≡ true) (λ parent. file bytes) program ns (place_of ns path)
    (λ p at none. new_there ns p.folder p.name (new_inode (file bytes) program)) new is
