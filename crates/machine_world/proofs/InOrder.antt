-- Counts are exact and the nodes a tree of names after every row.
use Rattle.std.proofs.Common.{◌≡◌, ℕ, ◌+◌, ◌<◌, ◌≤◌, ◌^◌, Bool, true, false, cond, [], ◌∷◌, length, Option, Some, None, Ok, refl, ap, ◌∙◌, arith}
use Rattle.std.specs.Prelude.{◌==◌, ◌&&◌, not, nat_lt, is_some}
use Rattle.std.proofs.lemmas.Bool.{ltb-true}
use Rattle.byte_words.specs.Search.{first}
use Rattle.call_log.specs.declared.errno.Errno.TheVariants.{Ebadf, Einval}
use Rattle.mem_files.specs.Inodes.{Inodes, inode_at}
use Rattle.mem_files.specs.Changes.{truncated}
use Rattle.mem_files.specs.Trees.{IsTree}
use Rattle.mem_files.proofs.Alike.{truncated_there}
use Rattle.mem_files.proofs.Lookups.{lookup_named, named_there}
use Rattle.mem_files.proofs.TreesKept.{changes_keep_tree, new_files_are_there}
use Rattle.fd_tables.specs.declared.view.View.{View}
use Rattle.fd_tables.specs.Files.{Table, most_descriptors, OpenFiles, table_at, descriptor_in, descriptor, free_in, lowest_free}
use Rattle.fd_tables.specs.Changes.{Storage, storage, opened, duplicated, taken, piped}
use Rattle.fd_tables.specs.Pipes.{pipe_bytes, pipe_taken, pipe_put}
use Rattle.fd_tables.specs.Calls.{dup_number, dup3_fault}
use Rattle.fd_tables.specs.Counts.{Counted}
use Rattle.fd_tables.proofs.NextNumbers.{first_there}
use Rattle.fd_tables.proofs.Sharing.{IsWhole}
use Rattle.fd_tables.proofs.Counting.{counted-closed, counted-duplicated, counted-replaced, counted-opened}
use Rattle.fd_tables.proofs.PositionsCounted.{counted-moved, counted-taken}
use Rattle.fd_tables.proofs.PipesCounted.{counted-piped, counted-pipe_taken, counted-pipe_put}
use Rattle.fd_tables.proofs.TreeCounted.{tree_keeps_counts}
use Rattle.machine_world.specs.World.{Rest}
use Rattle.machine_world.specs.Asks.{Ask, arg, view_of, free_of, with_tree, with_files, storage_of, with_storage}
use Rattle.machine_world.specs.Descriptors.{table_of, close_on_exec}
use Rattle.machine_world.specs.PathCalls.{path_of, remove_folder, writes, truncates, way_of, emptied}
use Rattle.machine_world.specs.Transfers.{moved_bytes, write_position}
use Rattle.machine_world.proofs.EachChange.{EachChange, moves, opened_as, fitting}
use Rattle.machine_world.proofs.FewOpen.{free_below, two_below}
use Rattle.machine_world.proofs.Steady.{Steady, steady-closed, steady-opened, steady-replaced, length-moved, length-taken, length-duplicated, length-piped, length-pipe_taken, length-pipe_put}

-- a tree, exact counts, and so many tables at most
pub record IsOrderly (most : ℕ) (rest : Rest) : Type 0 where
  pub tree : IsTree rest.tree
  pub counts : Counted (storage_of rest)
  pub tables : length rest.files.tables ≤ most

pub steady : (most : ℕ) (rest : Rest) → IsOrderly most rest → Steady (length rest.files.tables) (storage_of rest)
steady most rest h = record { tree = h.tree; tables = refl }

-- ---- descriptors

pub free_is : (v : Option View) (o : Option ℕ) (free : ℕ) → dup_number v o ≡ Ok free → o ≡ Some free
free_is None o free is = let no : ⊥ = cc in absurd no
free_is (Some v) None free is = let no : ⊥ = cc in absurd no
free_is (Some v) (Some k) free is = let same : k ≡ free = cc in ap Some same

free_place : (o : Option Table) (free : ℕ) → IsWhole o → free_in o ≡ Some free → (free < most_descriptors) × (descriptor_in o free ≡ None)
free_place None free whole is = let no : ⊥ = cc in absurd no
free_place (Some table) free whole is = let h = first_there table free is in (omega (arith, h.0, whole), h.1)

pub lowest_place : (fs : OpenFiles) (t free : ℕ) → IsWhole (table_at fs t) → lowest_free fs t ≡ Some free → (free < most_descriptors) × (descriptor fs t free ≡ None)
unfolding lowest_free
lowest_place fs t free whole is = free_place (table_at fs t) free whole is

low_by : (same shown low : Bool) → first ((same, Einval) ∷ (not shown, Ebadf) ∷ (not low, Ebadf) ∷ []) ≡ None → low ≡ true
low_by same shown true is = refl
low_by true shown false is = let no : ⊥ = cc in absurd no
low_by false false false is = let no : ⊥ = cc in absurd no
low_by false true false is = let no : ⊥ = cc in absurd no

pub new_low : (v : Option View) (old new : ℕ) → dup3_fault v old new ≡ None → new < most_descriptors
new_low v old new is = ltb-true new most_descriptors (low_by (old == new) (is_some v) (nat_lt new most_descriptors) is)

-- ---- paths

emptied_by : (nodes : Inodes) (node : ℕ) (b : Bool) → IsTree nodes → IsTree (cond b (truncated nodes node) nodes)
emptied_by nodes node true t = changes_keep_tree.truncate node nodes (truncated nodes node) t refl
emptied_by nodes node false t = t

emptied_counts : (nodes : Inodes) (fs : OpenFiles) (node : ℕ) (b : Bool) → Counted (storage nodes fs) → Counted (storage (cond b (truncated nodes node) nodes) fs)
emptied_counts nodes fs node true c = tree_keeps_counts.truncate node (storage nodes fs) (truncated nodes node) c refl
emptied_counts nodes fs node false c = c

emptied_there : (nodes : Inodes) (node : ℕ) (b : Bool) → is_some (inode_at nodes node) ≡ true → is_some (inode_at (cond b (truncated nodes node) nodes) node) ≡ true
emptied_there nodes node true is = truncated_there nodes node node ∙ is
emptied_there nodes node false is = is

-- ---- all rows

module _ (a : Ask) (most : ℕ) (small : most < 2 ^ 27) (h : IsOrderly most a.rest) where
  abbrev t : ℕ
  t = table_of a

  by_files : (files : OpenFiles) → length files.tables ≡ length a.rest.files.tables → Counted (storage a.rest.tree files) → IsOrderly most (with_files a.rest files)
  by_files files same counts = record { tree = h.tree; counts = counts; tables = omega (arith, same, h.tables) }

  by_storage : (s : Storage) → Steady (length a.rest.files.tables) s → Counted s → IsOrderly most (with_storage a.rest s)
  by_storage s still counts = record { tree = still.tree; counts = counts; tables = omega (arith, still.tables, h.tables) }

  by_tree : (nodes : Inodes) → IsTree nodes → Counted (storage nodes a.rest.files) → IsOrderly most (with_tree a.rest nodes)
  by_tree nodes tree counts = record { tree = tree; counts = counts; tables = h.tables }

  by_move : (at : ℕ) → IsOrderly most (with_files a.rest (moves a at))
  by_move at = by_files (moves a at) (length-moved a.rest.files t (arg a 0) at) (counted-moved (storage_of a.rest) t (arg a 0) at h.counts)

  by_open : (fd node : ℕ) (nodes : Inodes) → free_of a ≡ Some fd → IsTree nodes → Counted (storage nodes a.rest.files) → is_some (inode_at nodes node) ≡ true → IsOrderly most (opened_as a fd node nodes)
  by_open fd node nodes free tree counts there =
      by_storage (opened (storage nodes a.rest.files) t fd node (way_of (arg a 2)))
      (steady-opened (length a.rest.files.tables) (storage nodes a.rest.files) t fd node (way_of (arg a 2)) (record { tree = tree; tables = refl }))
      (counted-opened (storage nodes a.rest.files) t fd node (way_of (arg a 2)) counts free there (free_below (storage nodes a.rest.files) counts (omega (arith, h.tables, small))))

  pub rows_keep_order : EachChange (IsOrderly most) a
  rows_keep_order = record {
    dup = λ free is.
        let place = lowest_place a.rest.files t free (h.counts.whole t) (free_is (view_of a (arg a 0)) (free_of a) free is) in
        by_files (duplicated a.rest.files t (arg a 0) free false) (length-duplicated a.rest.files t (arg a 0) free false)
        (counted-duplicated (storage_of a.rest) t (arg a 0) free false h.counts place.0 place.1);
    dup3 = λ none.
        by_storage _ (steady-replaced (length a.rest.files.tables) (storage_of a.rest) t (arg a 0) (arg a 1) (arg a 2 == close_on_exec) (steady most a.rest h))
        (counted-replaced (storage_of a.rest) t (arg a 0) (arg a 1) (arg a 2 == close_on_exec) h.counts (new_low (view_of a (arg a 0)) (arg a 0) (arg a 1) none));
    close = λ none.
        by_storage _ (steady-closed (length a.rest.files.tables) (storage_of a.rest) t (arg a 0) (steady most a.rest h)) (counted-closed (storage_of a.rest) t (arg a 0) h.counts);
    seek = λ v node at shows is. by_move at;
    list = λ v node shows is. by_move _;
    read = λ v node spans shows reads is. by_move _;
    take = λ v spans shows reads.
        let n : ℕ = length (moved_bytes spans a.rest.files.stdin) in
        by_files (taken a.rest.files n) (length-taken a.rest.files n) (counted-taken (storage_of a.rest) n h.counts);
    write = λ v node bytes nodes shows may some is.
        let tree : IsTree nodes = changes_keep_tree.write node (write_position a v node) bytes a.rest.tree nodes h.tree is in
        let counts : Counted (storage nodes a.rest.files) = tree_keeps_counts.write node (write_position a v node) bytes (storage_of a.rest) nodes h.counts is in
        record {
          tree = tree;
          counts = counted-moved (storage nodes a.rest.files) t (arg a 0) _ counts;
          tables = omega (arith, length-moved a.rest.files t (arg a 0) (write_position a v node + length bytes), h.tables);
        };
    print = λ v bytes shows may. record { tree = h.tree; counts = h.counts; tables = h.tables };
    pipe = λ ends free.
        by_files (piped a.rest.files t ends (arg a 1 == close_on_exec)) (length-piped a.rest.files t ends (arg a 1 == close_on_exec))
        (counted-piped (storage_of a.rest) t ends (arg a 1 == close_on_exec) h.counts free (two_below (storage_of a.rest) h.counts (omega (arith, h.tables, small))));
    drain = λ v id end spans shows reads.
        let n : ℕ = length (moved_bytes spans (pipe_bytes a.rest.files id)) in
        by_files (pipe_taken a.rest.files id n) (length-pipe_taken a.rest.files id n) (counted-pipe_taken (storage_of a.rest) id n h.counts);
    fill = λ v id end bytes shows may.
        by_files (pipe_put a.rest.files id (fitting a id bytes)) (length-pipe_put a.rest.files id (fitting a id bytes)) (counted-pipe_put (storage_of a.rest) id (fitting a id bytes) h.counts);
    make = λ nodes is. by_tree nodes (changes_keep_tree.folder (path_of a) a.rest.tree nodes h.tree is) (tree_keeps_counts.folder (path_of a) (storage_of a.rest) nodes h.counts is);
    remove = λ nodes is. by_tree nodes (changes_keep_tree.unlink (path_of a) (arg a 2 == remove_folder) a.rest.tree nodes h.tree is) (tree_keeps_counts.unlink (path_of a) (arg a 2 == remove_folder) (storage_of a.rest) nodes h.counts is);
    open_old = λ fd node free found none.
        let b : Bool = truncates (arg a 2) && writes (arg a 2) in
        by_open fd node (emptied a.rest.tree node (arg a 2)) free (emptied_by a.rest.tree node b h.tree) (emptied_counts a.rest.tree a.rest.files node b h.counts)
        (emptied_there a.rest.tree node b (named_there _ (lookup_named a.rest.tree h.tree (path_of a) node found)));
    open_new = λ fd nodes free found may made.
        by_open fd (length a.rest.tree) nodes free (changes_keep_tree.file (path_of a) [] None a.rest.tree nodes h.tree made)
        (tree_keeps_counts.file (path_of a) [] None (storage_of a.rest) nodes h.counts made)
        (new_files_are_there a.rest.tree (path_of a) [] None nodes made);
  }
