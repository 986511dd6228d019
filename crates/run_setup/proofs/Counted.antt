-- What a new node adds to the count of nodes.
use Rattle.std.proofs.Common.{◌≡◌, ℕ, ◌+◌, ◌≤◌, Bool, true, false, cond, List, [], ◌∷◌, ◌++◌, length, Option, Some, None, is_some, Result, Ok, Err, slice_get, refl, ap, subst, ◌∙◌, arith}
use Rattle.std.specs.Prelude.{◌&&◌, nat_le, nat_lt}
use Rattle.std.proofs.lemmas.Bool.Decides.{nat_tests}
use Rattle.std.proofs.lemmas.Option.{slice_get_within, get_or_from_slice_get}
use Rattle.std.proofs.lemmas.List.Sums.{sum_by-set, sum_by_push}
use Rattle.call_log.specs.declared.errno.Errno.{Errno}
use Rattle.call_log.specs.declared.errno.Errno.TheVariants.{Enospc, Efbig}
use Rattle.mem_files.specs.Inodes.{Content, file, folder, Inode, Inodes, new_inode, bytes_in, most_nodes, most_of_one, most_of_all, node_count, byte_count}
use Rattle.mem_files.specs.Paths.{Place, place_of}
use Rattle.mem_files.specs.Changes.{or_no_space, with_entries, with_entry, with_new, made_in, made_at, with_folder, with_file}

-- one node more, and no more than there may be
abbrev pub Counts : Inodes → Inodes → Type 0
Counts old new = (node_count new ≡ node_count old + 1) × (node_count new ≤ most_nodes)

abbrev is_there : Option Inode → ℕ
is_there n = cond (is_some n) 1 0

entered : (ns : Inodes) (at : ℕ) (name : List ℕ) (id : ℕ) (o : Option (Option Inode)) → slice_get ns at ≡ o → node_count (with_entry ns at name id) ≡ node_count ns
entered ns at name id None is = rw is refl
entered ns at name id (Some None) is = rw is refl
entered ns at name id (Some (Some n)) is =
    let m : Inode = with_entries (λ es. es ++ record { name = name; id = id } ∷ []) n in
    let sum = sum_by-set is_there ns at (Some m) (Some n) (slice_get_within ns at (Some n) is) in
    let here = ap is_there (get_or_from_slice_get ns at (Some n) (Some n) is) in
    rw is (omega (arith, sum, here))

count_new : (ns : Inodes) (at : ℕ) (name : List ℕ) (n : Inode) → node_count (with_new ns at name n) ≡ node_count ns + 1
count_new ns at name n = sum_by_push is_there (with_entry ns at name (length ns)) (Some n) ∙ ap (λ k. k + 1) (entered ns at name (length ns) (slice_get ns at) refl)

le_of : (a b : ℕ) → nat_le a b ≡ true → a ≤ b
le_of a b is = grind (arith, nat_tests)

abbrev done : Inodes → Result Inodes Errno
done ns = Ok ns

same_tree : (ns new : Inodes) → done ns ≡ done new → ns ≡ new
same_tree ns new is = cc

spaced : (ns new : Inodes) (a b : Bool) → nat_le (node_count ns) most_nodes ≡ a → cond (a && b) (Ok ns) (Err Enospc) ≡ Ok new → (ns ≡ new) × (node_count ns ≤ most_nodes)
spaced ns new true true few is = (same_tree ns new is, le_of (node_count ns) most_nodes few)
spaced ns new true false few is = absurd cc
spaced ns new false b few is = absurd cc

sized : (large : Bool) (ns new : Inodes) → cond large (Err Efbig) (or_no_space ns) ≡ Ok new → (ns ≡ new) × (node_count ns ≤ most_nodes)
sized true ns new is = absurd cc
sized false ns new is = spaced ns new (nat_le (node_count ns) most_nodes) (nat_le (byte_count ns) most_of_all) refl is

counted : (ns new : Inodes) (p : Place) (content : Content) (program : Option ℕ) → made_in ns p content program ≡ Ok new → Counts ns new
counted ns new p content program is =
    let made : Inodes = with_new ns p.folder p.name (new_inode content program) in
    let q = sized (nat_lt most_of_one (length (bytes_in content))) made new is in
    subst (λ (m : Inodes). Counts ns m) q.0 (count_new ns p.folder p.name (new_inode content program), q.1)

made_counts : (content : ℕ → Content) (program : Option ℕ) (ns : Inodes) (r : Result Place Errno) (new : Inodes) → made_at content program ns r ≡ Ok new → Counts ns new
made_counts content program ns (Err errno) new is = absurd cc
made_counts content program ns (Ok p) new is = by p.id refl
  where
    by : (o : Option ℕ) → p.id ≡ o → Counts ns new
    by (Some id) e = let h = rw e at is in absurd cc
    by None e = let h = rw e at is in counted ns new p (content p.folder) program h

pub file_counts : (ns : Inodes) (path bytes : List ℕ) (program : Option ℕ) (new : Inodes) → with_file ns path bytes program ≡ Ok new → Counts ns new
unfolding with_file
file_counts ns path bytes program new is = made_counts (λ parent. file bytes) program ns (place_of ns path) new is

pub folder_counts : (ns : Inodes) (path : List ℕ) (new : Inodes) → with_folder ns path ≡ Ok new → Counts ns new
unfolding with_folder
folder_counts ns path new is = made_counts (λ parent. folder parent []) None ns (place_of ns path) new is
