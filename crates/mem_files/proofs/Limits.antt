-- What fits the limits of all nodes, and what doesn't.
use Rattle.std.proofs.Common.{◌≡◌, ◌≢◌, ℕ, ◌+◌, ◌-◌, ◌<◌, ◌≤◌, Bool, true, false, cond, List, [], ◌∷◌, ◌++◌, ◌⊎◌, inl, inr, length, nat_lt, nat_le, Option, None, Some, is_some, Result, Ok, Err, slice_get, slice_set, refl, sym, ap, ◌∙◌, subst, arith}
use Rattle.std.specs.Prelude.{◌==◌, ◌&&◌, ⊤}
use Rattle.std.proofs.lemmas.Bool.Decides.{nat_tests}
use Rattle.std.proofs.lemmas.Option.{get_or_from_slice_get}
use Rattle.std.proofs.lemmas.List.{set-set, set-get_or, length-set, length_push}
use Rattle.std.proofs.lemmas.List.Sums.{sum_by_push}
use Rattle.call_log.specs.declared.errno.Errno.{Errno as log}
use Rattle.call_log.specs.declared.errno.Errno.TheVariants.{Efbig, Enospc}
use Rattle.mem_files.specs.declared.fault.FileFault.{FileFault}
use Rattle.mem_files.specs.declared.fault.FileFault.TheVariants.{Errno, Memory}
use Rattle.mem_files.specs.Inodes.{Inode, Inodes, Content, bytes_in, bytes_at, inode_at, node_count, byte_count, most_of_one, most_of_all, most_nodes, new_inode, Fits}
use Rattle.mem_files.specs.Paths.{Place}
use Rattle.mem_files.specs.Changes.{with_change, with_bytes, with_entries, with_entry, with_new, or_no_space, overwritten, written, made_in}
use Rattle.mem_files.specs.Calls.{Writes}
use Rattle.mem_files.specs.Stored.{WritesNode}
use Rattle.mem_files.proofs.Changing.{there, changed_there, empty_place, node_count-set, byte_count-set, same_bytes}

le_true : (a b : ℕ) → a ≤ b → nat_le a b ≡ true
le_true a b h = grind (arith, nat_tests)

le_false : (a b : ℕ) → b < a → nat_le a b ≡ false
le_false a b h = grind (arith, nat_tests)

by_tests : (ns : Inodes) (nodes bytes : Bool) → nat_le (node_count ns) most_nodes ≡ nodes → nat_le (byte_count ns) most_of_all ≡ bytes → or_no_space ns ≡ cond (nodes && bytes) (Ok ns) (Err Enospc)
by_tests ns nodes bytes n b = λ i. cond (n i && b i) (Ok ns) (Err Enospc)

pub within : (ns : Inodes) → Fits ns → or_no_space ns ≡ Ok ns
within ns fits = by_tests ns true true (le_true _ _ fits.nodes) (le_true _ _ fits.bytes)

false_last : (b : Bool) → (b && false) ≡ false
false_last true = refl
false_last false = refl

pub past : (ns : Inodes) → (most_nodes < node_count ns) ⊎ (most_of_all < byte_count ns) → or_no_space ns ≡ Err Enospc
past ns (inl many) = by_tests ns false (nat_le (byte_count ns) most_of_all) (le_false _ _ many) refl
past ns (inr large) = by_tests ns (nat_le (node_count ns) most_nodes) false refl (le_false _ _ large) ∙ ap (λ (b : Bool). cond b (Ok ns) (Err Enospc)) (false_last (nat_le (node_count ns) most_nodes))

-- ---- a write

written_by : (ns : Inodes) (id at : ℕ) (bytes : List ℕ) (none large : Bool) → (length bytes == 0) ≡ none → nat_lt most_of_one (at + length bytes) ≡ large
    → written ns id at bytes ≡ cond none (Ok ns) (cond large (Err Efbig) (or_no_space (with_change (λ n. Some (with_bytes (overwritten at bytes) n)) ns id)))
unfolding written
written_by ns id at bytes none large n l = λ i. cond (n i) (Ok ns) (cond (l i) (Err Efbig) (or_no_space (with_change (λ n. Some (with_bytes (overwritten at bytes) n)) ns id)))

pub nothing_written : (ns : Inodes) (id at : ℕ) (bytes : List ℕ) → length bytes ≡ 0 → Writes (written ns id at bytes) ns ns (Ok tt)
nothing_written ns id at bytes none =
    let is : (length bytes == 0) ≡ true = grind (arith, nat_tests) in
    subst (λ r. Writes r ns ns (Ok tt)) (sym (written_by ns id at bytes true _ is refl)) refl

pub too_large : (ns : Inodes) (id at : ℕ) (bytes : List ℕ) → length bytes ≢ 0 → most_of_one < at + length bytes → Writes (written ns id at bytes) ns ns (Err (Errno Efbig))
too_large ns id at bytes some large =
    let is : (length bytes == 0) ≡ false = grind (arith, nat_tests) in
    let so : nat_lt most_of_one (at + length bytes) ≡ true = grind (arith, nat_tests) in
    subst (λ r. Writes r ns ns (Err (Errno Efbig))) (sym (written_by ns id at bytes false true is so)) (refl, refl)

pub written_so : (ns : Inodes) (id at : ℕ) (bytes : List ℕ) → length bytes ≢ 0 → at + length bytes ≤ most_of_one → or_no_space (with_change (λ n. Some (with_bytes (overwritten at bytes) n)) ns id) ≡ written ns id at bytes
written_so ns id at bytes some small =
    let is : (length bytes == 0) ≡ false = grind (arith, nat_tests) in
    let so : nat_lt most_of_one (at + length bytes) ≡ false = grind (arith, nat_tests) in
    sym (written_by ns id at bytes false false is so)

-- where there is no node
pub none_written : (ns new : Inodes) → Fits ns → new ≡ ns → Writes (or_no_space new) ns new (Ok tt)
none_written ns new fits same = subst (λ r. Writes r ns new (Ok tt)) (sym (within new (subst Fits (sym same) fits))) refl

-- a node that was taken out and put back
module _ (ns : Inodes) (id : ℕ) (n : Inode) (is : inode_at ns id ≡ Some n) where
  at : slice_get ns id ≡ Some (Some n)
  at = there ns id n is

  same_again : slice_set (slice_set ns id None) id (Some n) ≡ ns
  same_again = set-set ns id None (Some n) ∙ ap (slice_set ns id) (sym (get_or_from_slice_get ns id (Some n) (Some n) at)) ∙ set-get_or ns id (Some n)

  nodes_again : (m : Inode) → node_count (slice_set (slice_set ns id None) id (Some m)) ≡ node_count ns
  nodes_again m =
      let one : node_count (slice_set ns id (Some m)) + 1 ≡ node_count ns + 1 = node_count-set ns id (Some n) (Some m) at in
      ap node_count (set-set ns id None (Some m)) ∙ (let e : node_count (slice_set ns id (Some m)) ≡ node_count ns = omega (arith, one) in e)

  bytes_again : (m : Inode) → byte_count (slice_set (slice_set ns id None) id (Some m)) ≡ byte_count (slice_set ns id None) + length (bytes_in m.content)
  bytes_again m =
      let out : byte_count (slice_set (slice_set ns id None) id (Some m)) + 0 ≡ byte_count (slice_set ns id None) + length (bytes_in m.content) = byte_count-set (slice_set ns id None) id None (Some m) (empty_place ns id n is) in
      omega (arith, out)

  fits_again : (m : Inode) → Fits ns → length (bytes_in m.content) ≤ most_of_all - byte_count (slice_set ns id None) → byte_count (slice_set ns id None) ≤ most_of_all → Fits (slice_set (slice_set ns id None) id (Some m))
  fits_again m fits small rest = record {
    nodes = omega (arith, fits.nodes, nodes_again m);
    bytes = omega (arith, bytes_again m);
  }

  pub fits_written : (w m : Inode) (most : ℕ) (answer : Result ⊤ FileFault) → Fits ns → most ≡ most_of_all - byte_count (slice_set ns id None) → byte_count (slice_set ns id None) ≤ most_of_all → WritesNode w most n m answer
      → Fits (slice_set (slice_set ns id None) id (Some m))
  fits_written w m most (Ok done) fits left rest h =
      fits_again m fits (omega (arith, h.1, ap (λ x. length (bytes_in x.content)) h.0)) rest
  fits_written w m most (Err (Errno errno)) fits left rest h = subst Fits (sym (ap (λ x. slice_set (slice_set ns id None) id (Some x)) h.2 ∙ same_again)) fits
  fits_written w m most (Err Memory) fits left rest h = subst Fits (sym (ap (λ x. slice_set (slice_set ns id None) id (Some x)) h.1 ∙ same_again)) fits

  pub writes : (f : List ℕ → List ℕ) (m : Inode) (new : Inodes) (most : ℕ) (answer : Result ⊤ FileFault) → Fits ns → most ≡ most_of_all - byte_count (slice_set ns id None) → byte_count (slice_set ns id None) ≤ most_of_all
      → new ≡ slice_set (slice_set ns id None) id (Some m) → WritesNode (with_bytes f n) most n m answer → Writes (or_no_space (with_change (λ n. Some (with_bytes f n)) ns id)) ns new answer
  writes f m new most (Ok done) fits left rest put h =
      let all : new ≡ with_change (λ n. Some (with_bytes f n)) ns id = put ∙ ap (λ x. slice_set (slice_set ns id None) id (Some x)) h.0 ∙ changed_there (λ n. Some (with_bytes f n)) ns id n is in
      let fit : Fits new = subst Fits (sym put) (fits_written (with_bytes f n) m most (Ok done) fits left rest h) in
      subst (λ r. Writes r ns new (Ok done)) (sym (within (with_change (λ n. Some (with_bytes f n)) ns id) (subst Fits all fit))) all
  writes f m new most (Err (Errno errno)) fits left rest put h =
      let all : slice_set (slice_set ns id None) id (Some (with_bytes f n)) ≡ with_change (λ n. Some (with_bytes f n)) ns id = changed_there (λ n. Some (with_bytes f n)) ns id n is in
      let large : most_of_all < byte_count (slice_set (slice_set ns id None) id (Some (with_bytes f n))) = omega (arith, bytes_again (with_bytes f n), h.1) in
      subst (λ r. Writes r ns new (Err (Errno errno))) (sym (past (with_change (λ n. Some (with_bytes f n)) ns id) (inr (subst (λ ms. most_of_all < byte_count ms) all large)))) (h.0, put ∙ ap (λ x. slice_set (slice_set ns id None) id (Some x)) h.2 ∙ same_again)
  writes f m new most (Err Memory) fits left rest put h =
      let all : slice_set (slice_set ns id None) id (Some (with_bytes f n)) ≡ with_change (λ n. Some (with_bytes f n)) ns id = changed_there (λ n. Some (with_bytes f n)) ns id n is in
      let fit = fits_again (with_bytes f n) fits (omega (arith, h.0, left)) rest in
      subst (λ r. Writes r ns new (Err Memory)) (sym (within (with_change (λ n. Some (with_bytes f n)) ns id) (subst Fits all fit))) (put ∙ ap (λ x. slice_set (slice_set ns id None) id (Some x)) h.1 ∙ same_again)

-- ---- a new node

with_entry_by : (ns : Inodes) (at : ℕ) (name : List ℕ) (id : ℕ) (o : Option (Option Inode)) → slice_get ns at ≡ o
    → (node_count (with_entry ns at name id) ≡ node_count ns) × (byte_count (with_entry ns at name id) ≡ byte_count ns) × (length (with_entry ns at name id) ≡ length ns)
with_entry_by ns at name id None is = rw is (refl, refl, refl)
with_entry_by ns at name id (Some None) is = rw is (refl, refl, refl)
with_entry_by ns at name id (Some (Some n)) is =
    let m : Inode = with_entries (λ es. es ++ record { name = name; id = id } ∷ []) n in
    let nodes : node_count (slice_set ns at (Some m)) + 1 ≡ node_count ns + 1 = node_count-set ns at (Some n) (Some m) is in
    let bytes : byte_count (slice_set ns at (Some m)) + length (bytes_in n.content) ≡ byte_count ns + length (bytes_in m.content) = byte_count-set ns at (Some n) (Some m) is in
    let same : length (bytes_in m.content) ≡ length (bytes_in n.content) = ap length (same_bytes (λ es. es ++ record { name = name; id = id } ∷ []) n) in
    rw is (omega (arith, nodes), omega (arith, bytes, same), length-set ns at (Some m))

module _ (ns : Inodes) (at : ℕ) (name : List ℕ) (n : Inode) where
  pub nodes_new : node_count (with_new ns at name n) ≡ node_count ns + 1
  nodes_new = sum_by_push (λ x. cond (is_some x) 1 0) (with_entry ns at name (length ns)) (Some n) ∙ ap (λ k. k + 1) (with_entry_by ns at name (length ns) (slice_get ns at) refl).0

  pub bytes_new : byte_count (with_new ns at name n) ≡ byte_count ns + length (bytes_in n.content)
  bytes_new = sum_by_push bytes_at (with_entry ns at name (length ns)) (Some n) ∙ ap (λ k. k + length (bytes_in n.content)) (with_entry_by ns at name (length ns) (slice_get ns at) refl).1

  pub length-with_new : length (with_new ns at name n) ≡ length ns + 1
  length-with_new = length_push (with_entry ns at name (length ns)) (Some n) ∙ ap (λ k. k + 1) (with_entry_by ns at name (length ns) (slice_get ns at) refl).2

  pub fits_new : node_count ns < most_nodes → byte_count ns + length (bytes_in n.content) ≤ most_of_all → Fits (with_new ns at name n)
  fits_new few small = record { nodes = omega (arith, nodes_new); bytes = omega (arith, bytes_new) }

made_by : (ns : Inodes) (p : Place) (content : Content) (program : Option ℕ) → length (bytes_in content) ≤ most_of_one → made_in ns p content program ≡ or_no_space (with_new ns p.folder p.name (new_inode content program))
made_by ns p content program small =
    let so : nat_lt most_of_one (length (bytes_in content)) ≡ false = grind (arith, nat_tests) in
    ap (λ (b : Bool). cond b (Err Efbig) (or_no_space (with_new ns p.folder p.name (new_inode content program)))) so

pub made_so : (ns : Inodes) (p : Place) (content : Content) (program : Option ℕ) → length (bytes_in content) ≤ most_of_one → Fits (with_new ns p.folder p.name (new_inode content program)) → made_in ns p content program ≡ Ok (with_new ns p.folder p.name (new_inode content program))
made_so ns p content program small fits = made_by ns p content program small ∙ within _ fits

pub made_past : (ns : Inodes) (p : Place) (content : Content) (program : Option ℕ) → length (bytes_in content) ≤ most_of_one
    → (most_nodes ≤ node_count ns) ⊎ (most_of_all < byte_count ns + length (bytes_in content)) → made_in ns p content program ≡ Err Enospc
made_past ns p content program small (inl many) =
    made_by ns p content program small ∙ past (with_new ns p.folder p.name (new_inode content program)) (inl (omega (arith, nodes_new ns p.folder p.name (new_inode content program))))
made_past ns p content program small (inr large) =
    made_by ns p content program small ∙ past (with_new ns p.folder p.name (new_inode content program)) (inr (omega (arith, bytes_new ns p.folder p.name (new_inode content program))))
