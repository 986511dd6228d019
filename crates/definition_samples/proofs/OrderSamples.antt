-- A world whose nodes are a tree and whose counts are exact, and two that aren't so.
use Rattle.std.proofs.Common.{◌≡◌, ◌≢◌, ℕ, zero, suc, ◌<◌, ◌≤◌, true, false, cond, not, List, [], ◌∷◌, length, Some, None, IfSome, refl, arith}
use Rattle.std.specs.Prelude.{◌==◌, ◌&&◌, replicate}
use Rattle.std.proofs.lemmas.Bool.Decides.{nat_tests}
use Rattle.mem_files.specs.Inodes.{root, inode_at, entries_of}
use Rattle.mem_files.specs.Changes as nodes
use Rattle.mem_files.specs.Trees.{is_named, parent_of, leading, having, link_count, IsTree}
use Rattle.vfork_exec.specs.Keyed.{find}
use Rattle.fd_tables.specs.declared.open_file.Handle.TheVariants.{Open}
use Rattle.fd_tables.specs.Files.{most_descriptors, OpenFiles, table_at}
use Rattle.fd_tables.specs.Pipes.{pipe_view}
use Rattle.fd_tables.specs.Counts.{opens_of, holds_in, Counted}
use Rattle.machine_world.specs.World.{Rest, World}
use Rattle.machine_world.specs.Asks.{storage_of}
use Rattle.machine_world.specs.Order.{IsInOrder}
use Rattle.definition_samples.proofs.Exits.{tree, running}
use Rattle.definition_samples.proofs.TreeSamples.{twice, refuted-twice}

-- ---- the file /x is a tree

once : (id : ℕ) → link_count tree id ≡ cond (is_named tree id && not (id == root)) 1 0
once zero = refl
once (suc zero) = refl
once (suc (suc zero)) = refl
once (suc (suc (suc id))) = grind (arith, nat_tests)

below : (id at : ℕ) → 1 ≤ leading id (entries_of tree at) → at < id
below id zero some = absurd (omega (arith, some))
below id (suc zero) some = grind (arith, nat_tests, some)
below id (suc (suc zero)) some = absurd (omega (arith, some))
below id (suc (suc (suc at))) some = absurd (omega (arith, some))

apart : (at : ℕ) (name : List ℕ) → having name (entries_of tree at) ≤ 1
apart zero name = omega arith
apart (suc zero) [] = omega arith
apart (suc zero) (x ∷ name) = grind (arith, nat_tests)
apart (suc (suc zero)) name = omega arith
apart (suc (suc (suc at))) name = omega arith

empty : (id : ℕ) → is_named tree id ≡ false → entries_of tree id ≡ []
empty zero is = refl
empty (suc zero) is = absurd cc
empty (suc (suc zero)) is = refl
empty (suc (suc (suc id))) is = refl

above : (id parent : ℕ) → is_named tree id ≡ true → id ≢ root → parent_of tree id ≡ Some parent → 1 ≤ leading id (entries_of tree parent)
above zero parent is other found = absurd cc
above (suc zero) parent is other found = absurd (other refl)
above (suc (suc zero)) parent is other found = absurd cc
above (suc (suc (suc id))) parent is other found = absurd cc

is-tree : IsTree tree
is-tree = record { root_named = refl; root_above = refl; once = once; below = below; apart = apart; empty = empty; above = above }

-- ---- one table is there, with the console alone

abbrev rest : Rest
rest = (running 0x8000_0080 0 0).rest

holds : (id : ℕ) → holds_in (inode_at tree id) ≡ opens_of rest.files id
holds zero = refl
holds (suc zero) = refl
holds (suc (suc zero)) = refl
holds (suc (suc (suc id))) = refl

stays : (id : ℕ) → IfSome (inode_at tree id) (λ n. nodes.kept n ≡ Some n)
stays zero = tt
stays (suc zero) = refl
stays (suc (suc zero)) = refl
stays (suc (suc (suc id))) = tt

whole : (t : ℕ) → IfSome (table_at rest.files t) (λ table. length table ≡ most_descriptors)
whole zero = refl
whole (suc t) = tt

pub counted : Counted (storage_of rest)
unfolding pipe_view find
counted = record {
  uses = λ n. refl;
  used = λ n. tt;
  holds = holds;
  remains = stays;
  whole = whole;
  read_ends = λ id. refl;
  write_ends = λ id. refl;
  open_pipes = λ id. tt;
  pipe_numbers = tt;
  few_files = omega arith;
  few_tables = omega arith;
}

pub in-order : (pc a7 events : ℕ) → IsInOrder (running pc a7 events)
in-order pc a7 events = record { tree = is-tree; counts = counted; tables = omega arith; calls = omega arith }

-- ---- out of order

abbrev pub with_rest : Rest → World
with_rest r = record (running 0x8000_0080 0 0) { rest = r }

-- two entries lead to one node
refuted-tree : IsInOrder (with_rest (record rest { tree = twice })) → ⊥
refuted-tree o = refuted-twice o.tree

-- a descriptor stands for an open file that isn't there
abbrev pub lost : OpenFiles
lost = record rest.files { tables = Some (Some (record { handle = Open 0; cloexec = false }) ∷ replicate 31 None) ∷ [] }

refuted-counts : IsInOrder (with_rest (record rest { files = lost })) → ⊥
refuted-counts o = let is : 0 ≡ 1 = o.counts.uses 0 in omega (arith, is)
