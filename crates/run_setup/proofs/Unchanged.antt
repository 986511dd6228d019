-- What new folders and files keep, all lines keep: files are unchanged, the nodes are a tree and not too many, and nothing is open.
use Rattle.std.proofs.Common.{◌≡◌, ℕ, zero, suc, ◌+◌, ◌≤◌, Bool, true, false, List, [], ◌∷◌, Some, None, Result, Ok, Err, refl, sym, ap, subst, arith}
use Rattle.std.specs.Prelude.{Option, length}
use Rattle.std.specs.List.{AllByRecursion}
use Rattle.std.proofs.lemmas.Option.{same_Some}
use Rattle.call_log.specs.declared.errno.Errno.{Errno}
use Rattle.mem_files.specs.Inodes.{Inode, Inodes, opening, most_nodes, node_count}
use Rattle.mem_files.specs.Changes.{with_file, with_folder}
use Rattle.mem_files.specs.Trees.{IsTree, AreNamedAndClosed}
use Rattle.mem_files.proofs.TreesKept.{changes_keep_tree}
use Rattle.mem_files.proofs.Closed.{making_opens_nothing}
use Rattle.machine_world.specs.Ages.{AreChanged}
use Rattle.machine_world.proofs.Aging.{folder_unchanged, file_unchanged}
use Rattle.bflt_format.specs.declared.fault.FlatFault.{FlatFault}
use Rattle.bflt_format.specs.Fault.{flat_fault}
use Rattle.romfs_image.specs.declared.fault.RomFault.{RomFault}
use Rattle.romfs_image.specs.declared.node.RomKind.{RomKind}
use Rattle.romfs_image.specs.declared.node.RomKind.TheVariants as rom_kind
use Rattle.romfs_image.specs.Nodes.{RomValue}
use Rattle.romfs_image.specs.Reading.{rom_read}
use Rattle.rom_tree.specs.Paths.{rom_path}
use Rattle.rom_tree.specs.Names.{IsClear, CanBeWritten}
use Rattle.rom_tree.proofs.Written.{file_can, folder_can, opening_can}
use Rattle.rom_tree.proofs.ClearPaths.{image_paths}
use Rattle.manifest_text.specs.Laws.{HasClearPath}
use Rattle.manifest_text.specs.declared.manifest.ItemKind.{ItemKind}
use Rattle.manifest_text.specs.declared.manifest.ItemKind.TheVariants.{Elf, Flat, File, Dir, Stdin, Root}
use Rattle.manifest_text.specs.Values.{Item}
use Rattle.run_setup.specs.declared.fault.LineFault.{LineFault}
use Rattle.run_setup.proofs.Counted.{folder_counts, file_counts}
use Rattle.run_setup.specs.Brought.{Brought, Made, elf_made_of, flat_made_of, or_errno, program_brought, with_tree, file_brought, folder_brought, flat_made, rom_file_brought, node_brought, then_more, nodes_brought, image_brought, brought_by, FaultAt, nothing_brought, then_brought, all_brought}

-- no node of the empty tree was changed
pub opening_unchanged : AreChanged 0 opening
opening_unchanged zero n is = absurd cc
opening_unchanged (suc zero) n is = let same = ap (λ (m : Inode). m.change) (same_Some _ n is) in omega (arith, same)
opening_unchanged (suc (suc id)) n is = absurd cc

abbrev one_done : Brought → Result Brought LineFault
one_done b = Ok b

abbrev all_done : Brought → Result Brought FaultAt
all_done b = Ok b

same_one : (x y : Brought) → one_done x ≡ one_done y → x ≡ y
same_one x y h = cc

same_all : (x y : Brought) → all_done x ≡ all_done y → x ≡ y
same_all x y h = cc

-- P is kept by what is made at paths of which Q holds, as it does of those of an image's nodes
module _ (P : Inodes → Type 0) (Q : List ℕ → Type 0) (folders : (ns new : Inodes) (path : List ℕ) → Q path → with_folder ns path ≡ Ok new → P ns → P new)
    (files : (ns new : Inodes) (path bytes : List ℕ) (program : Option ℕ) → Q path → with_file ns path bytes program ≡ Ok new → P ns → P new)
    (images : (y : List ℕ) (nodes : List RomValue) → rom_read y ≡ Ok nodes → (number : ℕ) → Q (rom_path nodes number)) where
  as_tree : (x y : Brought) → x ≡ y → P x.tree → P y.tree
  as_tree x y same low = subst (λ (b : Brought). P b.tree) same low

  by_tree : (wanted : Result Inodes Errno) (with : Inodes → Brought) (now : Brought) → ((t : Inodes) → (with t).tree ≡ t)
      → ((t : Inodes) → wanted ≡ Ok t → P t) → or_errno wanted with ≡ Ok now → P now.tree
  by_tree (Ok t) with now keeps low is = as_tree (with t) now (same_one (with t) now is) (subst P (sym (keeps t)) (low t refl))
  by_tree (Err errno) with now keeps low is = absurd cc

  module _ (b : Brought) (low : P b.tree) where
    by_program : (path : List ℕ) → Q path → (made : Result Made LineFault) (now : Brought) → program_brought b path made ≡ Ok now → P now.tree
    by_program path q (Ok m) now is =
        by_tree (with_file b.tree path m.bytes (Some (length b.programs))) _ now (λ t. refl)
        (λ t made. files b.tree t path m.bytes (Some (length b.programs)) q made low) is
    by_program path q (Err first) now is = absurd cc

    by_file : (path bytes : List ℕ) → Q path → (now : Brought) → file_brought b path bytes ≡ Ok now → P now.tree
    by_file path bytes q now is = by_tree (with_file b.tree path bytes None) (with_tree b) now (λ t. refl) (λ t made. files b.tree t path bytes None q made low) is

    by_folder : (path : List ℕ) → Q path → (now : Brought) → folder_brought b path ≡ Ok now → P now.tree
    by_folder path q now is = by_tree (with_folder b.tree path) (with_tree b) now (λ t. refl) (λ t made. folders b.tree t path q made low) is

    by_rom_file : (path bytes : List ℕ) → Q path → (exec : Bool) (fault : Option FlatFault) (now : Brought) → rom_file_brought b path bytes exec fault ≡ Ok now → P now.tree
    by_rom_file path bytes q true None now is = by_program path q (flat_made bytes None) now is
    by_rom_file path bytes q true (Some first) now is = by_file path bytes q now is
    by_rom_file path bytes q false fault now is = by_file path bytes q now is

    by_node : (path : List ℕ) → Q path → (n : RomValue) (k : RomKind) → n.kind ≡ k → (now : Brought) → node_brought b path n ≡ Ok now → P now.tree
    by_node path q n rom_kind.Dir kind now is = by_folder path q now (rw kind at is)
    by_node path q n rom_kind.File kind now is = by_rom_file path n.bytes q n.exec (flat_fault n.bytes) now (rw kind at is)

  by_more : (r : Result Brought LineFault) (more : Brought → Result Brought LineFault) (now : Brought) → ((c : Brought) → r ≡ Ok c → P c.tree)
      → ((c : Brought) → P c.tree → more c ≡ Ok now → P now.tree) → then_more r more ≡ Ok now → P now.tree
  by_more (Ok c) more now first rest is = rest c (first c refl) is
  by_more (Err fault) more now first rest is = absurd cc

  by_nodes : (all : List RomValue) → ((number : ℕ) → Q (rom_path all number)) → (number : ℕ) (nodes : List RomValue) (b now : Brought) → P b.tree → nodes_brought all number nodes b ≡ Ok now → P now.tree
  unfolding nodes_brought
  by_nodes all each number [] b now low is = as_tree b now (same_one b now is) low
  by_nodes all each number (n ∷ nodes) b now low is =
      by_more (node_brought b (rom_path all number) n) (nodes_brought all (number + 1) nodes) now (λ c made. by_node b low (rom_path all number) (each number) n n.kind refl c made)
      (λ c kept. by_nodes all each (number + 1) nodes c now kept) is

  by_image : (r : Result (List RomValue) RomFault) → ((nodes : List RomValue) → r ≡ Ok nodes → (number : ℕ) → Q (rom_path nodes number)) → (b now : Brought) → P b.tree → image_brought b r ≡ Ok now → P now.tree
  by_image (Ok nodes) each b now low is = by_nodes nodes (each nodes refl) 1 nodes b now low is
  by_image (Err fault) each b now low is = absurd cc

  module _ (b : Brought) (low : P b.tree) where
    by_line : (k : ItemKind) (i : Item) → Q i.path → (file : List ℕ) (now : Brought) → brought_by k b i file ≡ Ok now → P now.tree
    by_line Elf i q file now is = by_program b low i.path q (elf_made_of file i.stack) now is
    by_line Flat i q file now is = by_program b low i.path q (flat_made_of file) now is
    by_line File i q file now is = by_file b low i.path file q now is
    by_line Dir i q file now is = by_folder b low i.path q now is
    by_line Stdin i q file now is = as_tree (record b { stdin = file }) now (same_one (record b { stdin = file }) now is) low
    by_line Root i q file now is = by_image (rom_read file) (λ nodes read number. images file nodes read number) b now low is

  by_then : (i : Item) (r : Result Brought LineFault) (more : Brought → Result Brought FaultAt) (now : Brought) → ((c : Brought) → r ≡ Ok c → P c.tree)
      → ((c : Brought) → P c.tree → more c ≡ Ok now → P now.tree) → then_brought i r more ≡ Ok now → P now.tree
  by_then i (Ok c) more now first rest is = rest c (first c refl) is
  by_then i (Err fault) more now first rest is = absurd cc

  lines_keep : (items : List Item) → AllByRecursion (λ (i : Item). Q i.path) items → (loaded : List (List ℕ)) (b now : Brought) → P b.tree → all_brought items loaded b ≡ Ok now
      → P now.tree
  unfolding all_brought
  lines_keep [] paths loaded b now low is = as_tree b now (same_all b now is) low
  lines_keep (i ∷ items) paths [] b now low is = as_tree b now (same_all b now is) low
  lines_keep (i ∷ items) paths (file ∷ more) b now low is =
      by_then i (brought_by i.kind b i file) (all_brought items more) now (λ c made. by_line b low i.kind i paths.0 file c made)
      (λ c kept. lines_keep items paths.1 more c now kept) is

-- ---- what they keep

abbrev AnyPath : List ℕ → Type 0
AnyPath path = Unit {0}

any_paths : (items : List Item) → AllByRecursion (λ (i : Item). AnyPath i.path) items
any_paths [] = tt
any_paths (i ∷ items) = (tt, any_paths items)

pub lines_unchanged : (most : ℕ) (items : List Item) (loaded : List (List ℕ)) (b now : Brought) → AreChanged most b.tree → all_brought items loaded b ≡ Ok now
    → AreChanged most now.tree
lines_unchanged most items loaded =
    lines_keep (AreChanged most) AnyPath (λ ns new path q made low. folder_unchanged ns new path most made low)
    (λ ns new path bytes program q made low. file_unchanged ns new path bytes program most made low) (λ y nodes read number. tt) items (any_paths items) loaded

pub lines_tree : (items : List Item) (loaded : List (List ℕ)) (now : Brought) → all_brought items loaded nothing_brought ≡ Ok now → IsTree now.tree
lines_tree items loaded now is =
    lines_keep IsTree AnyPath (λ ns new path q made tree. changes_keep_tree.folder path ns new tree made)
    (λ ns new path bytes program q made tree. changes_keep_tree.file path bytes program ns new tree made) (λ y nodes read number. tt)
    items (any_paths items) loaded nothing_brought now changes_keep_tree.begins is

pub lines_few : (items : List Item) (loaded : List (List ℕ)) (now : Brought) → all_brought items loaded nothing_brought ≡ Ok now → node_count now.tree ≤ most_nodes
lines_few items loaded now is =
    lines_keep (λ ns. node_count ns ≤ most_nodes) AnyPath (λ ns new path q made few. (folder_counts ns path new made).1)
    (λ ns new path bytes program q made few. (file_counts ns path bytes program new made).1) (λ y nodes read number. tt)
    items (any_paths items) loaded nothing_brought now (omega arith) is

pub lines_closed : (items : List Item) (loaded : List (List ℕ)) (now : Brought) → all_brought items loaded nothing_brought ≡ Ok now
    → AreNamedAndClosed now.tree
lines_closed items loaded now is =
    lines_keep AreNamedAndClosed AnyPath (λ ns new path q made closed. making_opens_nothing.folder path ns new closed made)
    (λ ns new path bytes program q made closed. making_opens_nothing.file path bytes program ns new closed made) (λ y nodes read number. tt)
    items (any_paths items) loaded nothing_brought now making_opens_nothing.begins is

pub lines_written : (items : List Item) → AllByRecursion HasClearPath items → (loaded : List (List ℕ)) (now : Brought) → all_brought items loaded nothing_brought ≡ Ok now
    → CanBeWritten now.tree
lines_written items paths loaded now is =
    lines_keep CanBeWritten IsClear (λ ns new path q made can. folder_can ns new path q made can)
    (λ ns new path bytes program q made can. file_can ns new path bytes program q made can) image_paths
    items paths loaded nothing_brought now opening_can is
