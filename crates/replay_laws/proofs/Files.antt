-- Each program of a manifest has its file among those of the item lines.
use Rattle.std.proofs.Common.{◌≡◌, ℕ, ◌+◌, ◌*◌, ◌/◌, ◌≤◌, Bool, true, false, inl, inr, List, [], ◌∷◌, length, Option, Some, None, Result, Ok, Err, refl, ap, subst, arith}
use Rattle.std.specs.List.{AllByRecursion}
use Rattle.bflt_format.specs.declared.fault.FlatFault.{FlatFault}
use Rattle.bflt_format.specs.Header.{flat_values}
use Rattle.bflt_format.specs.Fault.{flat_fault}
use Rattle.elf2flt_tool.specs.declared.refusal.Refusal.{Refusal}
use Rattle.elf2flt_tool.specs.Fault.{fault}
use Rattle.call_log.specs.declared.errno.Errno.{Errno}
use Rattle.mem_files.specs.Inodes.{Inodes}
use Rattle.mem_files.specs.Changes.{with_file, with_folder}
use Rattle.flat_loader.specs.Original.{Original, flat_original}
use Rattle.originals.specs.Originals.{elf_original}
use Rattle.romfs_image.specs.declared.fault.RomFault.{RomFault}
use Rattle.romfs_image.specs.declared.node.RomKind.{RomKind}
use Rattle.romfs_image.specs.declared.node.RomKind.TheVariants as rom_kind
use Rattle.romfs_image.specs.Nodes.{RomValue}
use Rattle.romfs_image.specs.Reading.{rom_read}
use Rattle.rom_tree.specs.Paths.{rom_path}
use Rattle.machine_world.specs.World.{Program}
use Rattle.manifest_text.specs.declared.manifest.ItemKind.{ItemKind}
use Rattle.manifest_text.specs.declared.manifest.ItemKind.TheVariants.{Elf, Flat, File, Dir, Stdin, Root}
use Rattle.manifest_text.specs.Values.{Item}
use Rattle.manifest_text.specs.Laws.{IsItem, HasStack}
use Rattle.replay_check.specs.Replays.{OriginalFile, elf_file, flat_file}
use Rattle.run_setup.specs.declared.fault.LineFault.{LineFault}
use Rattle.run_setup.specs.Brought.{Brought, Made, elf_made, elf_made_of, flat_made, flat_made_of, or_errno, program_brought, with_tree, file_brought, folder_brought, rom_file_brought, node_brought, then_more, nodes_brought, image_brought, brought_by, FaultAt, nothing_brought, then_brought, all_brought}
use Rattle.recorded_items.proofs.Readable.{all_append}
use Rattle.replay_laws.specs.Files.{IsFileOf, IsInImage, IsOfLine, IsOfLines, HasFile}
use Rattle.replay_laws.specs.Laws.{LinesHaveFiles}

abbrev one_done : Brought → Result Brought LineFault
one_done b = Ok b

abbrev all_done : Brought → Result Brought FaultAt
all_done b = Ok b

same_one : (x y : Brought) → one_done x ≡ one_done y → x ≡ y
same_one x y h = cc

same_all : (x y : Brought) → all_done x ≡ all_done y → x ≡ y
same_all x y h = cc

-- S holds of each program
module _ (S : Program → Type 0) where
  abbrev Have : Brought → Type 0
  Have b = AllByRecursion S b.programs

  as_one : (x y : Brought) → one_done x ≡ one_done y → Have x → Have y
  as_one x y is all = subst Have (same_one x y is) all

  by_tree : (wanted : Result Inodes Errno) (with : Inodes → Brought) (now : Brought) → ((t : Inodes) → Have (with t)) → or_errno wanted with ≡ Ok now → Have now
  by_tree (Ok t) with now all is = as_one (with t) now is (all t)
  by_tree (Err errno) with now all is = absurd cc

  module _ (b : Brought) (all : Have b) where
    by_program : (path : List ℕ) (made : Result Made LineFault) (now : Brought) → ((m : Made) → made ≡ Ok m → S (record { path = path; original = m.original })) → program_brought b path made ≡ Ok now → Have now
    by_program path (Ok m) now each is = by_tree (with_file b.tree path m.bytes (Some (length b.programs))) _ now (λ t. all_append S b.programs (_ ∷ []) all (each m refl, tt)) is
    by_program path (Err first) now each is = absurd cc

    by_file : (path bytes : List ℕ) (now : Brought) → file_brought b path bytes ≡ Ok now → Have now
    by_file path bytes now is = by_tree (with_file b.tree path bytes None) (with_tree b) now (λ t. all) is

    by_folder : (path : List ℕ) (now : Brought) → folder_brought b path ≡ Ok now → Have now
    by_folder path now is = by_tree (with_folder b.tree path) (with_tree b) now (λ t. all) is

    by_rom_file : (path bytes : List ℕ) (exec : Bool) (first : Option FlatFault) (now : Brought)
        → (exec ≡ true → S (record { path = path; original = flat_original (flat_values bytes) })) → rom_file_brought b path bytes exec first ≡ Ok now → Have now
    by_rom_file path bytes true None now each is = by_program path (flat_made bytes None) now (λ m made. (let e : flat_original (flat_values bytes) ≡ m.original = made_is bytes m made in subst (λ (o : Original). S (record { path = path; original = o })) e (each refl))) is
      where
        made_is : (bytes : List ℕ) (m : Made) → flat_made bytes None ≡ Ok m → flat_original (flat_values bytes) ≡ m.original
        made_is bytes m made = cc
    by_rom_file path bytes true (Some first) now each is = by_file path bytes now is
    by_rom_file path bytes false first now each is = by_file path bytes now is

    by_node : (path : List ℕ) (n : RomValue) (k : RomKind) → n.kind ≡ k → (now : Brought) → (n.exec ≡ true → S (record { path = path; original = flat_original (flat_values n.bytes) }))
        → node_brought b path n ≡ Ok now → Have now
    by_node path n rom_kind.Dir kind now each is = by_folder path now (rw kind at is)
    by_node path n rom_kind.File kind now each is = by_rom_file path n.bytes n.exec (flat_fault n.bytes) now each (rw kind at is)

  by_more : (r : Result Brought LineFault) (more : Brought → Result Brought LineFault) (now : Brought) → ((c : Brought) → r ≡ Ok c → Have c)
      → ((c : Brought) → Have c → more c ≡ Ok now → Have now) → then_more r more ≡ Ok now → Have now
  by_more (Ok c) more now first rest is = rest c (first c refl) is
  by_more (Err fault) more now first rest is = absurd cc

  by_nodes : (nodes_all : List RomValue) (number : ℕ) (nodes : List RomValue)
      → ((at : ℕ) (n : RomValue) → n.exec ≡ true → S (record { path = rom_path nodes_all at; original = flat_original (flat_values n.bytes) }))
      → (b now : Brought) → Have b → nodes_brought nodes_all number nodes b ≡ Ok now → Have now
  unfolding nodes_brought
  by_nodes nodes_all number [] each b now all is = as_one b now is all
  by_nodes nodes_all number (n ∷ nodes) each b now all is =
      by_more (node_brought b (rom_path nodes_all number) n) (nodes_brought nodes_all (number + 1) nodes) now
      (λ c made. by_node b all (rom_path nodes_all number) n n.kind refl c (each number n) made)
      (λ c kept. by_nodes nodes_all (number + 1) nodes each c now kept) is

  by_image : (image : List ℕ) (r : Result (List RomValue) RomFault) → rom_read image ≡ r
      → ((p : Program) (f : OriginalFile) → IsFileOf f p.original → IsInImage image p f → S p) → (b now : Brought) → Have b → image_brought b r ≡ Ok now → Have now
  by_image image (Ok nodes) read each b now all is =
      by_nodes nodes 1 nodes
      (λ at n exec. each (record { path = rom_path nodes at; original = flat_original (flat_values n.bytes) }) (flat_file (flat_values n.bytes)) refl
      (record { nodes = nodes; read = read; number = at; node = n; path = refl; exec = exec; is = refl }))
      b now all is
  by_image image (Err fault) read each b now all is = absurd cc

  -- ---- a line

  module _ (file : List ℕ) (i : Item) where
    by_elf : (stack : 16 ≤ i.stack) (most : i.stack ≤ 1048576) → ((p : Program) (f : OriginalFile) → IsFileOf f p.original → IsOfLine Elf i file p f → S p)
        → (o : Option Refusal) → fault file ≡ o → (m : Made) → elf_made file i.stack o ≡ Ok m → S (record { path = i.path; original = m.original })
    by_elf least most each (Some first) none m made = absurd cc
    by_elf least most each None none m made =
        let e : elf_original file i.stack ≡ m.original = original_is m made in
        subst (λ (o : Original). S (record { path = i.path; original = o })) e
        (each (record { path = i.path; original = elf_original file i.stack }) (elf_file file)
        (record { sound = none; least = omega (arith, least); most = omega (arith, most); is = ap (λ (n : ℕ). record (elf_original file i.stack) { stack = n }) (rounded i.stack) }) (refl, refl))
      where
        original_is : (m : Made) → elf_made file i.stack None ≡ Ok m → elf_original file i.stack ≡ m.original
        original_is m made = cc

        rounded : (n : ℕ) → ((n + 15) / 16 * 16 + 15) / 16 * 16 ≡ (n + 15) / 16 * 16
        rounded n = omega arith

    by_flat : ((p : Program) (f : OriginalFile) → IsFileOf f p.original → IsOfLine Flat i file p f → S p) → (o : Option FlatFault) → (m : Made) → flat_made file o ≡ Ok m
        → S (record { path = i.path; original = m.original })
    by_flat each (Some first) m made = absurd cc
    by_flat each None m made =
        let e : flat_original (flat_values file) ≡ m.original = original_is m made in
        subst (λ (o : Original). S (record { path = i.path; original = o })) e
        (each (record { path = i.path; original = flat_original (flat_values file) }) (flat_file (flat_values file)) refl (refl, refl))
      where
        original_is : (m : Made) → flat_made file None ≡ Ok m → flat_original (flat_values file) ≡ m.original
        original_is m made = cc

    by_line : (k : ItemKind) → HasStack k i.stack → ((p : Program) (f : OriginalFile) → IsFileOf f p.original → IsOfLine k i file p f → S p)
        → (b now : Brought) → Have b → brought_by k b i file ≡ Ok now → Have now
    by_line Elf stack each b now all is = by_program b all i.path (elf_made_of file i.stack) now (by_elf stack.0 stack.1 each (fault file) refl) is
    by_line Flat stack each b now all is = by_program b all i.path (flat_made_of file) now (by_flat each (flat_fault file)) is
    by_line File stack each b now all is = by_file b all i.path file now is
    by_line Dir stack each b now all is = by_folder b all i.path now is
    by_line Stdin stack each b now all is = as_one (record b { stdin = file }) now is all
    by_line Root stack each b now all is = by_image file (rom_read file) refl each b now all is

  -- ---- all lines

  by_then : (i : Item) (r : Result Brought LineFault) (more : Brought → Result Brought FaultAt) (now : Brought) → ((c : Brought) → r ≡ Ok c → Have c)
      → ((c : Brought) → Have c → more c ≡ Ok now → Have now) → then_brought i r more ≡ Ok now → Have now
  by_then i (Ok c) more now first rest is = rest c (first c refl) is
  by_then i (Err fault) more now first rest is = absurd cc

  lines_have : (items : List Item) (loaded : List (List ℕ)) → AllByRecursion IsItem items → ((p : Program) (f : OriginalFile) → IsFileOf f p.original → IsOfLines items loaded p f → S p)
      → (b now : Brought) → Have b → all_brought items loaded b ≡ Ok now → Have now
  unfolding all_brought
  lines_have [] loaded are each b now all is = subst Have (same_all b now is) all
  lines_have (i ∷ items) [] are each b now all is = subst Have (same_all b now is) all
  lines_have (i ∷ items) (file ∷ more) are each b now all is =
      by_then i (brought_by i.kind b i file) (all_brought items more) now (λ c made. by_line file i i.kind are.0.stack (λ p f is of. each p f is (inl of)) b c all made)
      (λ c kept. lines_have items more are.1 (λ p f is of. each p f is (inr of)) c now kept) is

pub lines_have_files : LinesHaveFiles
lines_have_files items files b are is = lines_have (HasFile items files) items files are (λ p f is of. record { file = f; is = is; of_line = of }) nothing_brought b tt is
