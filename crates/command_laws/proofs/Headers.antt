-- The headers that the lines of a manifest bring in are no longer than a flat file's header.
use Rattle.std.proofs.Common.{◌≡◌, ℕ, zero, suc, ◌+◌, ◌≤◌, Bool, true, false, List, [], ◌∷◌, ◌++◌, length, Some, None, Result, Ok, Err, refl, subst, arith}
use Rattle.std.specs.Prelude.{Option, take}
use Rattle.call_log.specs.declared.errno.Errno.{Errno}
use Rattle.flat_loader.specs.Original.{header_len}
use Rattle.bflt_format.specs.Header.{flat_values}
use Rattle.bflt_format.specs.Spelling.{spell}
use Rattle.bflt_format.specs.Fault.{flat_fault}
use Rattle.bflt_format.specs.declared.fault.FlatFault.{FlatFault}
use Rattle.elf2flt_tool.specs.declared.refusal.Refusal.{Refusal}
use Rattle.elf2flt_tool.specs.Fault.{fault}
use Rattle.elf2flt_tool.specs.Converted.{flat}
use Rattle.mem_files.specs.Inodes.{Inodes}
use Rattle.mem_files.specs.Changes.{with_file, with_folder}
use Rattle.manifest_text.specs.declared.manifest.ItemKind.{ItemKind}
use Rattle.manifest_text.specs.declared.manifest.ItemKind.TheVariants.{Elf, Flat, File, Dir, Stdin, Root}
use Rattle.manifest_text.specs.Values.{Item}
use Rattle.romfs_image.specs.declared.fault.RomFault.{RomFault}
use Rattle.romfs_image.specs.declared.node.RomKind.{RomKind}
use Rattle.romfs_image.specs.declared.node.RomKind.TheVariants as rom_kind
use Rattle.romfs_image.specs.Nodes.{RomValue}
use Rattle.romfs_image.specs.Reading.{rom_read}
use Rattle.rom_tree.specs.Paths.{rom_path}
use Rattle.run_setup.specs.declared.fault.LineFault.{LineFault}
use Rattle.run_setup.specs.Brought.{Brought, Made, elf_made, flat_made, elf_made_of, flat_made_of, or_errno, program_brought, with_tree, file_brought, folder_brought, rom_file_brought, node_brought, then_more, nodes_brought, image_brought, brought_by, FaultAt, nothing_brought, then_brought, all_brought}
use Rattle.go_on_laws.specs.Alike.{AreHeaders}

-- ---- lists

taken_length : (n : ℕ) (xs : List ℕ) → length (take n xs) ≤ n
taken_length zero xs = omega arith
taken_length (suc n) [] = omega arith
taken_length (suc n) (x ∷ xs) = let less = taken_length n xs in omega (arith, less)

one_more : (headers : List (List ℕ)) (h : List ℕ) → AreHeaders headers → length h ≤ header_len → AreHeaders (headers ++ h ∷ [])
one_more [] h short less zero header is = let same : h ≡ header = let e : Some h ≡ Some header = is in cc in rw (← same) less
one_more [] h short less (suc i) header is = absurd (let e : None ≡ Some header = is in cc)
one_more (x ∷ xs) h short less zero header is = short zero header is
one_more (x ∷ xs) h short less (suc i) header is = one_more xs h (λ j other there. short (suc j) other there) less i header is

-- ---- lines

abbrev one_done : Brought → Result Brought LineFault
one_done b = Ok b

abbrev all_done : Brought → Result Brought FaultAt
all_done b = Ok b

abbrev made_done : Made → Result Made LineFault
made_done m = Ok m

one_same : (x y : Brought) → one_done x ≡ one_done y → x ≡ y
one_same x y is = cc

all_same : (x y : Brought) → all_done x ≡ all_done y → x ≡ y
all_same x y is = cc

made_same : (x y : Made) → made_done x ≡ made_done y → x ≡ y
made_same x y is = cc

by_same : (x y : Brought) → x ≡ y → AreHeaders x.headers → AreHeaders y.headers
by_same x y is short = subst (λ (b : Brought). AreHeaders b.headers) is short

elf_short : (e : List ℕ) (stack : ℕ) (f : Option Refusal) (m : Made) → elf_made e stack f ≡ Ok m → length m.header ≤ header_len
elf_short e stack (Some first) m is = absurd cc
elf_short e stack None m is = subst (λ (x : Made). length x.header ≤ header_len) (made_same _ m is) (taken_length header_len (flat e stack))

flat_short : (y : List ℕ) (f : Option FlatFault) (m : Made) → flat_made y f ≡ Ok m → length m.header ≤ header_len
flat_short y (Some first) m is = absurd cc
flat_short y None m is = subst (λ (x : Made). length x.header ≤ header_len) (made_same _ m is) (taken_length header_len (spell (flat_values y)))

by_tree : (wanted : Result Inodes Errno) (with : Inodes → Brought) (now : Brought) → ((t : Inodes) → AreHeaders (with t).headers) → or_errno wanted with ≡ Ok now → AreHeaders now.headers
by_tree (Ok t) with now short is = by_same (with t) now (one_same (with t) now is) (short t)
by_tree (Err errno) with now short is = absurd cc

module _ (b : Brought) (short : AreHeaders b.headers) where
  by_program : (path : List ℕ) (made : Result Made LineFault) (now : Brought) → ((m : Made) → made ≡ Ok m → length m.header ≤ header_len) → program_brought b path made ≡ Ok now → AreHeaders now.headers
  by_program path (Ok m) now less is =
      by_tree (with_file b.tree path m.bytes (Some (length b.programs))) _ now (λ t. one_more b.headers m.header short (less m refl)) is
  by_program path (Err first) now less is = absurd cc

  by_file : (path bytes : List ℕ) (now : Brought) → file_brought b path bytes ≡ Ok now → AreHeaders now.headers
  by_file path bytes now is = by_tree (with_file b.tree path bytes None) (with_tree b) now (λ t. short) is

  by_folder : (path : List ℕ) (now : Brought) → folder_brought b path ≡ Ok now → AreHeaders now.headers
  by_folder path now is = by_tree (with_folder b.tree path) (with_tree b) now (λ t. short) is

  by_rom_file : (path bytes : List ℕ) (exec : Bool) (fault : Option FlatFault) (now : Brought) → rom_file_brought b path bytes exec fault ≡ Ok now → AreHeaders now.headers
  by_rom_file path bytes true None now is = by_program path (flat_made bytes None) now (λ m made. flat_short bytes None m made) is
  by_rom_file path bytes true (Some first) now is = by_file path bytes now is
  by_rom_file path bytes false fault now is = by_file path bytes now is

  by_node : (path : List ℕ) (n : RomValue) (k : RomKind) → n.kind ≡ k → (now : Brought) → node_brought b path n ≡ Ok now → AreHeaders now.headers
  by_node path n rom_kind.Dir kind now is = by_folder path now (rw kind at is)
  by_node path n rom_kind.File kind now is = by_rom_file path n.bytes n.exec (flat_fault n.bytes) now (rw kind at is)

by_more : (r : Result Brought LineFault) (more : Brought → Result Brought LineFault) (now : Brought) → ((c : Brought) → r ≡ Ok c → AreHeaders c.headers)
    → ((c : Brought) → AreHeaders c.headers → more c ≡ Ok now → AreHeaders now.headers) → then_more r more ≡ Ok now → AreHeaders now.headers
by_more (Ok c) more now first rest is = rest c (first c refl) is
by_more (Err fault) more now first rest is = absurd cc

by_nodes : (all : List RomValue) (number : ℕ) (nodes : List RomValue) (b now : Brought) → AreHeaders b.headers → nodes_brought all number nodes b ≡ Ok now → AreHeaders now.headers
unfolding nodes_brought
by_nodes all number [] b now short is = by_same b now (one_same b now is) short
by_nodes all number (n ∷ nodes) b now short is =
    by_more (node_brought b (rom_path all number) n) (nodes_brought all (number + 1) nodes) now (λ c made. by_node b short (rom_path all number) n n.kind refl c made)
    (λ c kept. by_nodes all (number + 1) nodes c now kept) is

by_image : (r : Result (List RomValue) RomFault) (b now : Brought) → AreHeaders b.headers → image_brought b r ≡ Ok now → AreHeaders now.headers
by_image (Ok nodes) b now short is = by_nodes nodes 1 nodes b now short is
by_image (Err fault) b now short is = absurd cc

module _ (b : Brought) (short : AreHeaders b.headers) where
  by_line : (k : ItemKind) (i : Item) (file : List ℕ) (now : Brought) → brought_by k b i file ≡ Ok now → AreHeaders now.headers
  by_line Elf i file now is = by_program b short i.path (elf_made_of file i.stack) now (λ m made. elf_short file i.stack (fault file) m made) is
  by_line Flat i file now is = by_program b short i.path (flat_made_of file) now (λ m made. flat_short file (flat_fault file) m made) is
  by_line File i file now is = by_file b short i.path file now is
  by_line Dir i file now is = by_folder b short i.path now is
  by_line Stdin i file now is = by_same (record b { stdin = file }) now (one_same (record b { stdin = file }) now is) short
  by_line Root i file now is = by_image (rom_read file) b now short is

by_then : (i : Item) (r : Result Brought LineFault) (more : Brought → Result Brought FaultAt) (now : Brought) → ((c : Brought) → r ≡ Ok c → AreHeaders c.headers)
    → ((c : Brought) → AreHeaders c.headers → more c ≡ Ok now → AreHeaders now.headers) → then_brought i r more ≡ Ok now → AreHeaders now.headers
by_then i (Ok c) more now first rest is = rest c (first c refl) is
by_then i (Err fault) more now first rest is = absurd cc

lines_short : (items : List Item) (loaded : List (List ℕ)) (b now : Brought) → AreHeaders b.headers → all_brought items loaded b ≡ Ok now → AreHeaders now.headers
unfolding all_brought
lines_short [] loaded b now short is = by_same b now (all_same b now is) short
lines_short (i ∷ items) [] b now short is = by_same b now (all_same b now is) short
lines_short (i ∷ items) (file ∷ more) b now short is =
    by_then i (brought_by i.kind b i file) (all_brought items more) now (λ c made. by_line b short i.kind i file c made)
    (λ c kept. lines_short items more c now kept) is

pub headers_short : (items : List Item) (loaded : List (List ℕ)) (now : Brought) → all_brought items loaded nothing_brought ≡ Ok now → AreHeaders now.headers
headers_short items loaded now is = lines_short items loaded nothing_brought now (λ i header none. absurd (let e : None ≡ Some header = none in cc)) is
