-- The file of a program: which file of the host each program of a manifest is made of.
use Rattle.std.specs.Prelude.{◌≡◌, ◌⊎◌, ℕ, ◌≤◌, true, List, ◌∷◌, None, Ok}
use Rattle.bflt_format.specs.Header.{flat_values}
use Rattle.elf2flt_tool.specs.Fault.{fault}
use Rattle.flat_loader.specs.Original.{Original, flat_original}
use Rattle.originals.specs.Originals.{elf_original}
use Rattle.romfs_image.specs.Nodes.{RomValue}
use Rattle.romfs_image.specs.Reading.{rom_read}
use Rattle.rom_tree.specs.Paths.{rom_path}
use Rattle.manifest_text.specs.declared.manifest.ItemKind.{ItemKind}
use Rattle.manifest_text.specs.declared.manifest.ItemKind.TheVariants.{Elf, Flat, File, Dir, Stdin, Root}
use Rattle.manifest_text.specs.Values.{Item}
use Rattle.machine_world.specs.World.{Program}
use Rattle.replay_check.specs.Replays.{OriginalFile, elf_file, flat_file}

-- an ELF file without a fault, with a stack that a line may say; or a flat file
pub record IsElfOf (e : List ℕ) (o : Original) : Type 0 where
  pub sound : fault e ≡ None
  pub least : 16 ≤ o.stack
  pub most : o.stack ≤ 1048576
  pub is : elf_original e o.stack ≡ o

abbrev pub IsFileOf : OriginalFile → Original → Type 0
IsFileOf (elf_file e) o = IsElfOf e o
IsFileOf (flat_file f) o = flat_original f ≡ o

-- a node of a `root` line's image, at its path
pub record IsInImage (image : List ℕ) (p : Program) (f : OriginalFile) : Type 0 where
  pub nodes : List RomValue
  pub read : rom_read image ≡ Ok nodes
  pub number : ℕ
  pub node : RomValue
  pub path : p.path ≡ rom_path nodes number
  pub exec : node.exec ≡ true
  pub is : f ≡ flat_file (flat_values node.bytes)

-- the host's file of a line, or a part of it
abbrev pub IsOfLine : ItemKind → Item → List ℕ → Program → OriginalFile → Type 0
IsOfLine Elf i file p f = (p.path ≡ i.path) × (f ≡ elf_file file)
IsOfLine Flat i file p f = (p.path ≡ i.path) × (f ≡ flat_file (flat_values file))
IsOfLine File i file p f = ⊥
IsOfLine Dir i file p f = ⊥
IsOfLine Stdin i file p f = ⊥
IsOfLine Root i file p f = IsInImage file p f

abbrev pub IsOfLines : List Item → List (List ℕ) → Program → OriginalFile → Type 0
IsOfLines (i ∷ items) (file ∷ files) p f = IsOfLine i.kind i file p f ⊎ IsOfLines items files p f
IsOfLines items files p f = ⊥

-- a program of a manifest has its file among those of the item lines
pub record HasFile (items : List Item) (files : List (List ℕ)) (p : Program) : Type 0 where
  pub file : OriginalFile
  pub is : IsFileOf file p.original
  pub of_line : IsOfLines items files p file
