-- The loads of the files that the lines of a manifest bring in.
use Rattle.std.specs.Prelude.{ℕ, ◌-◌, min, Bool, true, false, if◌then◌else◌, List, [], ◌∷◌, length, Some}
use Rattle.manifest_text.specs.declared.manifest.ItemKind.{ItemKind}
use Rattle.manifest_text.specs.declared.manifest.ItemKind.TheVariants.{Elf, Flat, File, Dir, Stdin, Root}
use Rattle.manifest_text.specs.Values.{Item}
use Rattle.file_commands.specs.Outcome.{Outcome, Inputs}
use Rattle.file_commands.specs.Load.{with_load}

-- the most bytes of an ELF file and of an image, of any other file, and of all files together
abbrev pub kind_limit : ItemKind → ℕ
kind_limit Elf = 67108864
kind_limit Flat = 16777216
kind_limit File = 16777216
kind_limit Dir = 0
kind_limit Stdin = 16777216
kind_limit Root = 67108864

abbrev pub files_limit : ℕ
files_limit = 268435456

-- of one load, where so many bytes are left of those of all files
abbrev pub load_limit : ItemKind → ℕ → ℕ
load_limit kind left = min (kind_limit kind) left

-- the line of a folder brings in no file of the host
abbrev pub has_file : ItemKind → Bool
has_file Elf = true
has_file Flat = true
has_file File = true
has_file Dir = false
has_file Stdin = true
has_file Root = true

-- the file of a line is loaded, if it has one, and then `rest` goes on with it
abbrev pub with_item : (left : ℕ) → Item → (List ℕ → Inputs → Outcome) → Inputs → Outcome
with_item left item rest inputs =
    if has_file item.kind then with_load (load_limit item.kind left) (Some item.line) item.name rest inputs else rest [] inputs

-- the files of the item lines are loaded in order, and then `rest` goes on with all of them
unfoldable pub with_items : (left : ℕ) → List Item → (List (List ℕ) → Outcome) → Inputs → Outcome
with_items left [] rest inputs = rest []
with_items left (item ∷ items) rest inputs =
    with_item left item (λ bytes. with_items (left - length bytes) items (λ files. rest (bytes ∷ files))) inputs
