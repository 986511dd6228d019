-- What holds of every manifest that is read: its counts and numbers are bounded, and its names are text.
use Rattle.std.specs.Prelude.{◌≡◌, ℕ, ◌+◌, ◌^◌, ◌==◌, ◌<◌, ◌≤◌, true, not, List, length, Ok}
use Rattle.std.specs.List.{AllByRecursion, list_all}
use Rattle.std.specs.Str.{IsAscii}
use Rattle.quantum_sched.specs.declared.Quantum.{Quantum}
use Rattle.manifest_text.specs.declared.manifest.ItemKind.{ItemKind}
use Rattle.manifest_text.specs.declared.manifest.ItemKind.TheVariants.{Elf}
use Rattle.manifest_text.specs.declared.manifest.WatchLine.{WatchLine}
use Rattle.manifest_text.specs.Values.{Item, Start, Manifest}
use Rattle.manifest_text.specs.Pieces.{Text}
use Rattle.manifest_text.specs.Manifest.{manifest_of, tree_manifest_of}

-- the stack of an ELF file's program; the others have none
abbrev pub HasStack : ItemKind → ℕ → Type 0
HasStack Elf stack = (16 ≤ stack) × (stack ≤ 1048576)
HasStack _ stack = stack ≡ 0

pub record IsItem (i : Item) : Type 0 where
  pub name : IsAscii i.name
  pub stack : HasStack i.kind i.stack

-- no zero byte
abbrev pub IsClear : List ℕ → Type 0
IsClear bytes = list_all (λ b. not (b == 0)) bytes ≡ true

-- the path has no zero byte
abbrev pub HasClearPath : Item → Type 0
HasClearPath i = IsClear i.path

-- the first argument is the program's path
abbrev pub HasArgument : Start → Type 0
HasArgument s = 0 < length s.args

-- no argument has a zero byte
abbrev pub HasClearArguments : Start → Type 0
HasClearArguments s = AllByRecursion IsClear s.args

abbrev pub IsShort : Quantum → Type 0
IsShort q = q.count ≤ 1000000

-- a range with a byte, which doesn't pass the last byte that has an address
pub record IsWatch (w : WatchLine) : Type 0 where
  pub some : 0 < w.len
  pub ends : w.addr + w.len ≤ 2 ^ 32

abbrev pub AreWatches : List WatchLine → Type 0
AreWatches watches = AllByRecursion IsWatch watches

pub record Reasonable (m : Manifest) : Type 0 where
  pub some_pages : 1 ≤ m.pages
  pub most_pages : m.pages ≤ 16384
  pub items : length m.items ≤ 4096
  pub each_item : AllByRecursion IsItem m.items
  pub each_path : AllByRecursion HasClearPath m.items
  pub starts : length m.starts ≤ 64
  pub each_start : AllByRecursion HasArgument m.starts
  pub quanta : length m.quanta ≤ 65536
  pub each_quantum : AllByRecursion IsShort m.quanta
  pub repeat : m.repeat ≤ 1000000
  pub watches : length m.watches ≤ 64
  pub each_watch : AreWatches m.watches

abbrev pub ManifestsAreReasonable : Type 0
ManifestsAreReasonable = (text : Text) (m : Manifest) → manifest_of text ≡ Ok m → Reasonable m

abbrev pub TreeManifestsAreReasonable : Type 0
TreeManifestsAreReasonable = (text : Text) (m : Manifest) → tree_manifest_of text ≡ Ok m → Reasonable m

-- no argument of a start line has a zero byte
abbrev pub StartsAreClear : Type 0
StartsAreClear = (text : Text) (m : Manifest) → manifest_of text ≡ Ok m → AllByRecursion HasClearArguments m.starts
