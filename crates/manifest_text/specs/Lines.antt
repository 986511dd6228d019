-- What a line says by itself, or its first fault.
use Rattle.std.specs.Prelude.{ℕ, ◌+◌, ◌-◌, ◌^◌, ◌==◌, Bool, not, ◌&&◌, nat_le, nat_lt, if◌then◌else◌, List, [], ◌∷◌, map, codes, bytes_eq, slice_index, Option, Some, None, Result, Ok, Err}
use Rattle.std.specs.List.{list_any, list_all}
use Rattle.byte_words.specs.Search.{first}
use Rattle.quantum_sched.specs.declared.Quantum.{Quantum}
use Rattle.manifest_text.specs.declared.fault.ManifestFault.{ManifestFault}
use Rattle.manifest_text.specs.declared.fault.ManifestFault.TheVariants.{BadByte, UnknownWord, WordCount, BadNumber, BadPath}
use Rattle.manifest_text.specs.declared.keyword.Keyword.{Keyword}
use Rattle.manifest_text.specs.declared.keyword.Keyword.TheVariants as keyword
use Rattle.manifest_text.specs.declared.manifest.ItemKind.{ItemKind}
use Rattle.manifest_text.specs.declared.manifest.ItemKind.TheVariants.{Elf, Flat, File, Dir, Stdin, Root}
use Rattle.manifest_text.specs.declared.manifest.Dump.{Dump}
use Rattle.manifest_text.specs.declared.manifest.WatchLine.{WatchLine}
use Rattle.manifest_text.specs.Values.{Item, Start}
use Rattle.manifest_text.specs.Pieces.{Text, words}
use Rattle.manifest_text.specs.Numbers.{decimal_value, is_number_in, number_in, address, is_quantum, quantum_value}
use Rattle.manifest_text.specs.Paths.{is_path}

-- a line with its number, from 1
pub record Line : Type 0 where
  pub number : ℕ
  pub text : Text

pub data Said : Type 0 where
  nothing : Said
  memory : ℕ → Said
  item : Item → Said
  start : Start → Said
  quanta : List Quantum → Said
  repeat : ℕ → Said
  dump : Dump → Said
  watch : WatchLine → Said

-- outside 0x20 to 0x7e
abbrev pub is_bad_byte : ℕ → Bool
is_bad_byte b = not (nat_le 32 b && nat_le b 126)

-- the twelve words that a line may begin with
unfoldable pub keyword_of : Text → Option Keyword
keyword_of word =
    if bytes_eq word (codes "memory") then Some keyword.Memory
    else if bytes_eq word (codes "elf") then Some keyword.Elf
    else if bytes_eq word (codes "flat") then Some keyword.Flat
    else if bytes_eq word (codes "file") then Some keyword.File
    else if bytes_eq word (codes "dir") then Some keyword.Dir
    else if bytes_eq word (codes "stdin") then Some keyword.Stdin
    else if bytes_eq word (codes "root") then Some keyword.Root
    else if bytes_eq word (codes "start") then Some keyword.Start
    else if bytes_eq word (codes "quanta") then Some keyword.Quanta
    else if bytes_eq word (codes "repeat") then Some keyword.Repeat
    else if bytes_eq word (codes "dump") then Some keyword.Dump
    else if bytes_eq word (codes "watch") then Some keyword.Watch
    else None

-- the first row that holds is the fault, and where none does the line says this
abbrev pub judged : List (Bool × ManifestFault) → Said → Result Said ManifestFault
judged rows said = by_fault (first rows)
  where
    by_fault : Option ManifestFault → Result Said ManifestFault
    by_fault (Some fault) = Err fault
    by_fault None = Ok said

-- `memory PAGES`
unfoldable pub memory_said : List Text → Result Said ManifestFault
memory_said (pages ∷ []) = judged ((not (is_number_in 1 16384 pages), BadNumber) ∷ []) (memory (decimal_value pages))
memory_said _ = Err WordCount

-- what stands at a path
abbrev pub item_said : ℕ → ItemKind → Text → Text → ℕ → Result Said ManifestFault
item_said line kind path name stack = judged
    ((not (is_path path), BadPath) ∷ [])
    (item (record { line = line; kind = kind; path = path; name = name; stack = stack }))

abbrev pub stacked_said : ℕ → Text → Text → Option ℕ → Result Said ManifestFault
stacked_said line path name (Some stack) = item_said line Elf path name stack
stacked_said line path name None = Err BadNumber

-- `elf PATH NAME [STACK]`
unfoldable pub elf_said : ℕ → List Text → Result Said ManifestFault
elf_said line (path ∷ name ∷ []) = item_said line Elf path name 4096
elf_said line (path ∷ name ∷ stack ∷ []) = stacked_said line path name (number_in 16 1048576 stack)
elf_said line _ = Err WordCount

-- `flat PATH NAME`
unfoldable pub flat_said : ℕ → List Text → Result Said ManifestFault
flat_said line (path ∷ name ∷ []) = item_said line Flat path name 0
flat_said line _ = Err WordCount

-- `file PATH NAME`
unfoldable pub file_said : ℕ → List Text → Result Said ManifestFault
file_said line (path ∷ name ∷ []) = item_said line File path name 0
file_said line _ = Err WordCount

-- `dir PATH`: a folder has no file of the host
unfoldable pub dir_said : ℕ → List Text → Result Said ManifestFault
dir_said line (path ∷ []) = item_said line Dir path [] 0
dir_said line _ = Err WordCount

-- `stdin NAME` and `root NAME`: the console's input has no path, and the nodes of an image have their own
unfoldable pub named_said : ℕ → ItemKind → List Text → Result Said ManifestFault
named_said line kind (name ∷ []) = Ok (item (record { line = line; kind = kind; path = []; name = name; stack = 0 }))
named_said line kind _ = Err WordCount

-- `start PATH`, then any number of words
unfoldable pub start_said : ℕ → List Text → Result Said ManifestFault
start_said line [] = Err WordCount
start_said line (path ∷ args) = judged ((not (is_path path), BadPath) ∷ []) (start (record { line = line; args = path ∷ args }))

-- `quanta`, then one or more words `K:N`
unfoldable pub quanta_said : List Text → Result Said ManifestFault
quanta_said [] = Err WordCount
quanta_said (q ∷ qs) = judged ((not (list_all is_quantum (q ∷ qs)), BadNumber) ∷ []) (quanta (map quantum_value (q ∷ qs)))

-- `repeat COUNT`
unfoldable pub repeat_said : List Text → Result Said ManifestFault
repeat_said (count ∷ []) = judged ((not (is_number_in 1 1000000 count), BadNumber) ∷ []) (repeat (decimal_value count))
repeat_said _ = Err WordCount

abbrev pub dump_of : Option ℕ → Option ℕ → Option ℕ → Result Said ManifestFault
dump_of (Some pid) (Some addr) (Some len) = Ok (dump (record { pid = pid; addr = addr; len = len }))
dump_of _ _ _ = Err BadNumber

-- `dump PID ADDR LEN`
unfoldable pub dump_said : List Text → Result Said ManifestFault
dump_said (pid ∷ addr ∷ len ∷ []) = dump_of (number_in 1 1000000 pid) (address addr) (number_in 1 4096 len)
dump_said _ = Err WordCount

-- a range, which doesn't pass the last byte that has an address
abbrev pub watch_of : Option ℕ → Option ℕ → Result Said ManifestFault
watch_of (Some addr) (Some len) = judged ((nat_lt (2 ^ 32) (addr + len), BadNumber) ∷ []) (watch (record { addr = addr; len = len }))
watch_of _ _ = Err BadNumber

-- `watch ADDR LEN`
unfoldable pub watch_said : List Text → Result Said ManifestFault
watch_said (addr ∷ len ∷ []) = watch_of (address addr) (number_in 1 (2 ^ 32 - 1) len)
watch_said _ = Err WordCount

-- by the line's first word, from the words behind it
unfoldable pub keyword_said : ℕ → Option Keyword → List Text → Result Said ManifestFault
keyword_said line None args = Err UnknownWord
keyword_said line (Some keyword.Memory) args = memory_said args
keyword_said line (Some keyword.Elf) args = elf_said line args
keyword_said line (Some keyword.Flat) args = flat_said line args
keyword_said line (Some keyword.File) args = file_said line args
keyword_said line (Some keyword.Dir) args = dir_said line args
keyword_said line (Some keyword.Stdin) args = named_said line Stdin args
keyword_said line (Some keyword.Root) args = named_said line Root args
keyword_said line (Some keyword.Start) args = start_said line args
keyword_said line (Some keyword.Quanta) args = quanta_said args
keyword_said line (Some keyword.Repeat) args = repeat_said args
keyword_said line (Some keyword.Dump) args = dump_said args
keyword_said line (Some keyword.Watch) args = watch_said args

abbrev pub hash : ℕ
hash = 35

-- a line without words, and one whose first word begins with `#`, mean nothing, whatever their bytes
unfoldable pub words_said : Line → List Text → Result Said ManifestFault
words_said line [] = Ok nothing
words_said line (word ∷ args) =
    if slice_index word 0 == hash then Ok nothing
    else if list_any is_bad_byte line.text then Err BadByte
    else keyword_said line.number (keyword_of word) args

unfoldable pub line_said : Line → Result Said ManifestFault
line_said line = words_said line (words line.text)
