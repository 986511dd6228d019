-- What a text says as a manifest, or its first fault.
use Rattle.std.specs.Prelude.{ℕ, ◌+◌, ◌==◌, Bool, true, false, ◌&&◌, nat_le, nat_lt, List, [], ◌∷◌, ◌++◌, length, Option, Some, None, Result, Ok, Err}
use Rattle.std.specs.List.{list_any, filter_map, flat_map}
use Rattle.byte_words.specs.Search.{first}
use Rattle.quantum_sched.specs.declared.Quantum.{Quantum}
use Rattle.manifest_text.specs.declared.fault.ManifestFault.{ManifestFault}
use Rattle.manifest_text.specs.declared.fault.ManifestFault.TheVariants.{Repeated, TooMany, NoQuanta, NoStart}
use Rattle.manifest_text.specs.declared.manifest.ItemKind.{ItemKind}
use Rattle.manifest_text.specs.declared.manifest.ItemKind.TheVariants.{Stdin, Root}
use Rattle.manifest_text.specs.declared.manifest.Dump.{Dump}
use Rattle.manifest_text.specs.declared.manifest.WatchLine.{WatchLine}
use Rattle.manifest_text.specs.Values.{Item, Start, Manifest}
use Rattle.manifest_text.specs.Pieces.{Text, pieces, newline}
use Rattle.manifest_text.specs.Lines.{Line, Said, nothing, memory, item, start, quanta, repeat, dump, watch, line_said}

-- a fault of the line with this number; 0 is the manifest as a whole
pub record Fault : Type 0 where
  pub line : ℕ
  pub fault : ManifestFault

-- ---- what lines say together

abbrev pub pages_in : Said → Option ℕ
pages_in (memory pages) = Some pages
pages_in _ = None

abbrev pub item_in : Said → Option Item
item_in (item i) = Some i
item_in _ = None

abbrev pub start_in : Said → Option Start
start_in (start s) = Some s
start_in _ = None

abbrev pub quanta_in : Said → List Quantum
quanta_in (quanta qs) = qs
quanta_in _ = []

abbrev pub count_in : Said → Option ℕ
count_in (repeat count) = Some count
count_in _ = None

abbrev pub dump_in : Said → Option Dump
dump_in (dump d) = Some d
dump_in _ = None

abbrev pub watch_in : Said → Option WatchLine
watch_in (watch w) = Some w
watch_in _ = None

-- what is said by lines, each in its order
pub record Draft : Type 0 where
  pub pages : List ℕ
  pub items : List Item
  pub starts : List Start
  pub quanta : List Quantum
  pub counts : List ℕ
  pub dumps : List Dump
  pub watches : List WatchLine

unfoldable pub draft_of : List Said → Draft
draft_of saids = record {
  pages = filter_map pages_in saids;
  items = filter_map item_in saids;
  starts = filter_map start_in saids;
  quanta = flat_map quanta_in saids;
  counts = filter_map count_in saids;
  dumps = filter_map dump_in saids;
  watches = filter_map watch_in saids;
}

-- ---- the faults of a line behind others

abbrev pub is_stdin : ItemKind → Bool
is_stdin Stdin = true
is_stdin _ = false

abbrev pub is_root : ItemKind → Bool
is_root Root = true
is_root _ = false

-- the lines of these two kinds may stand once
abbrev pub repeats : List Item → ItemKind → Bool
repeats items Stdin = list_any (λ i. is_stdin i.kind) items
repeats items Root = list_any (λ i. is_root i.kind) items
repeats items _ = false

-- one stdin line, one root line, and 4096 lines of all six kinds
abbrev pub item_rows : List Item → ItemKind → List (Bool × ManifestFault)
item_rows items kind =
    ((repeats items kind, Repeated)
    ∷ (nat_le 4096 (length items), TooMany)
    ∷ [])

abbrev pub late_rows : Draft → Said → List (Bool × ManifestFault)
late_rows d nothing = []
late_rows d (memory pages) = (nat_lt 0 (length d.pages), Repeated) ∷ []
late_rows d (item i) = item_rows d.items i.kind
late_rows d (start s) = (nat_le 64 (length d.starts), TooMany) ∷ []
late_rows d (quanta qs) = (nat_lt 65536 (length d.quanta + length qs), TooMany) ∷ []
late_rows d (repeat count) = (nat_lt 0 (length d.counts), Repeated) ∷ []
late_rows d (dump x) = (nat_le 64 (length d.dumps), TooMany) ∷ []
late_rows d (watch w) = (nat_le 64 (length d.watches), TooMany) ∷ []

-- the first fault of what a line says
unfoldable pub late_fault : Draft → Said → Option ManifestFault
late_fault d said = first (late_rows d said)

-- the first fault of a line behind others
abbrev pub fault_in : Draft → Result Said ManifestFault → Option ManifestFault
fault_in d (Err fault) = Some fault
fault_in d (Ok said) = late_fault d said

-- ---- all lines

abbrev pub ok_said : Result Said ManifestFault → Option Said
ok_said (Ok said) = Some said
ok_said (Err fault) = None

-- what lines say that have no fault by themselves
unfoldable pub all_said : List Line → List Said
all_said lines = filter_map (λ line. ok_said (line_said line)) lines

abbrev pub or_later : ℕ → Option ManifestFault → Option Fault → Option Fault
or_later number (Some fault) later = Some (record { line = number; fault = fault })
or_later number None later = later

-- the first fault of lines behind others
unfoldable pub first_fault : List Line → List Line → Option Fault
first_fault before [] = None
first_fault before (line ∷ lines) =
    or_later line.number (fault_in (draft_of (all_said before)) (line_said line)) (first_fault (before ++ line ∷ []) lines)

-- ---- the manifest

abbrev pub first_or : ℕ → List ℕ → ℕ
first_or other [] = other
first_or other (n ∷ ns) = n

abbrev pub manifest_by : Draft → Manifest
manifest_by d = record {
  pages = first_or 256 d.pages;
  items = d.items;
  starts = d.starts;
  quanta = d.quanta;
  repeat = first_or 1 d.counts;
  dumps = d.dumps;
  watches = d.watches;
}

-- the faults of the manifest as a whole: each quanta line has a quantum
abbrev pub whole_rows : Draft → List (Bool × ManifestFault)
whole_rows d =
    ((nat_lt 0 (length d.starts) && length d.quanta == 0, NoQuanta)
    ∷ (length d.starts == 0, NoStart)
    ∷ [])

abbrev pub whole : Draft → Result Manifest Fault
whole d = by_fault (first (whole_rows d))
  where
    by_fault : Option ManifestFault → Result Manifest Fault
    by_fault (Some fault) = Err (record { line = 0; fault = fault })
    by_fault None = Ok (manifest_by d)

abbrev pub judged_lines : List Line → Option Fault → Result Manifest Fault
judged_lines lines (Some fault) = Err fault
judged_lines lines None = whole (draft_of (all_said lines))

-- texts as lines, from a number on
abbrev pub numbered : ℕ → List Text → List Line
numbered n [] = []
numbered n (text ∷ texts) = record { number = n; text = text } ∷ numbered (n + 1) texts

unfoldable pub lines_of : Text → List Line
lines_of text = numbered 1 (pieces newline text)

-- the manifest that the bytes spell, or their first fault
unfoldable pub manifest_of : Text → Result Manifest Fault
manifest_of text = judged_lines (lines_of text) (first_fault [] (lines_of text))

-- ---- a manifest for its tree alone

-- no start line and no quanta are asked for
abbrev pub judged_tree : List Line → Option Fault → Result Manifest Fault
judged_tree lines (Some fault) = Err fault
judged_tree lines None = Ok (manifest_by (draft_of (all_said lines)))

-- what the bytes spell, or the first fault of their lines
unfoldable pub tree_manifest_of : Text → Result Manifest Fault
tree_manifest_of text = judged_tree (lines_of text) (first_fault [] (lines_of text))
