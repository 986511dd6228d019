-- What the code's reading says: the manifest so far, a line, and its answers.
use Rattle.std.specs.Prelude.{◌≡◌, ℕ, List, [], ◌∷◌, ◌++◌, map, Option, Some, None, Result, Ok, Err, ⊤}
use Rattle.manifest_text.specs.declared.fault.ManifestFault.{ManifestFault}
use Rattle.manifest_text.specs.declared.fault.ManifestRefusal.{ManifestRefusal}
use Rattle.manifest_text.specs.declared.fault.ManifestRefusal.TheVariants.{At, Memory}
use Rattle.manifest_text.specs.declared.spoken.Spoken.{Spoken}
use Rattle.manifest_text.specs.declared.spoken.Spoken.TheVariants as spoken
use Rattle.manifest_text.specs.declared.draft.Draft.{Draft as Stored}
use Rattle.manifest_text.specs.declared.manifest.Manifest.{Manifest as StoredManifest}
use Rattle.manifest_text.specs.Values.{Manifest, item_value, start_value, manifest_value}
use Rattle.manifest_text.specs.Lines.{Line, line_said, Said, nothing, memory, item, start, quanta, repeat, dump, watch}
use Rattle.manifest_text.specs.Manifest.{Fault, Draft, draft_of, fault_in, all_said, first_fault}

abbrev pub said_value : Spoken → Said
said_value spoken.Nothing = nothing
said_value (spoken.Memory pages) = memory pages
said_value (spoken.Item i) = item (item_value i)
said_value (spoken.Start s) = start (start_value s)
said_value (spoken.Quanta qs) = quanta qs.items
said_value (spoken.Repeat count) = repeat count
said_value (spoken.Dump d) = dump d
said_value (spoken.Watch w) = watch w

abbrev pub listed : Option ℕ → List ℕ
listed None = []
listed (Some n) = n ∷ []

abbrev pub draft_value : Stored → Draft
draft_value d = record {
  pages = listed d.pages;
  items = map item_value d.items.items;
  starts = map start_value d.starts.items;
  quanta = d.quanta.items;
  counts = listed d.count;
  dumps = d.dumps.items;
  watches = d.watches.items;
}

-- the answer for a line of this number: what is said, or that fault, or no answer for want of memory
abbrev pub Says : ℕ → Result Said ManifestFault → Result Spoken ManifestRefusal → Type 0
Says line said (Ok s) = said ≡ Ok (said_value s)
Says line said (Err (At n fault)) = (n ≡ line) × (said ≡ Err fault)
Says line said (Err Memory) = Unit {0}

-- the manifest so far with what one more line says: the first of a kind, where a kind may stand once
abbrev pub added : Draft → Said → Draft
added d nothing = d
added d (memory pages) = record d { pages = pages ∷ [] }
added d (item i) = record d { items = d.items ++ i ∷ [] }
added d (start s) = record d { starts = d.starts ++ s ∷ [] }
added d (quanta qs) = record d { quanta = d.quanta ++ qs }
added d (repeat count) = record d { counts = count ∷ [] }
added d (dump x) = record d { dumps = d.dumps ++ x ∷ [] }
added d (watch w) = record d { watches = d.watches ++ w ∷ [] }

abbrev pub added_line : Draft → Result Said ManifestFault → Draft
added_line d (Ok said) = added d said
added_line d (Err fault) = d

abbrev pub AddsLine : Draft → Line → Draft → Result ⊤ ManifestRefusal → Type 0
AddsLine old line new (Ok done) = (fault_in old (line_said line) ≡ None) × (new ≡ added_line old (line_said line))
AddsLine old line new (Err (At n fault)) = (n ≡ line.number) × (fault_in old (line_said line) ≡ Some fault)
AddsLine old line new (Err Memory) = Unit {0}

-- the answer for all lines
abbrev pub Drafts : List Line → Result Stored ManifestRefusal → Type 0
Drafts lines (Ok d) = (first_fault [] lines ≡ None) × (draft_value d ≡ draft_of (all_said lines))
Drafts lines (Err (At n fault)) = first_fault [] lines ≡ Some (record { line = n; fault = fault })
Drafts lines (Err Memory) = Unit {0}

-- the answer for a whole text
abbrev pub Reads : Result Manifest Fault → Result StoredManifest ManifestRefusal → Type 0
Reads manifest (Ok m) = manifest ≡ Ok (manifest_value m)
Reads manifest (Err (At line fault)) = manifest ≡ Err (record { line = line; fault = fault })
Reads manifest (Err Memory) = Unit {0}
