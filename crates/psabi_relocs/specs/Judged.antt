-- What the judgement of an entry stands on.
use Rattle.std.specs.Prelude.{◌≡◌, ℕ, true, List, Option, None, Some, IfSome, Result, MatchResult, if◌then◌else◌}
use Rattle.std.specs.Option.{option_map}
use Rattle.elf32_reader.specs.Accepted.{IsAccepted}
use Rattle.elf32_reader.specs.Relas.{is_kept}
use Rattle.flat_layout.specs.Rows.{has_numbers}
use Rattle.psabi_relocs.specs.declared.pairs.Pairs.{Pairs}
use Rattle.psabi_relocs.specs.declared.stored.StoredSections.{StoredSections}
use Rattle.psabi_relocs.specs.declared.reloc.Reloc.{Reloc}
use Rattle.psabi_relocs.specs.declared.slot.Slot.{Slot}
use Rattle.psabi_relocs.specs.declared.high.HighPart.{HighPart}
use Rattle.psabi_relocs.specs.Reloc.{reloc}
use Rattle.psabi_relocs.specs.Pair.{own_high}
use Rattle.psabi_relocs.specs.Slot.{own_slot, slot_section}
use Rattle.psabi_relocs.specs.declared.fault.RelocFault.{RelocFault}
use Rattle.psabi_relocs.specs.declared.judgement.Checked.{Checked}
use Rattle.psabi_relocs.specs.Row.{is_mark}
use Rattle.psabi_relocs.specs.Fault.{first_fault}
use Rattle.psabi_relocs.specs.Effect.{effect_of, spans_of, listed}
use Rattle.psabi_relocs.specs.Firsts.{high_part}
use Rattle.psabi_relocs.specs.Index.{AreStored, IsPairs}

-- section `section` of the file e
pub record SectionOfFile : Type 0 where
  pub file : List ℕ
  pub section : ℕ

-- the section is kept, in a file that was read and whose bytes have numbers, and the indexes are those of the file and of the section
pub record IsIndexed (e : List ℕ) (i : ℕ) (s : StoredSections) (p : Pairs) : Type 0 where
  pub accepted : IsAccepted e
  pub kept : is_kept e i ≡ true
  pub numbers : has_numbers e ≡ true
  pub stored : AreStored e s
  pub pairs : IsPairs e i p

-- an entry of section `section` of the file e
pub record Judged : Type 0 where
  pub file : List ℕ
  pub section : ℕ
  pub reloc : Reloc

-- h is what the entry r needs of its pair, and g its slot with the section that holds it
pub record IsLinked (e : List ℕ) (i : ℕ) (r : Reloc) (h : Option HighPart) (g : Option Slot) : Type 0 where
  pub high : h ≡ option_map (λ j. high_part (reloc e i j)) (own_high e i r)
  pub slot : option_map (λ slot. slot.address) g ≡ own_slot e i r
  pub section : IfSome g (λ slot. slot.section ≡ slot_section e slot.address)

-- the answer for the entry r: its first fault, if it is no mark, or what it asks of a loader and its bytes
abbrev pub Judges : List ℕ → ℕ → Reloc → Result Checked RelocFault → Type 0
Judges e i r result = MatchResult result
    (λ checked. ((if is_mark r.row then None else first_fault e i r) ≡ None) × (checked.effect ≡ effect_of e i r) × (listed checked.spans ≡ spans_of e i r))
    (λ fault. (if is_mark r.row then None else first_fault e i r) ≡ Some fault)
