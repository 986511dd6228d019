-- What is known of the faults of a file, and of what they speak of: sections, entries and symbols of that file.
use Rattle.std.specs.Prelude.{◌≡◌, ℕ, ◌<◌, true, List, length, slice_get, Option, Some}
use Rattle.elf32_reader.specs.Header.{count_of}
use Rattle.elf32_reader.specs.Symbols.{is_symtab, symbol_count}
use Rattle.elf32_reader.specs.Relas.{is_kept, rela_count}
use Rattle.elf32_reader.specs.Faults.{section_fault}
use Rattle.elf32_reader.specs.Accepted.{IsAccepted}
use Rattle.psabi_relocs.specs.declared.around.Spot.{Spot}
use Rattle.psabi_relocs.specs.Spots.{IsAroundOf}
use Rattle.elf2flt_tool.specs.declared.fault.Fault.{Fault}
use Rattle.elf2flt_tool.specs.declared.fault.Fault.TheVariants as every
use Rattle.fault_texts.specs.declared.counts.Subject.{Subject}
use Rattle.fault_texts.specs.declared.counts.Count.{Count}

-- entry j of the kept section i
abbrev pub IsEntry : List ℕ → ℕ → ℕ → Type 0
IsEntry e i j = (is_kept e i ≡ true) × (j < rela_count e i)

-- a fault of a file that was read
abbrev pub IsOfRead : List ℕ → Fault → Type 0
IsOfRead e (every.Elf f i j) = ⊥
IsOfRead e (every.Layout f i j) = (i < count_of e) × (j < count_of e)
IsOfRead e (every.Reloc i j f) = IsEntry e i j
IsOfRead e (every.TargetOutside p i j) = IsEntry e i j
IsOfRead e (every.WordOverlap p i j) = IsEntry e i j

abbrev pub AreOfRead : List ℕ → List Fault → Type 0
AreOfRead e fs = (k : ℕ) (f : Fault) → slice_get fs k ≡ Some f → IsOfRead e f

-- a fault of section headers
abbrev pub IsOfHeads : List ℕ → Fault → Type 0
IsOfHeads e (every.Elf f i j) = (section_fault e ≡ Some f) × (i < count_of e)
IsOfHeads e (every.Layout f i j) = ⊥
IsOfHeads e (every.Reloc i j f) = ⊥
IsOfHeads e (every.TargetOutside p i j) = ⊥
IsOfHeads e (every.WordOverlap p i j) = ⊥

abbrev pub AreOfHeads : List ℕ → List Fault → Type 0
AreOfHeads e fs = (k : ℕ) (f : Fault) → slice_get fs k ≡ Some f → IsOfHeads e f

-- a symbol of a table, and a section
pub record IsSubject (e : List ℕ) (s : Subject) : Type 0 where
  pub table : is_symtab e s.table ≡ true
  pub symbol : s.symbol < symbol_count e s.table
  pub section : s.section < count_of e

abbrev pub AreCounted : List ℕ → List Count → Type 0
AreCounted e cs = (k : ℕ) (c : Count) → slice_get cs k ≡ Some c → IsSubject e c.subject

-- of a file that was read, a place for each section; at that of a table of symbols there may be its index
pub record AreTables (e : List ℕ) (ts : List (Option (List Spot))) : Type 0 where
  pub accepted : IsAccepted e
  pub all : length ts ≡ count_of e
  pub each : (t : ℕ) (ss : List Spot) → slice_get ts t ≡ Some (Some ss) → IsAroundOf e t ss

-- the index of table t is there
pub record HasTable (ts : List (Option (List Spot))) (t : ℕ) : Type 0 where
  pub spots : List Spot
  pub there : slice_get ts t ≡ Some (Some spots)
