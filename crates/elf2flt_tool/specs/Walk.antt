-- How far a walk over the kept relocations has come.
use Rattle.std.specs.Prelude.{◌≡◌, ℕ, ◌+◌, true, List, ◌++◌, map, flat_map, None}
use Rattle.std.specs.List.{range_with_len}
use Rattle.elf32_reader.specs.Accepted.{IsAccepted}
use Rattle.flat_layout.specs.declared.layout.Layout.{Layout}
use Rattle.flat_layout.specs.Layout.{layout}
use Rattle.flat_layout.specs.Fault.{layout_fault}
use Rattle.flat_layout.specs.Rows.{has_numbers}
use Rattle.psabi_relocs.specs.declared.stored.StoredSections.{StoredSections}
use Rattle.psabi_relocs.specs.Index.{AreStored}
use Rattle.psabi_relocs.specs.declared.spans.Span.{Span}
use Rattle.psabi_relocs.specs.Effect.{spans}
use Rattle.elf2flt_tool.specs.declared.cover.Cover.{Cover}
use Rattle.elf2flt_tool.specs.declared.overlap.Recorded.{Recorded}
use Rattle.elf2flt_tool.specs.declared.placed.Placed.{Placed}
use Rattle.elf2flt_tool.specs.Relocs.{spans_in}
use Rattle.elf2flt_tool.specs.Cover.{recorded_of, IsCover}
use Rattle.elf2flt_tool.specs.Word.{records, word_overlap}
use Rattle.elf2flt_tool.specs.Fault.{relocs_fault}
use Rattle.elf2flt_tool.specs.Image.{IsLinkedFile}

-- what a walk goes by: the bytes of the file e have numbers, and the layout and the index of stored sections are its own
pub record IsReady (e : List ℕ) (l : Layout) (s : StoredSections) : Type 0 where
  pub numbers : has_numbers e ≡ true
  pub layout : l ≡ layout e
  pub stored : AreStored e s

-- the bytes of the sections before section i, and of the first j entries of that, a list for each entry
abbrev pub spans_before : List ℕ → ℕ → ℕ → List (List Span)
spans_before e i j = flat_map (spans_in e) (range_with_len 0 i) ++ map (spans e i) (range_with_len 0 j)

-- the recorded words of these entries
abbrev pub recorded_before : List ℕ → ℕ → ℕ → List Recorded
recorded_before e i j = flat_map (recorded_of (layout e)) (spans_before e i j)

abbrev pub all_of : List (List Span) → List Span
all_of es = flat_map (λ ss. ss) es

-- what has been found in the entries es
abbrev pub IsFoundIn : List ℕ → List (List Span) → Cover → Type 0
IsFoundIn e es c = IsCover (layout e) ((layout e).text + (layout e).data_len) (all_of es) c

abbrev pub IsFound : List ℕ → ℕ → ℕ → Cover → Type 0
IsFound e i j c = IsFoundIn e (spans_before e i j) c

-- what is left of a walk over entries without a fault: where recorded words begin, and the least of these numbers whose word meets another entry
pub record IsPlaced (e : List ℕ) (p : Placed) : Type 0 where
  pub relocs : relocs_fault e ≡ None
  pub places : p.places.items ≡ records e
  pub met : p.met ≡ word_overlap e

-- a file whose sections and kept relocations have no fault, with what its flat file is made of: its layout, its linked bytes, and where these have recorded words
pub record IsPrepared (e : List ℕ) (l : Layout) (file : List ℕ) (p : Placed) : Type 0 where
  pub accepted : IsAccepted e
  pub no_fault : layout_fault e ≡ None
  pub layout : l ≡ layout e
  pub linked : IsLinkedFile e file
  pub placed : IsPlaced e p
