-- What a step of the walk over the kept relocations asks and leaves.
use Rattle.std.proofs.Common.{◌≡◌, ℕ, ◌+◌, true, false, List, ◌++◌, Some, None, refl}
use Rattle.std.specs.List.{AllByRecursion as Each}
use Rattle.elf32_reader.specs.Header.{count_of}
use Rattle.elf32_reader.specs.Relas.{is_kept, rela_count}
use Rattle.flat_layout.specs.declared.layout.Layout.{Layout}
use Rattle.flat_layout.specs.Layout.{layout}
use Rattle.flat_layout.specs.Rows.{has_numbers}
use Rattle.psabi_relocs.specs.declared.fault.RelocFault.{RelocFault}
use Rattle.psabi_relocs.specs.declared.spans.Span.{Span}
use Rattle.psabi_relocs.specs.Effect.{spans}
use Rattle.psabi_relocs.specs.Fault.{reloc_fault}
use Rattle.elf2flt_tool.specs.declared.cover.Cover.{Cover}
use Rattle.elf2flt_tool.specs.declared.refusal.Refusal.TheVariants as refusals
use Rattle.elf2flt_tool.specs.Cover.{IsWord, IsInside, IsCover}
use Rattle.elf2flt_tool.specs.Fault.{first_some, entry_fault, section_fault, relocs_fault}
use Rattle.elf2flt_tool.proofs.Laid.{is_laid}
use Rattle.elf2flt_tool.proofs.Meeting.{entry_words}
use Rattle.elf2flt_tool.proofs.Shapes.{spans_entry, spans_inside}
use Rattle.elf2flt_tool.proofs.Walked.{IsAdded}

-- ---- faults

pub entry_accepted : (e : List ℕ) (i j : ℕ) → reloc_fault e i j ≡ None → entry_fault e i j ≡ None
unfolding entry_fault
entry_accepted e i j none = rw none refl

pub entry_refused : (e : List ℕ) (i j : ℕ) (f : RelocFault) → reloc_fault e i j ≡ Some f → entry_fault e i j ≡ Some (refusals.Reloc i j f)
unfolding entry_fault
entry_refused e i j f is = rw is refl

pub section_fault-kept : (e : List ℕ) (i : ℕ) → is_kept e i ≡ true → section_fault e i ≡ first_some (entry_fault e i) (rela_count e i)
unfolding section_fault
section_fault-kept e i kept = rw kept refl

pub section_fault-other : (e : List ℕ) (i : ℕ) → is_kept e i ≡ false → section_fault e i ≡ None
unfolding section_fault
section_fault-other e i other = rw other refl

pub relocs_fault-is : (e : List ℕ) → relocs_fault e ≡ first_some (section_fault e) (count_of e)
unfolding relocs_fault
relocs_fault-is e = refl

-- ---- an entry without a fault

pub entry_inside : (e : List ℕ) (i j : ℕ) (l : Layout) (n : ℕ) (ss : List Span) → l ≡ layout e → n ≡ (layout e).text + (layout e).data_len → spans e i j ≡ ss
    → has_numbers e ≡ true → is_kept e i ≡ true → reloc_fault e i j ≡ None → Each (IsInside l n) ss
entry_inside e i j l n ss laid size are none kept accepted =
    let is = is_laid e none in
    rw (laid, size, is.stored, ← are) (spans_inside e i j is kept accepted)

pub entry_lens : (e : List ℕ) (i j : ℕ) (ss : List Span) → spans e i j ≡ ss → Each IsWord ss
entry_lens e i j ss are = rw (← are) (entry_words (spans e i j) (spans_entry e i j))

pub entry_added : (e : List ℕ) (l : Layout) (ss : List Span) (before after : Cover) → l ≡ layout e
    → ((n : ℕ) (all : List Span) → IsCover l n all before → IsCover l n (all ++ ss) after)
    → IsAdded e ss before after
entry_added e l ss before after laid cover = rw (← laid) cover
