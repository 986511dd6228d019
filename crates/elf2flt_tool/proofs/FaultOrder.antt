-- When each fault of a file comes.
use Rattle.std.proofs.Common.{◌≡◌, ℕ, List, Some, None, ap, ◌∙◌}
use Rattle.std.specs.Option.{option_map, option_or}
use Rattle.elf32_reader.specs.declared.fault.ElfFault.{ElfFault}
use Rattle.elf32_reader.specs.Faults.{elf_fault}
use Rattle.flat_layout.specs.declared.fault.LayoutFault.{LayoutFault}
use Rattle.flat_layout.specs.Layout.{layout}
use Rattle.flat_layout.specs.Fault.{layout_fault}
use Rattle.elf2flt_tool.specs.declared.refusal.Refusal.{Refusal}
use Rattle.elf2flt_tool.specs.declared.refusal.Refusal.TheVariants as refusals
use Rattle.elf2flt_tool.specs.Word.{target_outside, word_overlap}
use Rattle.elf2flt_tool.specs.Fault.{address_of, relocs_fault, target_fault, overlap_fault, words_fault, fault_from_layout, fault_from_elf, fault}
use Rattle.elf2flt_tool.proofs.Recorded.{IsClear}

pub fault-elf : (e : List ℕ) (f : ElfFault) → elf_fault e ≡ Some f → fault e ≡ Some (refusals.Elf f)
unfolding fault
fault-elf e f is = ap (fault_from_elf e) is

pub fault-layout : (e : List ℕ) (f : LayoutFault) → elf_fault e ≡ None → layout_fault e ≡ Some f → fault e ≡ Some (refusals.Layout f)
unfolding fault
fault-layout e f clear is = ap (fault_from_elf e) clear ∙ ap (fault_from_layout e) is

fault-words : (e : List ℕ) → elf_fault e ≡ None → layout_fault e ≡ None → fault e ≡ words_fault e
unfolding fault
fault-words e clear laid = ap (fault_from_elf e) clear ∙ ap (fault_from_layout e) laid

pub fault-relocs : (e : List ℕ) (f : Refusal) → elf_fault e ≡ None → layout_fault e ≡ None → relocs_fault e ≡ Some f → fault e ≡ Some f
fault-relocs e f clear laid is = fault-words e clear laid ∙ ap (λ x. option_or x (option_or (target_fault e) (overlap_fault e))) is

pub fault-target : (e : List ℕ) (n : ℕ) → elf_fault e ≡ None → layout_fault e ≡ None → relocs_fault e ≡ None → target_outside e ≡ Some n
    → fault e ≡ Some (refusals.TargetOutside (address_of (layout e) n))
unfolding target_fault
fault-target e n clear laid none is =
    fault-words e clear laid ∙ ap (λ x. option_or x (option_or (target_fault e) (overlap_fault e))) none
    ∙ ap (λ x. option_or (option_map (λ n. refusals.TargetOutside (address_of (layout e) n)) x) (overlap_fault e)) is

pub fault-overlap : (e : List ℕ) (n : ℕ) → elf_fault e ≡ None → layout_fault e ≡ None → relocs_fault e ≡ None → target_outside e ≡ None → word_overlap e ≡ Some n
    → fault e ≡ Some (refusals.WordOverlap (address_of (layout e) n))
unfolding target_fault overlap_fault
fault-overlap e n clear laid none inside is =
    fault-words e clear laid ∙ ap (λ x. option_or x (option_or (target_fault e) (overlap_fault e))) none
    ∙ ap (λ x. option_or (option_map (λ n. refusals.TargetOutside (address_of (layout e) n)) x) (overlap_fault e)) inside
    ∙ ap (option_map (λ n. refusals.WordOverlap (address_of (layout e) n))) is

pub fault-clear : (e : List ℕ) → IsClear e → fault e ≡ None
unfolding target_fault overlap_fault
fault-clear e is =
    fault-words e is.elf is.laid ∙ ap (λ x. option_or x (option_or (target_fault e) (overlap_fault e))) is.relocs
    ∙ ap (λ x. option_or (option_map (λ n. refusals.TargetOutside (address_of (layout e) n)) x) (overlap_fault e)) is.targets
    ∙ ap (option_map (λ n. refusals.WordOverlap (address_of (layout e) n))) is.apart
