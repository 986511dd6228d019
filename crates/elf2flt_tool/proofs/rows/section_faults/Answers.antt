use Rattle.std.proofs.Common.{◌≡◌, ◌∙◌, ℕ, List, [], ◌∷◌, Bool, true, false, Some, map, filter, refl, ap, arith}
use Rattle.std.specs.List.{range_with_len}
use Rattle.byte_words.specs.Search.{any_below, first}
use Rattle.elf32_reader.specs.declared.fault.ElfFault.{ElfFault}
use Rattle.elf32_reader.specs.declared.fault.ElfFault.TheVariants.{SectionRange, SymbolRange, RelaShape}
use Rattle.elf32_reader.specs.Header.{count_of}
use Rattle.elf32_reader.specs.Faults.{passes_end, section_fault}
use Rattle.elf32_reader.specs.Heads.{row_holds, IsInFile}
use Rattle.elf2flt_tool.specs.Faults.{elf_in, row_of}
use Rattle.elf2flt_tool.proofs.NotedSteps.{row_more}
use Rattle.elf2flt_tool.proofs.rows.section_faults.Goals as goal

-- a later row is the first one only where row 10 holds of no section
rows_in : (e : List ℕ) (f : ElfFault) (a b c : Bool) → any_below (passes_end e) (count_of e) ≡ a → first ((a, SectionRange) ∷ (b, SymbolRange) ∷ (c, RelaShape) ∷ []) ≡ Some f → IsInFile (row_of f) e
rows_in e SectionRange true b c is some = λ later. absurd (omega arith)
rows_in e f true b c is some = λ later. absurd cc
rows_in e f false b c is some = λ later. is

in_file : (e : List ℕ) (f : ElfFault) → section_fault e ≡ Some f → IsInFile (row_of f) e
unfolding section_fault
in_file e f some = rows_in e f _ _ _ refl some

pub add_head-requires-clause-in_file : goal.add_head-requires-clause-in_file
add_head-requires-clause-in_file c = rw c.row_of-row.ensures.value (in_file c.args.heads.now c.args.fault c.requires)

pub loop-section-preserved : goal.loop-section-preserved
loop-section-preserved c =
    row_more (elf_in c.args.fault) (row_holds c.row_of-row.result c.args.heads.now) c.loop-section.section [] c.loop-section.faults.items _ c.loop-section.invariant c.in_ok-add_head.ensures

pub returns : goal.returns
returns c =
    let all : c.loop-section.section ≡ count_of c.args.heads.now = omega (arith, c.sections-section-end.ensures) in
    c.loop-section.invariant
    ∙ ap (λ n. map (elf_in c.args.fault) (filter (row_holds c.row_of-row.result c.args.heads.now) (range_with_len 0 n))) all
    ∙ ap (λ r. map (elf_in c.args.fault) (filter (row_holds r c.args.heads.now) (range_with_len 0 (count_of c.args.heads.now)))) c.row_of-row.ensures.value
