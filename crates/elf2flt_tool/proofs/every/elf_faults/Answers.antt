use Rattle.std.proofs.Common.{◌∙◌, ◌++◌, ◌∷◌, [], ap, sym}
use Rattle.std.specs.Option.{is_some}
use Rattle.elf2flt_tool.specs.Faults.{elf_in}
use Rattle.elf2flt_tool.proofs.NotedSteps.{header_only, sections_only, section_list}
use Rattle.elf2flt_tool.proofs.every.elf_faults.Goals as goal

pub section_faults-requires : goal.section_faults-requires
section_faults-requires c =
    let there = ap is_some (sym c.in-Some.is) ∙ c.of.ensures.there in
    rw c.in-Some.ensures.value (sections_only c.args.bytes.now c.args.fault c.requires there)

pub returns-in_ok-faults-in-Some : goal.returns-in_ok-faults-in-Some
returns-in_ok-faults-in-Some c =
    let there = ap is_some (sym c.in-Some.is) ∙ c.of.ensures.there in
    (rw c.in-Some.ensures.value at c.in_ok-faults-in-Some.ensures) ∙ section_list c.args.bytes.now c.args.fault c.requires there

pub returns-in_ok-push-in-None : goal.returns-in_ok-push-in-None
returns-in_ok-push-in-None c =
    let there = ap is_some (sym c.in-None.is) ∙ c.of.ensures.there in
    c.in_ok-push-in-None.ensures.items ∙ ap (λ fs. fs ++ elf_in c.args.fault 0 ∷ []) c.new-faults.ensures.items
    ∙ header_only c.args.bytes.now c.args.fault c.requires there
