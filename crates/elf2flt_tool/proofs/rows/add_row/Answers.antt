use Rattle.std.proofs.Common.{◌≡◌, ◌∙◌, ◌++◌, map, filter, ap, sym, arith, append-nil}
use Rattle.std.specs.List.{range_with_len}
use Rattle.elf32_reader.specs.Header.{count_of}
use Rattle.flat_layout.specs.Rows.{row_holds}
use Rattle.elf2flt_tool.specs.Faults.{layout_in}
use Rattle.elf2flt_tool.proofs.NotedSteps.{row_more}
use Rattle.elf2flt_tool.proofs.rows.add_row.Goals as goal

pub loop-section-init : goal.loop-section-init
loop-section-init c = sym (append-nil c.args.faults.now.items)

pub loop-section-preserved : goal.loop-section-preserved
loop-section-preserved c =
    row_more (layout_in c.args.fault) (row_holds c.args.row c.args.elf.now) c.loop-section.section c.args.faults.now.items c.loop-section.faults.items _ c.loop-section.invariant c.in_ok-add_section.ensures

pub returns : goal.returns
returns c =
    let all : c.loop-section.section ≡ count_of c.args.elf.now = omega (arith, c.sections-section-end.ensures.count) in
    c.loop-section.invariant
    ∙ ap (λ n. c.args.faults.now.items ++ map (layout_in c.args.fault) (filter (row_holds c.args.row c.args.elf.now) (range_with_len 0 n))) all
