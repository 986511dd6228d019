use Rattle.std.proofs.Common.{◌∙◌, ◌++◌, ◌∷◌, [], map, ap, sym, if◌then◌else◌}
use Rattle.flat_layout.specs.declared.fault.LayoutFault.TheVariants.{NoSections, TooLarge, Dynamic, Tls, EntryOutside}
use Rattle.flat_layout.specs.Fault.{is_entry_outside}
use Rattle.flat_layout.specs.Rows.{row_holds}
use Rattle.elf2flt_tool.specs.Faults.{layout_in, overlap_in, sections_with}
use Rattle.elf2flt_tool.proofs.NotedSteps.{no_sections, rows_listed}
use Rattle.elf2flt_tool.proofs.rows.layout_faults.Goals as goal

pub returns-then-not-has_sections : goal.returns-then-not-has_sections
returns-then-not-has_sections c =
    c.in_ok-push.ensures.items ∙ ap (λ fs. fs ++ layout_in NoSections 0 ∷ []) c.new-faults.ensures.items
    ∙ no_sections c.args.elf.now (sym c.has_sections.ensures ∙ c.if-not-has_sections.true)

pub returns : goal.returns
returns c =
    let e = c.args.elf.now in
    c.in_ok-add_outside.ensures
    ∙ ap (λ fs. fs ++ (if is_entry_outside e then layout_in EntryOutside 0 ∷ [] else []))
    (c.in_ok-add_row-3.ensures
    ∙ ap (λ fs. fs ++ map (layout_in Tls) (sections_with (row_holds 5 e) e))
    (c.in_ok-add_row-2.ensures
    ∙ ap (λ fs. fs ++ map (layout_in Dynamic) (sections_with (row_holds 4 e) e))
    (c.in_ok-add_overlapping.ensures
    ∙ ap (λ fs. fs ++ map (overlap_in e) (sections_with (row_holds 3 e) e))
    (c.in_ok-add_row.ensures ∙ ap (λ fs. fs ++ map (layout_in TooLarge) (sections_with (row_holds 2 e) e)) c.new-faults.ensures.items))))
    ∙ rows_listed e (sym c.has_sections.ensures ∙ c.if-not-has_sections.false)
