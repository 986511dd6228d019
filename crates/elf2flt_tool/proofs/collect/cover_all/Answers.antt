use Rattle.std.proofs.Common.{◌≡◌, ◌<◌, ◌∙◌, inl, inr, sym, subst, ℕ, arith}
use Rattle.std.proofs.lemmas.Result.{err_from_is_err_and}
use Rattle.elf32_reader.specs.Header.{count_of}
use Rattle.flat_layout.specs.Layout.{layout}
use Rattle.flat_layout.proofs.Facts.{size_le}
use Rattle.elf2flt_tool.specs.Fault.{section_fault}
use Rattle.elf2flt_tool.specs.Walk.{IsFound}
use Rattle.elf2flt_tool.proofs.Entries.{section_fault-other, relocs_fault-is}
use Rattle.elf2flt_tool.proofs.Walked.{first_zero, first_more, first_found, section_passed}
use Rattle.elf2flt_tool.proofs.collect.cover_all.Goals as goal
use Rattle.elf2flt_tool.proofs.collect.cover_all.Goals.{then-kept+in_ok-add_section, else-kept}

pub overflow_add-layout : goal.overflow_add-layout
overflow_add-layout c =
    let small = size_le c.walk.inside.elf.now c.walk.invariant.numbers in
    rw c.walk.invariant.layout (omega arith)

pub loop-section-init : goal.loop-section-init
loop-section-init c = record {
  none = first_zero _;
  found = rw (c.walk.invariant.layout, c.walk.view_is) at (c.new-cover.ensures (layout c.walk.inside.elf.now));
}

pub returns-in_err-add_section : goal.returns-in_err-add_section
returns-in_err-add_section c =
    let e = c.args.walk.now in
    let p = err_from_is_err_and c.from_residual.result c.from_residual.ensures.1 in
    let count = rw c.walk.view_is at c.sections-section-end.ensures.count in
    let below : c.loop-section.section < count_of e = omega (arith, count) in
    rw (p.1, p.2) (elim c.in_err-add_section.ensures [
      | inl memory ↦ inl memory
      | inr fault ↦ inr (relocs_fault-is e ∙ first_found (section_fault e) (count_of e) c.loop-section.section _ below c.loop-section.invariant.none fault)
    ])

pub loop-section-preserved : goal.loop-section-preserved
loop-section-preserved c =
    let e = c.args.walk.now in
    let i = c.loop-section.section in
    elim c.if-kept.branch [
      | then-kept+in_ok-add_section w ↦ record {
        none = first_more (section_fault e) i c.loop-section.invariant.none w.in_ok-add_section.ensures.0;
        found = rw w.cover-is w.in_ok-add_section.ensures.1;
      }
      | else-kept w ↦ (
          let other = rw c.walk.view_is at (sym c.kept.ensures ∙ w.if-kept.false) in
          record {
            none = first_more (section_fault e) i c.loop-section.invariant.none (section_fault-other e i other);
            found = rw w.cover-is (section_passed e i c.loop-section.cover other c.loop-section.invariant.found);
          })
    ]

pub returns : goal.returns
returns c =
    let e = c.args.walk.now in
    let count = rw c.walk.view_is at c.sections-section-end.ensures.count in
    let all : c.loop-section.section ≡ count_of e = omega (arith, count) in
    let P : ℕ → Type 0 = λ i. IsFound e i 0 c.loop-section.cover in
    (relocs_fault-is e ∙ (rw all at c.loop-section.invariant.none), subst P all c.loop-section.invariant.found)
