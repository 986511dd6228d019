use Rattle.std.proofs.Common.{◌≡◌, ◌<◌, ◌∙◌, inl, inr, subst, ℕ, arith}
use Rattle.std.proofs.lemmas.Result.{err_from_is_err_and}
use Rattle.elf32_reader.specs.Relas.{rela_count}
use Rattle.elf2flt_tool.specs.Fault.{entry_fault}
use Rattle.elf2flt_tool.specs.Walk.{IsFound}
use Rattle.elf2flt_tool.proofs.Entries.{section_fault-kept}
use Rattle.elf2flt_tool.proofs.Walked.{first_zero, first_more, first_found, section_found}
use Rattle.elf2flt_tool.proofs.collect.add_section.Goals as goal

pub loop-entry-init : goal.loop-entry-init
loop-entry-init c = record { none = first_zero _; found = c.requires.found }

pub returns-in_err-add_entry : goal.returns-in_err-add_entry
returns-in_err-add_entry c =
    let e = c.args.walk.now in
    let i = c.args.section in
    let p = err_from_is_err_and c.from_residual-in_err-add_entry.result c.from_residual-in_err-add_entry.ensures.1 in
    let count = rw c.walk.view_is at c.relas-entry-end.ensures.count in
    let below : c.loop-entry.entry < rela_count e i = omega (arith, count) in
    rw (p.1, p.2) (elim c.in_err-add_entry.ensures [
      | inl memory ↦ inl memory
      | inr fault ↦ inr (section_fault-kept e i c.requires.kept ∙ first_found (entry_fault e i) (rela_count e i) c.loop-entry.entry _ below c.loop-entry.invariant.none fault)
    ])

pub loop-entry-preserved : goal.loop-entry-preserved
loop-entry-preserved c = record {
  none = first_more (entry_fault c.args.walk.now c.args.section) c.loop-entry.entry c.loop-entry.invariant.none c.in_ok-add_entry.ensures.0;
  found = c.in_ok-add_entry.ensures.1;
}

pub returns : goal.returns
returns c =
    let e = c.args.walk.now in
    let i = c.args.section in
    let count = rw c.walk.view_is at c.relas-entry-end.ensures.count in
    let all : c.loop-entry.entry ≡ rela_count e i = omega (arith, count) in
    let P : ℕ → Type 0 = λ j. IsFound e i j c.loop-entry.cover in (
      section_fault-kept e i c.requires.kept ∙ (rw all at c.loop-entry.invariant.none),
      section_found e i c.loop-entry.cover c.requires.kept (subst P all c.loop-entry.invariant.found),
    )
