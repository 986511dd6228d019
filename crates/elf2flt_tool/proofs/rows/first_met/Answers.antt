use Rattle.std.proofs.Common.{◌<◌, ℕ, Bool, ap, sym, arith}
use Rattle.elf32_reader.specs.Sections.{section}
use Rattle.flat_layout.specs.Fault.{meets}
use Rattle.psabi_relocs.proofs.IndexSearches.{first_below_zero}
use Rattle.elf2flt_tool.specs.Faults.{found_or_0}
use Rattle.elf2flt_tool.proofs.NotedSteps.{first_found, first_later}
use Rattle.elf2flt_tool.proofs.rows.first_met.Goals as goal

pub loop-other-init : goal.loop-other-init
loop-other-init c = first_below_zero _

pub returns-then-meets : goal.returns-then-meets
returns-then-meets c =
    let e = c.args.elf.now in
    let p : ℕ → Bool = λ j. meets (section e j) (section e c.args.index) in
    let here = rw (c.section.ensures, c.section-section.ensures) at c.if-meets.ensures in
    let below : c.loop-other.other < c.args.index = omega arith in
    ap found_or_0 (sym (first_found p c.args.index c.loop-other.other below c.loop-other.invariant (sym here)))

pub loop-other-preserved : goal.loop-other-preserved
loop-other-preserved c =
    let e = c.args.elf.now in
    let here = rw (c.section.ensures, c.section-section.ensures) at c.if-meets.ensures in
    first_later (λ j. meets (section e j) (section e c.args.index)) c.loop-other.other c.loop-other.invariant (sym here)
