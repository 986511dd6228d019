-- The first section that has the byte.
use Rattle.std.proofs.Common.{◌≡◌, ◌∙◌, ◌<◌, ℕ, Bool, ap, sym, arith}
use Rattle.elf32_reader.specs.Header.{count_of}
use Rattle.elf32_reader.specs.Sections.{section}
use Rattle.psabi_relocs.specs.Search.{first_below}
use Rattle.psabi_relocs.proofs.IndexSearches.{first_below_zero}
use Rattle.elf2flt_tool.proofs.NotedSteps.{first_found, first_later}
use Rattle.fault_texts.specs.Lines.{has_byte}
use Rattle.fault_texts.proofs.lines.section_at.Goals as goal

pub loop-index-init : goal.loop-index-init
loop-index-init c = first_below_zero _

pub returns-then-has_byte : goal.returns-then-has_byte
returns-then-has_byte c =
    let e = c.args.elf.now in
    let p : ℕ → Bool = λ i. has_byte c.args.address (section e i) in
    let here = rw (c.section.ensures) at c.if-has_byte.ensures in
    let below : c.loop-index.index < count_of e = omega (arith, c.sections-index-end.ensures.count) in
    sym (first_found p (count_of e) c.loop-index.index below c.loop-index.invariant (sym here))

pub loop-index-preserved : goal.loop-index-preserved
loop-index-preserved c =
    let here = rw (c.section.ensures) at c.if-has_byte.ensures in
    first_later (λ i. has_byte c.args.address (section c.args.elf.now i)) c.loop-index.index c.loop-index.invariant (sym here)

pub returns : goal.returns
returns c =
    let e = c.args.elf.now in
    let all : c.loop-index.index ≡ count_of e = omega (arith, c.sections-index-end.ensures.count) in
    sym c.loop-index.invariant ∙ ap (first_below (λ i. has_byte c.args.address (section e i))) all
