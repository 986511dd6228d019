use Rattle.std.proofs.Common.{◌&&◌, ◌==◌, ◌∙◌, ap, refl, arith}
use Rattle.elf32_reader.specs.Sections.{section}
use Rattle.flat_layout.specs.Numbering.{has_bytes}
use Rattle.psabi_relocs.specs.Search.{first_below}
use Rattle.psabi_relocs.proofs.IndexSearches.{first_below_zero, first_below_next}
use Rattle.psabi_relocs.proofs.stored.StoredSections.of.Goals as goal

pub loop-index-init : goal.loop-index-init
loop-index-init c = λ q. rw (c.new-firsts.ensures.empty, first_below_zero) refl

pub loop-index-preserved : goal.loop-index-preserved
loop-index-preserved c =
    λ q. first_below_next (λ k. has_bytes (section c.args.elf.now k) && (section c.args.elf.now k).addr == q) c.loop-index.index _ _
    (c.loop-index.invariant q) (rw c.section.ensures at (c.in_ok-note_section.ensures q))

pub returns : goal.returns
returns c = record {
  firsts =
      λ q. c.loop-index.invariant q
      ∙ ap (first_below (λ k. has_bytes (section c.args.elf.now k) && (section c.args.elf.now k).addr == q)) (omega (arith, c.sections-index-end.ensures.count));
}
