use Rattle.std.proofs.Common.{◌≡◌, ◌^◌, ℕ, true, false, min, sym, ◌∙◌, ap, arith}
use Rattle.elf32_reader.specs.declared.section.Section.{Section}
use Rattle.elf32_reader.specs.Header.{count_of}
use Rattle.elf32_reader.specs.Sections.{section}
use Rattle.flat_layout.specs.Numbering.{is_laid_out, lowest}
use Rattle.flat_layout.specs.Extremes.{least_below}
use Rattle.flat_layout.proofs.Bounds.{least_zero, least_taken_to, least_passed_to}
use Rattle.flat_layout.proofs.numbering.lowest.Goals as goal
use Rattle.flat_layout.proofs.numbering.lowest.Goals.{then-is_laid_out, else-is_laid_out}

pub loop-index-init : goal.loop-index-init
loop-index-init c = record { value = sym (least_zero (λ i. is_laid_out (section c.args.elf.now i)) (λ i. (section c.args.elf.now i).addr) (2 ^ 32)); bound = omega arith }

pub loop-index-preserved : goal.loop-index-preserved
loop-index-preserved c =
    elim c.if-is_laid_out.branch [
      | then-is_laid_out w ↦
          let takes : is_laid_out (section c.args.elf.now c.loop-index.index) ≡ true = ap (λ (s : Section). is_laid_out s) (sym c.section-section.ensures) ∙ (sym c.is_laid_out.ensures ∙ w.if-is_laid_out.true) in
          let next : w.from.result ≡ (section c.args.elf.now c.loop-index.index).addr = w.from.ensures ∙ ap (λ (s : Section). s.addr) c.section-section.ensures in
          let value : c.if-is_laid_out.least ≡ min c.loop-index.least ((section c.args.elf.now c.loop-index.index).addr) = w.least-is ∙ (w.lower-least.ensures ∙ ap (λ x. min c.loop-index.least x) next) in
          record { value = least_taken_to (λ i. is_laid_out (section c.args.elf.now i)) (λ i. (section c.args.elf.now i).addr) (2 ^ 32) c.loop-index.index _ _ takes c.loop-index.invariant.value value; bound = omega arith }
      | else-is_laid_out w ↦
          let passes : is_laid_out (section c.args.elf.now c.loop-index.index) ≡ false = ap (λ (s : Section). is_laid_out s) (sym c.section-section.ensures) ∙ (sym c.is_laid_out.ensures ∙ w.if-is_laid_out.false) in
          record { value = least_passed_to (λ i. is_laid_out (section c.args.elf.now i)) (λ i. (section c.args.elf.now i).addr) (2 ^ 32) c.loop-index.index _ _ passes c.loop-index.invariant.value w.least-is; bound = omega arith }
    ]

pub returns-clause-value : goal.returns-clause-value
unfolding lowest
returns-clause-value c =
    let all : c.loop-index.index ≡ count_of c.args.elf.now = omega arith in
    c.loop-index.invariant.value ∙ ap (λ (n : ℕ). least_below (λ i. is_laid_out (section c.args.elf.now i)) (λ i. (section c.args.elf.now i).addr) (2 ^ 32) n) all
