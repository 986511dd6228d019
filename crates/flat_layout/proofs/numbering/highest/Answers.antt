use Rattle.std.proofs.Common.{◌≡◌, ℕ, true, false, max, sym, ◌∙◌, ap, arith}
use Rattle.elf32_reader.specs.declared.section.Section.{Section}
use Rattle.elf32_reader.specs.Header.{count_of}
use Rattle.elf32_reader.specs.Sections.{section}
use Rattle.flat_layout.specs.Numbering.{is_laid_out, end_of, highest}
use Rattle.flat_layout.specs.Extremes.{greatest_below}
use Rattle.flat_layout.proofs.Bounds.{greatest_zero, greatest_taken_to, greatest_passed_to}
use Rattle.flat_layout.proofs.numbering.highest.Goals as goal
use Rattle.flat_layout.proofs.numbering.highest.Goals.{then-is_laid_out, else-is_laid_out}

pub loop-index-init : goal.loop-index-init
loop-index-init c = record { value = sym (greatest_zero (λ i. is_laid_out (section c.args.elf.now i)) (λ i. end_of (section c.args.elf.now i))); bound = omega arith }

pub loop-index-preserved : goal.loop-index-preserved
loop-index-preserved c =
    elim c.if-is_laid_out.branch [
      | then-is_laid_out w ↦
          let takes : is_laid_out (section c.args.elf.now c.loop-index.index) ≡ true = ap (λ (s : Section). is_laid_out s) (sym c.section-section.ensures) ∙ (sym c.is_laid_out.ensures ∙ w.if-is_laid_out.true) in
          let next : w.end_of.result ≡ end_of (section c.args.elf.now c.loop-index.index) = w.end_of.ensures ∙ ap (λ (s : Section). end_of s) c.section-section.ensures in
          let value : c.if-is_laid_out.greatest ≡ max c.loop-index.greatest (end_of (section c.args.elf.now c.loop-index.index)) = w.greatest-is ∙ (w.higher-greatest.ensures ∙ ap (λ x. max c.loop-index.greatest x) next) in
          record { value = greatest_taken_to (λ i. is_laid_out (section c.args.elf.now i)) (λ i. end_of (section c.args.elf.now i)) c.loop-index.index _ _ takes c.loop-index.invariant.value value; bound = omega arith }
      | else-is_laid_out w ↦
          let passes : is_laid_out (section c.args.elf.now c.loop-index.index) ≡ false = ap (λ (s : Section). is_laid_out s) (sym c.section-section.ensures) ∙ (sym c.is_laid_out.ensures ∙ w.if-is_laid_out.false) in
          record { value = greatest_passed_to (λ i. is_laid_out (section c.args.elf.now i)) (λ i. end_of (section c.args.elf.now i)) c.loop-index.index _ _ passes c.loop-index.invariant.value w.greatest-is; bound = omega arith }
    ]

pub returns-clause-value : goal.returns-clause-value
unfolding highest
returns-clause-value c =
    let all : c.loop-index.index ≡ count_of c.args.elf.now = omega arith in
    c.loop-index.invariant.value ∙ ap (λ (n : ℕ). greatest_below (λ i. is_laid_out (section c.args.elf.now i)) (λ i. end_of (section c.args.elf.now i)) n) all
