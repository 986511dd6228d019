use Rattle.std.proofs.Common.{◌≡◌, ℕ, true, false, max, sym, ◌∙◌, ap, arith}
use Rattle.elf32_reader.specs.declared.section.Section.{Section}
use Rattle.elf32_reader.specs.Header.{count_of}
use Rattle.elf32_reader.specs.Sections.{section}
use Rattle.flat_layout.specs.Numbering.{has_bytes, end_of, distance}
use Rattle.flat_layout.specs.Layout.{stored_end}
use Rattle.flat_layout.specs.Extremes.{greatest_below}
use Rattle.flat_layout.proofs.Bounds.{greatest_zero, greatest_taken_to, greatest_passed_to, distance_is}
use Rattle.flat_layout.proofs.numbering.stored_end.Goals as goal
use Rattle.flat_layout.proofs.numbering.stored_end.Goals.{then-has_bytes, else-has_bytes}

pub loop-index-init : goal.loop-index-init
loop-index-init c = sym (greatest_zero (λ i. has_bytes (section c.args.elf.now i)) (λ i. distance c.args.elf.now (end_of (section c.args.elf.now i))))

pub loop-index-preserved : goal.loop-index-preserved
loop-index-preserved c =
    elim c.if-has_bytes.branch [
      | then-has_bytes w ↦
          let takes : has_bytes (section c.args.elf.now c.loop-index.index) ≡ true = ap (λ (s : Section). has_bytes s) (sym c.section-section.ensures) ∙ (sym c.has_bytes.ensures ∙ w.if-has_bytes.true) in
          let next : w.distance.result ≡ distance c.args.elf.now (end_of (section c.args.elf.now c.loop-index.index)) = distance_is c.args.elf.now c.args.raised w.end_of.result (end_of (section c.args.elf.now c.loop-index.index)) w.distance.result w.distance.ensures c.requires (w.end_of.ensures ∙ ap (λ (s : Section). end_of s) c.section-section.ensures) in
          let value : c.if-has_bytes.greatest ≡ max c.loop-index.greatest (distance c.args.elf.now (end_of (section c.args.elf.now c.loop-index.index))) = w.greatest-is ∙ (w.higher-greatest.ensures ∙ ap (λ x. max c.loop-index.greatest x) next) in
          greatest_taken_to (λ i. has_bytes (section c.args.elf.now i)) (λ i. distance c.args.elf.now (end_of (section c.args.elf.now i))) c.loop-index.index _ _ takes c.loop-index.invariant value
      | else-has_bytes w ↦
          let passes : has_bytes (section c.args.elf.now c.loop-index.index) ≡ false = ap (λ (s : Section). has_bytes s) (sym c.section-section.ensures) ∙ (sym c.has_bytes.ensures ∙ w.if-has_bytes.false) in
          greatest_passed_to (λ i. has_bytes (section c.args.elf.now i)) (λ i. distance c.args.elf.now (end_of (section c.args.elf.now i))) c.loop-index.index _ _ passes c.loop-index.invariant w.greatest-is
    ]

pub returns : goal.returns
unfolding stored_end
returns c =
    let all : c.loop-index.index ≡ count_of c.args.elf.now = omega arith in
    c.loop-index.invariant ∙ ap (λ (n : ℕ). greatest_below (λ i. has_bytes (section c.args.elf.now i)) (λ i. distance c.args.elf.now (end_of (section c.args.elf.now i))) n) all
