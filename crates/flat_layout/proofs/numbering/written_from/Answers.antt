use Rattle.std.proofs.Common.{◌≡◌, ℕ, true, false, min, sym, ◌∙◌, ap, arith}
use Rattle.elf32_reader.specs.declared.section.Section.{Section}
use Rattle.elf32_reader.specs.Header.{count_of}
use Rattle.elf32_reader.specs.Sections.{section}
use Rattle.flat_layout.specs.Numbering.{is_written, distance}
use Rattle.flat_layout.specs.Layout.{stored_end, written_from}
use Rattle.flat_layout.specs.Extremes.{least_below}
use Rattle.flat_layout.proofs.Bounds.{least_zero, least_taken_to, least_passed_to, distance_is}
use Rattle.flat_layout.proofs.numbering.written_from.Goals as goal
use Rattle.flat_layout.proofs.numbering.written_from.Goals.{then-is_written, else-is_written}

pub loop-index-init : goal.loop-index-init
loop-index-init c = c.requires.stored ∙ sym (least_zero (λ i. is_written (section c.args.elf.now i)) (λ i. distance c.args.elf.now (section c.args.elf.now i).addr) (stored_end c.args.elf.now))

pub loop-index-preserved : goal.loop-index-preserved
loop-index-preserved c =
    elim c.if-is_written.branch [
      | then-is_written w ↦
          let takes : is_written (section c.args.elf.now c.loop-index.index) ≡ true = ap (λ (s : Section). is_written s) (sym c.section-section.ensures) ∙ (sym c.is_written.ensures ∙ w.if-is_written.true) in
          let next : w.distance.result ≡ distance c.args.elf.now (section c.args.elf.now c.loop-index.index).addr = distance_is c.args.elf.now c.args.raised w.from.result (section c.args.elf.now c.loop-index.index).addr w.distance.result w.distance.ensures c.requires.raised (w.from.ensures ∙ ap (λ (s : Section). s.addr) c.section-section.ensures) in
          let value : c.if-is_written.least ≡ min c.loop-index.least (distance c.args.elf.now (section c.args.elf.now c.loop-index.index).addr) = w.least-is ∙ (w.lower-least.ensures ∙ ap (λ x. min c.loop-index.least x) next) in
          least_taken_to (λ i. is_written (section c.args.elf.now i)) (λ i. distance c.args.elf.now (section c.args.elf.now i).addr) (stored_end c.args.elf.now) c.loop-index.index _ _ takes c.loop-index.invariant value
      | else-is_written w ↦
          let passes : is_written (section c.args.elf.now c.loop-index.index) ≡ false = ap (λ (s : Section). is_written s) (sym c.section-section.ensures) ∙ (sym c.is_written.ensures ∙ w.if-is_written.false) in
          least_passed_to (λ i. is_written (section c.args.elf.now i)) (λ i. distance c.args.elf.now (section c.args.elf.now i).addr) (stored_end c.args.elf.now) c.loop-index.index _ _ passes c.loop-index.invariant w.least-is
    ]

pub returns : goal.returns
unfolding written_from
returns c =
    let all : c.loop-index.index ≡ count_of c.args.elf.now = omega arith in
    c.loop-index.invariant ∙ ap (λ (n : ℕ). least_below (λ i. is_written (section c.args.elf.now i)) (λ i. distance c.args.elf.now (section c.args.elf.now i).addr) (stored_end c.args.elf.now) n) all
