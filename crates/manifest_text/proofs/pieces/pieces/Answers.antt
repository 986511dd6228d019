-- A piece ends where the byte stands.
use Rattle.std.proofs.Common.{refl, ap, ◌∙◌, arith}
use Rattle.std.proofs.lemmas.List.{map-append}
use Rattle.manifest_text.specs.Values.{texts}
use Rattle.manifest_text.proofs.Cutting.{cut_step, keep_step, last_step}
use Rattle.manifest_text.proofs.pieces.pieces.Goals as goal
use Rattle.manifest_text.proofs.pieces.pieces.Goals.{then-byte-at+in_ok-push, else-byte-at}

pub loop-place-init : goal.loop-place-init
loop-place-init c = record { start = omega arith; same = rw c.new-pieces.ensures.items refl }

pub loop-place-preserved : goal.loop-place-preserved
loop-place-preserved c = elim c.if-byte-at.branch [
  | then-byte-at+in_ok-push w ↦
      let outs = texts c.loop-place.pieces.items in
      let more = ap (λ v. texts v.items) w.pieces-is ∙ ap texts w.in_ok-push.ensures.items ∙ map-append (λ s. s.now) c.loop-place.pieces.items _ in
      record {
        start = omega (arith, w.start-is);
        same = rw (w.start-is, more) (cut_step c.args.at c.args.text.now c.loop-place.start c.loop-place.place c.loop-place.invariant.start c.loop-place-test.true outs c.loop-place.invariant.same w.if-byte-at.true);
      }
  | else-byte-at w ↦
      let outs = texts c.loop-place.pieces.items in
      record {
        start = omega (arith, w.start-is, c.loop-place.invariant.start);
        same = rw (w.start-is, w.pieces-is) (keep_step c.args.at c.args.text.now c.loop-place.start c.loop-place.place c.loop-place.invariant.start c.loop-place-test.true outs c.loop-place.invariant.same w.if-byte-at.false);
      }
]

pub returns : goal.returns
returns c =
    let outs = texts c.loop-place.pieces.items in
    ap texts c.in_ok-push-2.ensures.items
    ∙ map-append (λ s. s.now) c.loop-place.pieces.items _
    ∙ last_step c.args.at c.args.text.now c.loop-place.start c.loop-place.place c.loop-place.invariant.start c.loop-place.auto.place-end c.loop-place-test.false outs c.loop-place.invariant.same
