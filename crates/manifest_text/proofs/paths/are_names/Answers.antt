-- A name ends where a slash stands.
use Rattle.std.proofs.Common.{◌≡◌, ◌+◌, ◌-◌, Bool, true, false, take, drop, refl, sym, ap, ◌∙◌, arith}
use Rattle.std.specs.Prelude.{◌&&◌}
use Rattle.std.specs.List.{list_all}
use Rattle.manifest_text.specs.Pieces.{pieces}
use Rattle.manifest_text.specs.Paths.{slash, is_name}
use Rattle.manifest_text.proofs.Cutting.{glue, cut_one, keep_one, last_one}
use Rattle.manifest_text.proofs.paths.are_names.Goals as goal
use Rattle.manifest_text.proofs.paths.are_names.Goals.{then-byte-eq47+else-not-is_name, else-byte-eq47}

and_true : (b : Bool) → (b && true) ≡ b
and_true true = refl
and_true false = refl

pub returns-then-not-is_name : goal.returns-then-not-is_name
returns-then-not-is_name c =
    let ts = c.args.names.now in
    let place = c.loop-place.place in
    let start = c.loop-place.start in
    let cut = cut_one slash ts start place c.loop-place.invariant.start c.loop-place-test.true c.if-byte-eq47.true in
    let bad : is_name (take (place - start) (drop start ts)) ≡ false = cc in
    sym (ap (λ (b : Bool). b && list_all is_name (glue (take (place + 1 - (place + 1)) (drop (place + 1) ts)) (pieces slash (drop (place + 1) ts)))) bad)
    ∙ ap (list_all is_name) (sym cut) ∙ c.loop-place.invariant.same

pub loop-place-preserved : goal.loop-place-preserved
loop-place-preserved c = elim c.if-byte-eq47.branch [
  | then-byte-eq47+else-not-is_name w ↦
      let ts = c.args.names.now in
      let place = c.loop-place.place in
      let start = c.loop-place.start in
      let cut = cut_one slash ts start place c.loop-place.invariant.start c.loop-place-test.true w.if-byte-eq47.true in
      let good : is_name (take (place - start) (drop start ts)) ≡ true = cc in
      record {
        start = omega (arith, w.start-is);
        same = rw (w.start-is) (sym (ap (λ (b : Bool). b && list_all is_name (glue (take (place + 1 - (place + 1)) (drop (place + 1) ts)) (pieces slash (drop (place + 1) ts)))) good) ∙ ap (list_all is_name) (sym cut) ∙ c.loop-place.invariant.same);
      }
  | else-byte-eq47 w ↦
      let ts = c.args.names.now in
      let kept = keep_one slash ts c.loop-place.start c.loop-place.place c.loop-place.invariant.start c.loop-place-test.true w.if-byte-eq47.false in
      record {
        start = omega (arith, w.start-is, c.loop-place.invariant.start);
        same = rw (w.start-is) (ap (list_all is_name) (sym kept) ∙ c.loop-place.invariant.same);
      }
]

pub returns : goal.returns
returns c =
    let ts = c.args.names.now in
    let last = last_one slash ts c.loop-place.start c.loop-place.place c.loop-place.invariant.start c.loop-place.auto.place-end c.loop-place-test.false in
    c.is_name-2.ensures ∙ sym (and_true _) ∙ ap (list_all is_name) (sym last) ∙ c.loop-place.invariant.same
