-- One string more was copied.
use Rattle.std.proofs.Common.{◌≡◌, ℕ, zero, suc, ◌+◌, ◌<◌, List, [], ◌∷◌, ◌++◌, length, take, get_or, sym, ap, ◌∙◌, arith}
use Rattle.std.specs.Prelude.{Vec}
use Rattle.std.specs.List.{each_same}
use Rattle.std.proofs.lemmas.List.{map-append}
use Rattle.flat_loader.specs.Frame.{texts}
use Rattle.kept_parts.proofs.start.copied.Goals as goal

texts_more : {Z : Type 0} (ss : List (Vec ℕ Z)) (i : ℕ) (s : Vec ℕ Z) → i < length ss → s ≡ get_or ss i s → take (suc i) (texts ss) ≡ take i (texts ss) ++ s.items ∷ []
texts_more [] i s less is = absurd (omega arith)
texts_more (t ∷ ss) zero s less is = ap (λ v. v.items ∷ []) (sym is)
texts_more (t ∷ ss) (suc i) s less is = ap (λ ts. t.items ∷ ts) (texts_more ss i s (omega (arith, less)) is)

pub loop-string-preserved : goal.loop-string-preserved
loop-string-preserved c =
    let i : ℕ = c.loop-string.string-index in
    let same : c.in_ok-clone.field-0.items ≡ c.string-item.result.items = each_same c.string-item.result.items c.in_ok-clone.field-0.items c.in_ok-clone.ensures.cases.0 in
    let more = texts_more c.args.strings.now i c.string-item.result (omega arith) c.string-item.is in
    ap texts c.in_ok-push.ensures.items ∙ map-append (λ s. s.items) c.loop-string.copies.items (c.in_ok-clone.field-0 ∷ [])
    ∙ (λ j. c.loop-string.invariant j ++ same j ∷ []) ∙ sym more ∙ ap (λ n. take n (texts c.args.strings.now)) (let e : suc i ≡ i + 1 = omega arith in e)
