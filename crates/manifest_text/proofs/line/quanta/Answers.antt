-- One that is no quantum is enough.
use Rattle.std.proofs.Common.{◌≡◌, Bool, true, false, cond, Some, None, refl, sym, ap, ◌∙◌, map}
use Rattle.manifest_text.specs.Values.{texts}
use Rattle.manifest_text.specs.Numbers.{is_quantum, quantum_value}
use Rattle.manifest_text.proofs.Drafts.{one_fails}
use Rattle.manifest_text.proofs.line.quanta.Goals as goal

failed : {Q : Type 0} (b : Bool) (q : Q) → None ≡ cond b (Some q) None → b ≡ false
failed true q h = absurd cc
failed false q h = refl

pub returns-in-None : goal.returns-in-None
returns-in-None c =
    let fails = one_fails is_quantum (λ slice. slice.now) c.args.words.now c.loop-word.word-index _ c.loop-word-test.true (failed _ _ (sym c.in-None.is ∙ c.in_ok-quantum.ensures)) in
    ap (λ (b : Bool). cond b (Some (map quantum_value (texts c.args.words.now))) None) (sym fails)
