use Rattle.std.proofs.Common.{◌≡◌, ◌∙◌, ap, length, drop, Result, Ok, Err, IfOk}
use Rattle.std.specs.Prelude.{vec_len}
use Rattle.std.specs.Vec.Iter.{into_iter_items, into_iter_len}
use Rattle.std.proofs.lemmas.Iterator.Adapters.{fact_from_collect, YieldsList-from_skip, YieldsList-from_vec}
use Rattle.flatc.proofs.program.arguments_after_name.Goals as goal

first : {T E : Type 0} (P Q : T → Type 0) (r : Result T E) → IfOk r (λ v. P v × Q v) → IfOk r P
first P Q (Ok v) h = h.0
first P Q (Err e) h = tt

pub returns : goal.returns
returns c =
    let all = drop 1 (into_iter_items c.args.arguments) in
    let length_is = ap into_iter_len c.skip.ensures.source ∙ c.args.arguments.rest.ok.0 in
    let source = YieldsList-from_vec {s = c.skip.result.iter} _ (ap into_iter_items c.skip.ensures.source) length_is in
    first (λ words. words.items ≡ all) (λ words. vec_len words ≡ length all) c.collect.result
    (fact_from_collect (λ xs words. (words.items ≡ xs) × (vec_len words ≡ length xs)) c.collect.result c.collect.ensures.ran (YieldsList-from_skip 1 source c.skip.ensures.count))
