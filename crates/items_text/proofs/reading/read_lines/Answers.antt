-- The number of each line is a word: there are no more lines than bytes.
use Rattle.std.proofs.Common.{◌≡◌, ◌+◌, length, Some, ap, ◌∙◌, arith}
use Rattle.std.specs.Prelude.{codes}
use Rattle.std.proofs.lemmas.List.{length-append}
use Rattle.items_text.specs.Reading.{space_at}
use Rattle.items_text.proofs.Cuts.{behind_found}
use Rattle.items_text.proofs.Found.{found_some}
use Rattle.items_text.proofs.Whole.{space_less}
use Rattle.items_text.proofs.reading.read_lines.Goals as goal

pub fault_behind-requires : goal.fault_behind-requires
fault_behind-requires c =
    let read : space_at c.args.text.now ≡ Some (c.in-Some.head, c.in-Some.rest.now) = found_some (λ r. (r.0, r.1.now)) c.in_ok-head.field-0 _ (c.in-Some.head, c.in-Some.rest) c.in-Some.is c.in_ok-head.ensures.read in
    let less = space_less c.args.text.now c.in-Some.head c.in-Some.rest.now read in
    let args = ap length c.deref.ensures.value in
    let env = ap length c.deref-in-None.ensures.value in
    let list = ap length c.deref-in-None-2.ensures.value in
    omega (arith, less, c.requires, c.in_ok-args.ensures.shorter, c.in_ok-env.ensures.shorter, c.in_ok-list.ensures.shorter, args, env, list)

pub fault_behind-requires-in-Some-behind : goal.fault_behind-requires-in-Some-behind
fault_behind-requires-in-Some-behind c =
    let read : space_at c.args.text.now ≡ Some (c.in-Some.head, c.in-Some.rest.now) = found_some (λ r. (r.0, r.1.now)) c.in_ok-head.field-0 _ (c.in-Some.head, c.in-Some.rest) c.in-Some.is c.in_ok-head.ensures.read in
    let less = space_less c.args.text.now c.in-Some.head c.in-Some.rest.now read in
    let end = behind_found (codes "end\n") c.in_ok-list.rest.now c.in-Some-behind.field-0.now c.in-Some-behind.ensures in
    let long : length c.in_ok-list.rest.now ≡ 4 + length c.in-Some-behind.field-0.now = ap length end ∙ length-append (codes "end\n") c.in-Some-behind.field-0.now in
    let args = ap length c.deref-in-Some-behind.ensures.value in
    let env = ap length c.deref-in-Some-behind-2.ensures.value in
    let list = ap length c.deref-in-Some-behind-3.ensures.value in
    omega (arith, less, c.requires, c.in_ok-args.ensures.shorter, c.in_ok-env.ensures.shorter, c.in_ok-list.ensures.shorter, long, args, env, list)
