use Rattle.std.proofs.Common.{◌≡◌, ◌<◌, ◌≤◌, ◌+◌, ◌-◌, length, drop, map, sym, ap, ◌∙◌, arith}
use Rattle.items_text.specs.Values.{item_value}
use Rattle.replay_check.specs.declared.verdict.Verdict.TheVariants.{No}
use Rattle.replay_check.specs.Verdicts.{verdict_from}
use Rattle.replay_check.specs.Solos.{solo_of}
use Rattle.replay_check.specs.Loops.{items_alone}
use Rattle.replay_check.proofs.Loops.{all_used, some_left, length_alone}
use Rattle.replay_check.proofs.replaying.replay_all.Goals as goal

pub returns-then-used-items : goal.returns-then-used-items
returns-then-used-items c =
    let i = c.loop-done.invariant in
    let items = items_alone (map item_value c.args.items.now) in
    let all : c.loop-done.done ≡ c.args.events = (let test = c.loop-done-test.false in let most = i.done in omega (arith, test, most)) in
    let none : c.args.events - c.loop-done.done ≡ 0 = omega (arith, all) in
    let less : c.loop-done.used < length items = (let test = c.if-used-items.true in let len = length_alone c.args.items.now in omega (arith, test, len)) in
    sym (some_left items c.loop-done.used (c.args.events - c.loop-done.done) c.args.events (solo_of c.loop-done.lone) less none)
    ∙ (λ k. verdict_from (c.args.events - c.loop-done.done) c.loop-done.used (sym all k) (solo_of c.loop-done.lone) (drop c.loop-done.used items))
    ∙ i.whole

pub returns : goal.returns
returns c =
    let i = c.loop-done.invariant in
    let items = items_alone (map item_value c.args.items.now) in
    let none : c.args.events - c.loop-done.done ≡ 0 = (let test = c.loop-done-test.false in omega (arith, test)) in
    let up : length items ≤ c.loop-done.used = (let test = c.if-used-items.false in let len = length_alone c.args.items.now in omega (arith, test, len)) in
    sym (all_used items c.loop-done.used (c.args.events - c.loop-done.done) c.loop-done.done (solo_of c.loop-done.lone) up none)
    ∙ i.whole

pub returns-in-Refuted : goal.returns-in-Refuted
returns-in-Refuted c =
    let i = c.loop-done.invariant in
    let items = items_alone (map item_value c.args.items.now) in
    let most = c.args.events - c.loop-done.done in
    let count = c.min-count.result in
    let sum : count + (most - count) ≡ most = (let least = c.min-count.ensures in omega (arith, least)) in
    let advances = rw c.in-Refuted.is at c.in_ok-more.ensures in
    let more : c.loop-done.done + c.from-in-Refuted.result ≡ c.loop-done.done + c.in-Refuted.more = ap (λ n. c.loop-done.done + n) c.from-in-Refuted.ensures in
    (λ k. No (c.loop-done.used + 1) (more k))
    ∙ sym (advances.1 (most - count) c.loop-done.done)
    ∙ ap (λ n. verdict_from n c.loop-done.used c.loop-done.done (solo_of c.loop-done.lone) (drop c.loop-done.used items)) sum
    ∙ i.whole
