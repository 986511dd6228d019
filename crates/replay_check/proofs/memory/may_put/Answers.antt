use Rattle.std.proofs.Common.{◌≡◌, ◌≤◌, ◌^◌, ℕ, true, length, sym, ap, ◌∙◌, arith}
use Rattle.call_log.specs.Values.{got_value}
use Rattle.mmap_rules.specs.Space.{may_use}
use Rattle.mmap_rules.specs.Owners.{owns}
use Rattle.call_bytes.proofs.Puts.{parts_at}
use Rattle.replay_check.proofs.Output.{testing_strays, long_strays}
use Rattle.replay_check.proofs.memory.may_put.Goals as goal
use Rattle.replay_check.proofs.memory.may_put.Goals.{then-len-via-then-len, then-len-via-else-len+then-not-own}

pub returns-then-len : goal.returns-then-len
returns-then-len c =
    let g = c.range-item.result in
    let w : ℕ → _ = owns c.args.owners.now true in
    let parts = parts_at c.args.got.now c.loop-range.range-index g c.loop-range-test.true c.range-item.is in
    let size : c.len-len.result ≡ length g.bytes.items = (let is = c.len-len.ensures in let ok = g.bytes.ok.0 in omega (arith, is, ok)) in
    testing_strays w _ _ _ (got_value g) c.loop-range.invariant parts
    (elim c.then-len.branch [
      | then-len-via-then-len v ↦ (let long = v.if-len.true in let far : 2 ^ 32 ≤ length g.bytes.items = omega (arith, size, long) in long_strays c.args.owners.now g.addr (length g.bytes.items) far)
      | then-len-via-else-len+then-not-own v ↦ ap (λ n. may_use w g.addr n) (sym size) ∙ sym v.own.ensures ∙ v.if-not-own.true
    ])
