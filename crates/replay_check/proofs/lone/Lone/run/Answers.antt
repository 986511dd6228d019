use Rattle.std.proofs.Common.{◌≡◌, ◌-◌, suc, length, refl, arith}
use Rattle.replay_check.specs.Ranges.{own_memory}
use Rattle.replay_check.proofs.Telling.{runs_last}
use Rattle.replay_check.proofs.lone.Lone.run.Goals as goal

pub returns : goal.returns
returns c =
    let v = c.args.self.now.stack in
    let len : length v.items ≡ suc (v.len - 1) = (let more = c.in_ok-top.ensures.variant.0 refl in let ok = v.ok.0 in omega (arith, more, ok)) in
    runs_last c.args.count (own_memory c.args.self.now.memory) (own_memory c.run.new.self) v.items (v.len - 1) c.in_ok-top.top.now c.run.new.regs c.run.result len
    c.in_ok-top.ensures.value c.run.ensures.leaves c.run.ensures.ranges
