use Rattle.std.proofs.Common.{◌+◌, false, sym, ◌∙◌, slice_index}
use Rattle.replay_check.specs.Ranges.{own_memory}
use Rattle.replay_check.proofs.NewRanges.{lie_on, lie_not, lie_ends, read_at}
use Rattle.replay_check.proofs.memory.LoneMemory.agrees.Goals as goal

pub returns-then-not-byte_lies : goal.returns-then-not-byte_lies
returns-then-not-byte_lies c =
    lie_not (own_memory c.args.self.now) c.args.addr c.loop-i.i (slice_index c.args.bytes.now c.loop-i.i) c.args.bytes.now _ c.loop-i-test.true (read_at c.args.bytes.now c.loop-i.i c.loop-i-test.true) (sym c.if-not-byte_lies.true ∙ c.byte_lies.ensures) c.loop-i.invariant

pub loop-i-preserved : goal.loop-i-preserved
loop-i-preserved c =
    lie_on (own_memory c.args.self.now) c.args.addr c.loop-i.i (slice_index c.args.bytes.now c.loop-i.i) c.args.bytes.now _ c.loop-i-test.true (read_at c.args.bytes.now c.loop-i.i c.loop-i-test.true) (sym c.if-not-byte_lies.false ∙ c.byte_lies.ensures) c.loop-i.invariant

pub returns : goal.returns
returns c = lie_ends (own_memory c.args.self.now) false (c.args.addr + c.loop-i.i) c.loop-i.i c.args.bytes.now _ c.loop-i-test.false c.loop-i.invariant
