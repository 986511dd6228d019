-- A header with such a fault is whole.
use Rattle.std.proofs.Common.{arith}
use Rattle.fault_texts.proofs.Headers.{whole_class, whole_order, whole_type, whole_machine, whole_flags}
use Rattle.fault_texts.proofs.lines.push_found.Goals as goal

pub byte-requires : goal.byte-requires
byte-requires c = omega (arith, whole_class c.args.bytes.now c.args.fault c.requires c.in-Class.is)

pub byte-requires-in-Order : goal.byte-requires-in-Order
byte-requires-in-Order c = omega (arith, whole_order c.args.bytes.now c.args.fault c.requires c.in-Order.is)

pub half-requires : goal.half-requires
half-requires c = omega (arith, whole_type c.args.bytes.now c.args.fault c.requires c.in-FileType.is)

pub half-requires-in-Machine : goal.half-requires-in-Machine
half-requires-in-Machine c = omega (arith, whole_machine c.args.bytes.now c.args.fault c.requires c.in-Machine.is)

pub word-requires : goal.word-requires
word-requires c = omega (arith, whole_flags c.args.bytes.now c.args.fault c.requires c.in-Flags.is)
