-- A byte that is own lies in memory.
use Rattle.std.proofs.Common.{sym, ◌∙◌}
use Rattle.call_bytes.proofs.ReadRanges.{read_stray}
use Rattle.call_bytes.proofs.ReadPath.{byte_within, byte_read}
use Rattle.call_bytes.proofs.reading.read_byte.Goals as goal

pub returns-then-not-own : goal.returns-then-not-own
returns-then-not-own c = read_stray c.args.owners.now c.args.mem.now c.args.addr 1 (sym c.own.ensures ∙ c.if-not-own.true)

pub get8-requires : goal.get8-requires
get8-requires c = byte_within c.args.owners.now c.args.mem.now c.args.addr c.requires.memory (sym c.own.ensures ∙ c.if-not-own.false)

pub returns : goal.returns
returns c = byte_read c.args.owners.now c.args.mem.now c.args.addr c.get8.result c.requires.memory (sym c.own.ensures ∙ c.if-not-own.false) c.get8.ensures
