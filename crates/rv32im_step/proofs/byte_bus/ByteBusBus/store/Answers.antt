-- The bytes written are those of the map, one by one.
use Rattle.std.proofs.Common.{sym}
use Rattle.byte_words.specs.declared.access.AccessKind.TheVariants.{Store}
use Rattle.rv32im_step.proofs.ByteBusLaws.{stored_placed}
use Rattle.rv32im_step.proofs.byte_bus.ByteBusBus.store.Goals as goal

pub returns-in-Some-clause-answer : goal.returns-in-Some-clause-answer
returns-in-Some-clause-answer c =
    let placed = stored_placed _ _ (record { pc = c.args.pc; addr = c.args.addr; len = c.args.len; kind = Store }) c.args.value c.in-Some.at (sym c.in-Some.ensures) in
    rw c.write.ensures placed
