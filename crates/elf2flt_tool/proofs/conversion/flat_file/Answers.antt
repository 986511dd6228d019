use Rattle.std.proofs.Common.{inl, inr}
use Rattle.std.proofs.lemmas.Result.{err_from_is_err_and}
use Rattle.elf2flt_tool.proofs.FaultOrder.{fault-elf, fault-layout, fault-relocs}
use Rattle.elf2flt_tool.proofs.conversion.flat_file.Goals as goal

pub returns-in_err-elf : goal.returns-in_err-elf
returns-in_err-elf c =
    let p = err_from_is_err_and c.from_residual.result c.from_residual.ensures.1 in
    rw (p.1, p.2) (inr (fault-elf c.args.bytes.now _ c.in_err-elf.ensures))

pub returns-in_err-layout : goal.returns-in_err-layout
returns-in_err-layout c =
    let p = err_from_is_err_and c.from_residual-in_err-layout.result c.from_residual-in_err-layout.ensures.1 in
    let read = c.in_ok-elf.ensures in
    let laid = rw read.1 at c.in_err-layout.ensures in
    rw (p.1, p.2) (inr (fault-layout c.args.bytes.now _ read.0 laid))

pub returns-in_err-placed : goal.returns-in_err-placed
returns-in_err-placed c =
    let p = err_from_is_err_and c.from_residual-in_err-placed.result c.from_residual-in_err-placed.ensures.1 in
    let read = c.in_ok-elf.ensures in
    let laid = rw read.1 at c.in_ok-layout.ensures in
    let found = rw read.1 at c.in_err-placed.ensures in
    rw (p.1, p.2) (elim found [
      | inl memory ↦ inl memory
      | inr is ↦ inr (fault-relocs c.args.bytes.now _ read.0 laid.0 is)
    ])
