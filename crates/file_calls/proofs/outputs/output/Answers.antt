-- The row of each number.
use Rattle.std.proofs.Common.{◌≢◌, arith}
use Rattle.file_calls.proofs.Numbered.{last_number, row_pipe2, row_getdents, row_llseek, row_read, row_readv}
use Rattle.file_calls.proofs.outputs.output.Goals as goal

pub returns-in-59-clause-gives : goal.returns-in-59-clause-gives
returns-in-59-clause-gives c = row_pipe2 c.args.call.now c.args.tree.now c.args.files.now.open_files c.pipe2.result c.in-59.is c.pipe2.ensures.gives

pub returns-in-61-clause-gives : goal.returns-in-61-clause-gives
returns-in-61-clause-gives c = row_getdents c.args.call.now c.args.tree.now c.args.files.now.open_files c.getdents64.result c.in-61.is c.getdents64.ensures.gives

pub returns-in-62-clause-gives : goal.returns-in-62-clause-gives
returns-in-62-clause-gives c = row_llseek c.args.call.now c.args.tree.now c.args.files.now.open_files c.llseek.result c.in-62.is c.llseek.ensures.gives

pub returns-in-63-clause-gives : goal.returns-in-63-clause-gives
returns-in-63-clause-gives c = row_read c.args.call.now c.args.tree.now c.args.files.now.open_files c.read.result c.requires.replies c.in-63.is c.read.ensures.gives

pub returns-in_default-clause-gives : goal.returns-in_default-clause-gives
returns-in_default-clause-gives c =
    let n59 : c.args.call.now.number ≢ 59 = omega arith in
    let n61 : c.args.call.now.number ≢ 61 = omega arith in
    let n62 : c.args.call.now.number ≢ 62 = omega arith in
    let n63 : c.args.call.now.number ≢ 63 = omega arith in
    row_readv c.args.call.now c.args.tree.now c.args.files.now.open_files c.readv.result c.requires.replies (last_number c.args.call.now.number c.requires.output n59 n61 n62 n63) c.readv.ensures.gives
