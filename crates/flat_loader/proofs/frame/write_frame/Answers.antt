use Rattle.std.proofs.Common.{length, sym, arith, refl}
use Rattle.flat_loader.specs.Frame.{texts, frame_len}
use Rattle.flat_loader.proofs.Frames.{frame_laid, length-texts}
use Rattle.flat_loader.proofs.frame.write_frame.Goals as goal

pub returns-clause-mem : goal.returns-clause-mem
unfolding frame_len
returns-clause-mem c =
    let args = texts c.args.args.now in
    let env = texts c.args.env.now in
    let argc = length-texts c.args.args.now in
    let envc = length-texts c.args.env.now in
    frame_laid c.args.mem.now c.set32.new.self c.write_pointers-env_strings.new.mem c.write_pointers.new.mem c.write_strings.new.mem c.write_strings-2.new.mem
    c.args.sp (length c.args.args.now) _ _ c.write_pointers-env_strings.result args env
    (omega arith) (omega arith) (sym argc) refl (omega arith) c.write_pointers-env_strings.ensures.behind
    c.set32.ensures c.write_pointers-env_strings.ensures.mem c.write_pointers.ensures.mem c.write_strings.ensures.mem c.write_strings-2.ensures.mem
