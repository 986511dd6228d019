use Rattle.syscall_layer.proofs.MapRows.{known_found}
use Rattle.syscall_layer.proofs.want.want_of.Goals as goal

pub returns-clause-known : goal.returns-clause-known
returns-clause-known c = known_found c.args.tree.now _ _ _ _ _ _ _ c.file_side-side.ensures _ c.check_mmap2.ensures.wanted
