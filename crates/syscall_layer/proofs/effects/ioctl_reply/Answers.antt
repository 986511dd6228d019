-- By what the descriptor shows.
use Rattle.syscall_layer.proofs.CallRows.{ioctl_open, ioctl_closed}
use Rattle.syscall_layer.proofs.effects.ioctl_reply.Goals as goal

pub returns-in-Ok : goal.returns-in-Ok
returns-in-Ok c = λ a table fd files. ioctl_open a c.args.table c.args.fd c.args.files.now.open_files table fd files _ c.refusal.result c.in-Ok.ensures c.refusal.ensures

pub returns-in-Err : goal.returns-in-Err
returns-in-Err c = λ a table fd files. ioctl_closed a c.args.table c.args.fd c.args.files.now.open_files table fd files c.in-Err.errno c.refusal-in-Err.result c.in-Err.ensures c.refusal-in-Err.ensures
