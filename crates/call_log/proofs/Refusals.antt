-- Each refusal is one of the last words.
use Rattle.std.proofs.Common.{arith}
use Rattle.call_log.specs.declared.errno.Errno.TheVariants.{Enoent, E2big, Ebadf, Echild, Eagain, Enomem, Eacces, Eexist, Enodev, Enotdir, Eisdir, Einval, Emfile, Enotty, Efbig, Enospc, Espipe, Epipe, Enametoolong, Enosys, Enotempty, Eoverflow}
use Rattle.call_log.specs.Errno.{refusal, RefusalsAreWords}

pub refusals : RefusalsAreWords
unfolding refusal
refusals Enoent = record { from = omega arith; below = omega arith }
refusals E2big = record { from = omega arith; below = omega arith }
refusals Ebadf = record { from = omega arith; below = omega arith }
refusals Echild = record { from = omega arith; below = omega arith }
refusals Eagain = record { from = omega arith; below = omega arith }
refusals Enomem = record { from = omega arith; below = omega arith }
refusals Eacces = record { from = omega arith; below = omega arith }
refusals Eexist = record { from = omega arith; below = omega arith }
refusals Enodev = record { from = omega arith; below = omega arith }
refusals Enotdir = record { from = omega arith; below = omega arith }
refusals Eisdir = record { from = omega arith; below = omega arith }
refusals Einval = record { from = omega arith; below = omega arith }
refusals Emfile = record { from = omega arith; below = omega arith }
refusals Enotty = record { from = omega arith; below = omega arith }
refusals Efbig = record { from = omega arith; below = omega arith }
refusals Enospc = record { from = omega arith; below = omega arith }
refusals Espipe = record { from = omega arith; below = omega arith }
refusals Epipe = record { from = omega arith; below = omega arith }
refusals Enametoolong = record { from = omega arith; below = omega arith }
refusals Enosys = record { from = omega arith; below = omega arith }
refusals Enotempty = record { from = omega arith; below = omega arith }
refusals Eoverflow = record { from = omega arith; below = omega arith }
