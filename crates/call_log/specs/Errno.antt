-- The errors of Linux that calls are refused with (include/uapi/asm-generic/errno-base.h and errno.h).
use Rattle.std.specs.Prelude.{ℕ, ◌-◌, ◌^◌, ◌<◌, ◌≤◌}
use Rattle.call_log.specs.declared.errno.Errno.{Errno}
use Rattle.call_log.specs.declared.errno.Errno.TheVariants.{Enoent, E2big, Ebadf, Echild, Eagain, Enomem, Eacces, Eexist, Enodev, Enotdir, Eisdir, Einval, Emfile, Enotty, Efbig, Enospc, Espipe, Epipe, Enametoolong, Enosys, Enotempty, Eoverflow}

abbrev pub errno_number : Errno → ℕ
errno_number Enoent = 2
errno_number E2big = 7
errno_number Ebadf = 9
errno_number Echild = 10
errno_number Eagain = 11
errno_number Enomem = 12
errno_number Eacces = 13
errno_number Eexist = 17
errno_number Enodev = 19
errno_number Enotdir = 20
errno_number Eisdir = 21
errno_number Einval = 22
errno_number Emfile = 24
errno_number Enotty = 25
errno_number Efbig = 27
errno_number Enospc = 28
errno_number Espipe = 29
errno_number Epipe = 32
errno_number Enametoolong = 36
errno_number Enosys = 38
errno_number Enotempty = 39
errno_number Eoverflow = 75

-- a refusal's reply is the negative number of its error, as a word
unfoldable pub refusal : Errno → ℕ
refusal e = 2 ^ 32 - errno_number e

-- a refusal is one of the last 4,095 words: no address of memory, no pid and no count of bytes is one
pub record IsRefusal (word : ℕ) : Type 0 where
  pub from : 0xfffff001 ≤ word
  pub below : word < 2 ^ 32

abbrev pub RefusalsAreWords : Type 0
RefusalsAreWords = (e : Errno) → IsRefusal (refusal e)
