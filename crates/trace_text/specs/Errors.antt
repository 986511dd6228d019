-- The names of errors, as in Linux's header files, and which replies are errors.
use Rattle.std.specs.Prelude.{ℕ, ◌==◌, Bool, nat_le, List, [], ◌∷◌, find, codes, decimal, Option, Some, None}
use Rattle.call_log.specs.declared.errno.Errno.{Errno}
use Rattle.call_log.specs.declared.errno.Errno.TheVariants.{Enoent, E2big, Ebadf, Echild, Eagain, Enomem, Eacces, Eexist, Enodev, Enotdir, Eisdir, Einval, Emfile, Enotty, Efbig, Enospc, Espipe, Epipe, Enametoolong, Enosys, Enotempty, Eoverflow}
use Rattle.call_log.specs.Errno.{errno_number}

abbrev pub error_name : Errno → List ℕ
error_name Enoent = codes "ENOENT"
error_name E2big = codes "E2BIG"
error_name Ebadf = codes "EBADF"
error_name Echild = codes "ECHILD"
error_name Eagain = codes "EAGAIN"
error_name Enomem = codes "ENOMEM"
error_name Eacces = codes "EACCES"
error_name Eexist = codes "EEXIST"
error_name Enodev = codes "ENODEV"
error_name Enotdir = codes "ENOTDIR"
error_name Eisdir = codes "EISDIR"
error_name Einval = codes "EINVAL"
error_name Emfile = codes "EMFILE"
error_name Enotty = codes "ENOTTY"
error_name Efbig = codes "EFBIG"
error_name Enospc = codes "ENOSPC"
error_name Espipe = codes "ESPIPE"
error_name Epipe = codes "EPIPE"
error_name Enametoolong = codes "ENAMETOOLONG"
error_name Enosys = codes "ENOSYS"
error_name Enotempty = codes "ENOTEMPTY"
error_name Eoverflow = codes "EOVERFLOW"

abbrev pub errors : List Errno
errors =
    Enoent ∷ E2big ∷ Ebadf ∷ Echild ∷ Eagain ∷ Enomem ∷ Eacces ∷ Eexist ∷ Enodev ∷ Enotdir ∷ Eisdir ∷ Einval ∷ Emfile ∷ Enotty
    ∷ Efbig ∷ Enospc ∷ Espipe ∷ Epipe ∷ Enametoolong ∷ Enosys ∷ Enotempty ∷ Eoverflow ∷ []

-- the error with this number
unfoldable pub error_of : ℕ → Option Errno
error_of number = find (λ error. errno_number error == number) errors

-- one of the last 4,095 words, with which Linux answers errors
abbrev pub is_error : ℕ → Bool
is_error reply = nat_le 0xfffff001 reply

-- the name of the error with this number, or the number where no call is refused with it
abbrev pub error_or_number : Option Errno → ℕ → List ℕ
error_or_number (Some error) number = error_name error
error_or_number None number = decimal number

abbrev pub error_text : ℕ → List ℕ
error_text number = error_or_number (error_of number) number
