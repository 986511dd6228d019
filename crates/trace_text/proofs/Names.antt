-- The names of calls and of errors tell them apart, and which bytes they lack.
use Rattle.std.proofs.Common.{◌≡◌, ℕ, Bool, true, false, not, ◌==◌, List, [], ◌∷◌, get_or, Some, refl}
use Rattle.std.specs.Prelude.{Option, find, ◌&&◌}
use Rattle.std.specs.List.{list_all}
use Rattle.call_log.specs.declared.errno.Errno.{Errno}
use Rattle.call_log.specs.declared.errno.Errno.TheVariants.{Enoent, E2big, Ebadf, Echild, Eagain, Enomem, Eacces, Eexist, Enodev, Enotdir, Eisdir, Einval, Emfile, Enotty, Efbig, Enospc, Espipe, Epipe, Enametoolong, Enosys, Enotempty, Eoverflow}
use Rattle.trace_text.specs.declared.call.Call.{Call}
use Rattle.trace_text.specs.declared.call.Call.TheVariants.{Dup, Dup3, Ioctl, Mkdirat, Unlinkat, Openat, Close, Pipe2, Getdents64, Llseek, Read, Write, Readv, Writev, Exit, ExitGroup, Waitid, SetTidAddress, SchedYield, Getpid, Getppid, Gettid, Brk, Munmap, Clone, Execve, Mmap2}
use Rattle.trace_text.specs.Calls.{call_name, served}
use Rattle.trace_text.specs.Errors.{error_name, errors}

abbrev pub lacks : ℕ → List ℕ → Bool
lacks c xs = list_all (λ x. not (x == c)) xs

abbrev same_text : List ℕ → List ℕ → Bool
same_text [] [] = true
same_text [] (y ∷ ys) = false
same_text (x ∷ xs) [] = false
same_text (x ∷ xs) (y ∷ ys) = x == y && same_text xs ys

-- ---- calls

abbrev pub call_named : List ℕ → Option Call
call_named text = find (λ call. same_text (call_name call) text) served

pub call_back : (call : Call) → call_named (call_name call) ≡ Some call
call_back Dup = refl
call_back Dup3 = refl
call_back Ioctl = refl
call_back Mkdirat = refl
call_back Unlinkat = refl
call_back Openat = refl
call_back Close = refl
call_back Pipe2 = refl
call_back Getdents64 = refl
call_back Llseek = refl
call_back Read = refl
call_back Write = refl
call_back Readv = refl
call_back Writev = refl
call_back Exit = refl
call_back ExitGroup = refl
call_back Waitid = refl
call_back SetTidAddress = refl
call_back SchedYield = refl
call_back Getpid = refl
call_back Getppid = refl
call_back Gettid = refl
call_back Brk = refl
call_back Munmap = refl
call_back Clone = refl
call_back Execve = refl
call_back Mmap2 = refl

-- no opening bracket
pub name_lacks : (call : Call) → lacks 40 (call_name call) ≡ true
name_lacks Dup = refl
name_lacks Dup3 = refl
name_lacks Ioctl = refl
name_lacks Mkdirat = refl
name_lacks Unlinkat = refl
name_lacks Openat = refl
name_lacks Close = refl
name_lacks Pipe2 = refl
name_lacks Getdents64 = refl
name_lacks Llseek = refl
name_lacks Read = refl
name_lacks Write = refl
name_lacks Readv = refl
name_lacks Writev = refl
name_lacks Exit = refl
name_lacks ExitGroup = refl
name_lacks Waitid = refl
name_lacks SetTidAddress = refl
name_lacks SchedYield = refl
name_lacks Getpid = refl
name_lacks Getppid = refl
name_lacks Gettid = refl
name_lacks Brk = refl
name_lacks Munmap = refl
name_lacks Clone = refl
name_lacks Execve = refl
name_lacks Mmap2 = refl

-- as the text of a call that isn't served
abbrev pub starts_ca : List ℕ → Bool
starts_ca text = get_or text 0 0 == 99 && get_or text 1 0 == 97

pub name_starts : (call : Call) → starts_ca (call_name call) ≡ false
name_starts Dup = refl
name_starts Dup3 = refl
name_starts Ioctl = refl
name_starts Mkdirat = refl
name_starts Unlinkat = refl
name_starts Openat = refl
name_starts Close = refl
name_starts Pipe2 = refl
name_starts Getdents64 = refl
name_starts Llseek = refl
name_starts Read = refl
name_starts Write = refl
name_starts Readv = refl
name_starts Writev = refl
name_starts Exit = refl
name_starts ExitGroup = refl
name_starts Waitid = refl
name_starts SetTidAddress = refl
name_starts SchedYield = refl
name_starts Getpid = refl
name_starts Getppid = refl
name_starts Gettid = refl
name_starts Brk = refl
name_starts Munmap = refl
name_starts Clone = refl
name_starts Execve = refl
name_starts Mmap2 = refl

-- ---- errors

abbrev pub error_named : List ℕ → Option Errno
error_named text = find (λ error. same_text (error_name error) text) errors

pub error_back : (error : Errno) → error_named (error_name error) ≡ Some error
error_back Enoent = refl
error_back E2big = refl
error_back Ebadf = refl
error_back Echild = refl
error_back Eagain = refl
error_back Enomem = refl
error_back Eacces = refl
error_back Eexist = refl
error_back Enodev = refl
error_back Enotdir = refl
error_back Eisdir = refl
error_back Einval = refl
error_back Emfile = refl
error_back Enotty = refl
error_back Efbig = refl
error_back Enospc = refl
error_back Espipe = refl
error_back Epipe = refl
error_back Enametoolong = refl
error_back Enosys = refl
error_back Enotempty = refl
error_back Eoverflow = refl

-- no space
pub error_lacks : (error : Errno) → lacks 32 (error_name error) ≡ true
error_lacks Enoent = refl
error_lacks E2big = refl
error_lacks Ebadf = refl
error_lacks Echild = refl
error_lacks Eagain = refl
error_lacks Enomem = refl
error_lacks Eacces = refl
error_lacks Eexist = refl
error_lacks Enodev = refl
error_lacks Enotdir = refl
error_lacks Eisdir = refl
error_lacks Einval = refl
error_lacks Emfile = refl
error_lacks Enotty = refl
error_lacks Efbig = refl
error_lacks Enospc = refl
error_lacks Espipe = refl
error_lacks Epipe = refl
error_lacks Enametoolong = refl
error_lacks Enosys = refl
error_lacks Enotempty = refl
error_lacks Eoverflow = refl

-- an E, and no digit
pub error_starts : (error : Errno) → get_or (error_name error) 0 0 ≡ 69
error_starts Enoent = refl
error_starts E2big = refl
error_starts Ebadf = refl
error_starts Echild = refl
error_starts Eagain = refl
error_starts Enomem = refl
error_starts Eacces = refl
error_starts Eexist = refl
error_starts Enodev = refl
error_starts Enotdir = refl
error_starts Eisdir = refl
error_starts Einval = refl
error_starts Emfile = refl
error_starts Enotty = refl
error_starts Efbig = refl
error_starts Enospc = refl
error_starts Espipe = refl
error_starts Epipe = refl
error_starts Enametoolong = refl
error_starts Enosys = refl
error_starts Enotempty = refl
error_starts Eoverflow = refl
