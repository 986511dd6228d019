-- The system calls that are served, by their numbers and names in Linux (include/uapi/asm-generic/unistd.h).
use Rattle.std.specs.Prelude.{ℕ, ◌==◌, Bool, true, false, List, [], ◌∷◌, find, codes, Option, Some, None}
use Rattle.call_log.specs.Numbers as numbers
use Rattle.trace_text.specs.declared.call.Call.{Call}
use Rattle.trace_text.specs.declared.call.Call.TheVariants.{Dup, Dup3, Ioctl, Mkdirat, Unlinkat, Openat, Close, Pipe2, Getdents64, Llseek, Read, Write, Readv, Writev, Exit, ExitGroup, Waitid, SetTidAddress, SchedYield, Getpid, Getppid, Gettid, Brk, Munmap, Clone, Execve, Mmap2}

abbrev pub call_number : Call → ℕ
call_number Dup = numbers.dup
call_number Dup3 = numbers.dup3
call_number Ioctl = numbers.ioctl
call_number Mkdirat = numbers.mkdirat
call_number Unlinkat = numbers.unlinkat
call_number Openat = numbers.openat
call_number Close = numbers.close
call_number Pipe2 = numbers.pipe2
call_number Getdents64 = numbers.getdents64
call_number Llseek = numbers.llseek
call_number Read = numbers.read
call_number Write = numbers.write
call_number Readv = numbers.readv
call_number Writev = numbers.writev
call_number Exit = numbers.exit
call_number ExitGroup = numbers.exit_group
call_number Waitid = numbers.waitid
call_number SetTidAddress = numbers.set_tid_address
call_number SchedYield = numbers.sched_yield
call_number Getpid = numbers.getpid
call_number Getppid = numbers.getppid
call_number Gettid = numbers.gettid
call_number Brk = numbers.brk
call_number Munmap = numbers.munmap
call_number Clone = numbers.clone
call_number Execve = numbers.execve
call_number Mmap2 = numbers.mmap2

abbrev pub call_name : Call → List ℕ
call_name Dup = codes "dup"
call_name Dup3 = codes "dup3"
call_name Ioctl = codes "ioctl"
call_name Mkdirat = codes "mkdirat"
call_name Unlinkat = codes "unlinkat"
call_name Openat = codes "openat"
call_name Close = codes "close"
call_name Pipe2 = codes "pipe2"
call_name Getdents64 = codes "getdents64"
call_name Llseek = codes "llseek"
call_name Read = codes "read"
call_name Write = codes "write"
call_name Readv = codes "readv"
call_name Writev = codes "writev"
call_name Exit = codes "exit"
call_name ExitGroup = codes "exit_group"
call_name Waitid = codes "waitid"
call_name SetTidAddress = codes "set_tid_address"
call_name SchedYield = codes "sched_yield"
call_name Getpid = codes "getpid"
call_name Getppid = codes "getppid"
call_name Gettid = codes "gettid"
call_name Brk = codes "brk"
call_name Munmap = codes "munmap"
call_name Clone = codes "clone"
call_name Execve = codes "execve"
call_name Mmap2 = codes "mmap2"

abbrev pub served : List Call
served =
    Dup ∷ Dup3 ∷ Ioctl ∷ Mkdirat ∷ Unlinkat ∷ Openat ∷ Close ∷ Pipe2 ∷ Getdents64 ∷ Llseek ∷ Read ∷ Write ∷ Readv ∷ Writev
    ∷ Exit ∷ ExitGroup ∷ Waitid ∷ SetTidAddress ∷ SchedYield ∷ Getpid ∷ Getppid ∷ Gettid ∷ Brk ∷ Munmap ∷ Clone ∷ Execve ∷ Mmap2
    ∷ []

-- the call with this number
unfoldable pub call_of : ℕ → Option Call
call_of number = find (λ call. call_number call == number) served

-- a call that replies with an address
abbrev pub replies_address : Option Call → Bool
replies_address (Some Brk) = true
replies_address (Some Mmap2) = true
replies_address (Some call) = false
replies_address None = false
