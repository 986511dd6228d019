-- The numbers of the system calls that are served (Linux, include/uapi/asm-generic/unistd.h), each by the call's name.
use Rattle.std.specs.Prelude.{ℕ}

abbrev pub dup : ℕ
dup = 23

abbrev pub dup3 : ℕ
dup3 = 24

abbrev pub ioctl : ℕ
ioctl = 29

abbrev pub mkdirat : ℕ
mkdirat = 34

abbrev pub unlinkat : ℕ
unlinkat = 35

abbrev pub openat : ℕ
openat = 56

abbrev pub close : ℕ
close = 57

abbrev pub pipe2 : ℕ
pipe2 = 59

abbrev pub getdents64 : ℕ
getdents64 = 61

abbrev pub llseek : ℕ
llseek = 62

abbrev pub read : ℕ
read = 63

abbrev pub write : ℕ
write = 64

abbrev pub readv : ℕ
readv = 65

abbrev pub writev : ℕ
writev = 66

abbrev pub exit : ℕ
exit = 93

abbrev pub exit_group : ℕ
exit_group = 94

abbrev pub waitid : ℕ
waitid = 95

abbrev pub set_tid_address : ℕ
set_tid_address = 96

abbrev pub sched_yield : ℕ
sched_yield = 124

abbrev pub getpid : ℕ
getpid = 172

abbrev pub getppid : ℕ
getppid = 173

abbrev pub gettid : ℕ
gettid = 178

abbrev pub brk : ℕ
brk = 214

abbrev pub munmap : ℕ
munmap = 215

abbrev pub clone : ℕ
clone = 220

abbrev pub execve : ℕ
execve = 221

abbrev pub mmap2 : ℕ
mmap2 = 222
