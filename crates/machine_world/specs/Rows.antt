-- What each system call answers (Linux, include/uapi/asm-generic/unistd.h, in this project's profile).
use Rattle.std.specs.Prelude.{ℕ, ◌==◌, Bool, true, ◌&&◌, ◌||◌, nat_le, if◌then◌else◌, []}
use Rattle.call_log.specs.Numbers as numbers
use Rattle.call_log.specs.declared.errno.Errno.TheVariants.{Enosys}
use Rattle.mmap_rules.specs.Space.{Space}
use Rattle.machine_world.specs.Asks.{Ask, arg, Row, replies, leaves, answers, refuses}
use Rattle.machine_world.specs.Descriptors.{dup_row, dup3_row, ioctl_row, close_row, pipe2_row, llseek_row, getdents_row}
use Rattle.machine_world.specs.Transfers.{read_row, readv_row, write_row, writev_row}
use Rattle.machine_world.specs.PathCalls.{mkdirat_row, unlinkat_row, openat_row}
use Rattle.machine_world.specs.MapCalls.{munmap_row, mmap2_row}

unfoldable pub yield_row : Ask → Row
yield_row a = replies (record { value = 0; got = []; rest = a.rest; space = a.space; over = true })

abbrev pub next_brk : Space → ℕ → ℕ
next_brk s to = if nat_le s.brk_low to && nat_le to s.brk_high then to else s.brk

unfoldable pub brk_row : Ask → Row
brk_row a = leaves a (next_brk a.space (arg a 0)) (record a.space { brk = next_brk a.space (arg a 0) })

-- set_tid_address, getpid and gettid
abbrev pub asks_pid : ℕ → Bool
asks_pid number = number == numbers.set_tid_address || number == numbers.getpid || number == numbers.gettid

-- any other number is ENOSYS
unfoldable pub row : Ask → Row
row a =
    if a.number == numbers.dup then dup_row a
    else if a.number == numbers.dup3 then dup3_row a
    else if a.number == numbers.ioctl then ioctl_row a
    else if a.number == numbers.mkdirat then mkdirat_row a
    else if a.number == numbers.unlinkat then unlinkat_row a
    else if a.number == numbers.openat then openat_row a
    else if a.number == numbers.close then close_row a
    else if a.number == numbers.pipe2 then pipe2_row a
    else if a.number == numbers.getdents64 then getdents_row a
    else if a.number == numbers.llseek then llseek_row a
    else if a.number == numbers.read then read_row a
    else if a.number == numbers.write then write_row a a.sent
    else if a.number == numbers.readv then readv_row a
    else if a.number == numbers.writev then writev_row a
    else if asks_pid a.number then answers a a.process.pid
    else if a.number == numbers.sched_yield then yield_row a
    else if a.number == numbers.getppid then answers a a.process.parent
    else if a.number == numbers.brk then brk_row a
    else if a.number == numbers.munmap then munmap_row a
    else if a.number == numbers.mmap2 then mmap2_row a
    else refuses a Enosys
