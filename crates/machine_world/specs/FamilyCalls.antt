-- What waitid, clone and execve are asked (Linux, wait(2), vfork(2), execve(2), include/uapi/linux/wait.h, sched.h and
-- asm-generic/siginfo.h, in this project's profile).
use Rattle.std.specs.Prelude.{ℕ, ◌==◌, Bool, not, ◌||◌, nat_lt, if◌then◌else◌, List, [], ◌∷◌, flat_map, replicate, Option, Some, None, Result, Ok, Err}
use Rattle.byteorder.specs.Endian.{little_bytes}
use Rattle.byte_words.specs.Search.{first}
use Rattle.call_log.specs.declared.errno.Errno.{Errno}
use Rattle.call_log.specs.declared.errno.Errno.TheVariants.{Enoent, Eacces, Einval}
use Rattle.call_log.specs.declared.how.How.{How}
use Rattle.call_log.specs.declared.how.How.TheVariants.{Exit, Signal}
use Rattle.call_log.specs.Notes.{GotRange}
use Rattle.mem_files.specs.Inodes.{program_of}
use Rattle.mem_files.specs.Paths.{lookup}
use Rattle.vfork_exec.specs.declared.family.Who.{Who}
use Rattle.vfork_exec.specs.declared.family.Who.TheVariants.{All, Pid}
use Rattle.machine_world.specs.World.{Rest}
use Rattle.machine_world.specs.Asks.{Ask, arg}
use Rattle.machine_world.specs.Found.{Found, found_mark}

-- ---- waitid(kind, id, info, options, usage)

-- P_ALL and P_PID
abbrev pub who_of : Ask → Who
who_of a = if arg a 0 == 0 then All else Pid (arg a 1)

-- WEXITED alone, or with WNOHANG
abbrev pub are_options : ℕ → Bool
are_options options = options == 4 || options == 5

abbrev pub may_wait : ℕ → Bool
may_wait options = options == 4

abbrev pub waitid_fault : Ask → Option Errno
waitid_fault a = first ((nat_lt 1 (arg a 0), Einval) ∷ (not (are_options (arg a 3)), Einval) ∷ (not (arg a 4 == 0), Einval) ∷ [])

-- SIGCHLD, and CLD_EXITED or CLD_KILLED
abbrev pub child_signal : ℕ
child_signal = 17

abbrev pub end_code : How → ℕ
end_code (Exit code) = 1
end_code (Signal signal) = 2

abbrev pub end_status : How → ℕ
end_status (Exit code) = code
end_status (Signal signal) = signal

-- the first six words of siginfo_t: signo, errno, code, pid, uid, status
unfoldable pub child_info : ℕ → How → List ℕ
child_info pid how = flat_map (little_bytes 4) (child_signal ∷ 0 ∷ end_code how ∷ pid ∷ 0 ∷ end_status how ∷ [])

-- no child has ended
abbrev pub no_info : List ℕ
no_info = replicate 24 0

-- nothing is written at 0
abbrev pub info_at : ℕ → List ℕ → List GotRange
info_at at info = if at == 0 then [] else record { addr = at; bytes = info } ∷ []

-- ---- clone(flags, stack)

-- CLONE_VM, CLONE_VFORK and SIGCHLD
abbrev pub vfork_flags : ℕ
vfork_flags = 0x4111

-- ---- execve(path, args, env)

abbrev pub or_eacces : Option Found → Result Found Errno
or_eacces (Some f) = Ok f
or_eacces None = Err Eacces

abbrev pub runs_node : Rest → Result (Option ℕ) Errno → Result Found Errno
runs_node rest (Ok (Some node)) = or_eacces (found_mark rest.programs (program_of rest.tree node))
runs_node rest (Ok None) = Err Enoent
runs_node rest (Err errno) = Err errno

-- the program to which a path leads. ENOENT where nothing is there, EACCES where it is a folder or a file that is no program
abbrev pub runs : Rest → List ℕ → Result Found Errno
runs rest path = runs_node rest (lookup rest.tree path)
