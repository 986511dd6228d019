-- Bytes of a process.
use Rattle.std.specs.Prelude.{ℕ, List, Option, Some, None, Result, Ok, Err}
use Rattle.vfork_exec.specs.Keyed.{find}
use Rattle.call_log.specs.Sent.{Span, read_span}
use Rattle.memory_world.specs.Physical.{Physical}
use Rattle.machine_world.specs.World.{World, Process, LiveSpace, pid_of, id_of}

abbrev pub read_or_none : Result (List ℕ) Span → Option (List ℕ)
read_or_none (Ok bytes) = Some bytes
read_or_none (Err span) = None

abbrev pub bytes_in : ℕ → ℕ → Option LiveSpace → Option (List ℕ)
bytes_in addr len None = None
bytes_in addr len (Some s) = read_or_none (read_span s.space.bytes (record { addr = addr; len = len }))

abbrev pub bytes_of : World → ℕ → ℕ → Option Process → Option (List ℕ)
bytes_of w addr len None = None
bytes_of w addr len (Some p) = bytes_in addr len (find id_of p.space w.spaces)

-- `len` bytes from `addr` on, where the process lives and each is its own
unfoldable pub own_bytes : World → ℕ → ℕ → ℕ → Option (List ℕ)
own_bytes w pid addr len = bytes_of w addr len (find pid_of pid w.procs)

-- the same of all of memory
abbrev pub bytes_for : Physical → ℕ → ℕ → Option Process → Option (List ℕ)
bytes_for p addr len None = None
bytes_for p addr len (Some q) = read_or_none (read_span p.memory (record { addr = addr; len = len }))

unfoldable pub memory_bytes : Physical → ℕ → ℕ → ℕ → Option (List ℕ)
memory_bytes p pid addr len = bytes_for p addr len (find pid_of pid p.world.procs)
