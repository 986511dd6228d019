-- What a core file says of a process in a world.
use Rattle.std.specs.Prelude.{ℕ, ◌+◌, Option, Some, None, option_map}
use Rattle.vfork_exec.specs.Keyed.{find}
use Rattle.machine_world.specs.World.{World, Process, LiveSpace, pid_of, id_of}
use Rattle.core_file.specs.Text.{CoreValue}
use Rattle.core_world.specs.Segments.{segments}

-- its parent is 0 where it has none
abbrev pub core_at : World → (signal : ℕ) → Process → Option LiveSpace → Option CoreValue
core_at w signal p None = None
core_at w signal p (Some s) =
    Some (record { signal = signal; pid = p.pid; parent = p.parent; regs = p.regs; segments = segments w.rest.pages s.space })

abbrev pub core_for : World → (signal : ℕ) → Option Process → Option CoreValue
core_for w signal None = None
core_for w signal (Some p) = core_at w signal p (find id_of p.space w.spaces)

-- of a process that lives, with the signal by which it would end next, or 0
unfoldable pub core_in : World → (pid signal : ℕ) → Option CoreValue
core_in w pid signal = core_for w signal (find pid_of pid w.procs)

-- the load note of its program, from 1
unfoldable pub load_in : World → (pid : ℕ) → Option ℕ
load_in w pid = option_map (λ p. p.space + 1) (find pid_of pid w.procs)
