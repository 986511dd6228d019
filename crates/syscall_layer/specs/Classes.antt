-- The classes of system calls, by their numbers.
use Rattle.std.specs.Prelude.{◌≡◌, ◌≢◌, ℕ, true, false}
use Rattle.call_log.specs.Numbers as numbers
use Rattle.machine_world.specs.Event.{is_exit}
use Rattle.file_calls.specs.Calls.{is_change, is_output}
use Rattle.kept_parts.specs.MapsIn.{is_mapping}
use Rattle.syscall_layer.specs.declared.classes.Class.{Class}
use Rattle.syscall_layer.specs.declared.classes.Class.TheVariants.{Exit, Change, Output, Waitid, Munmap, Clone, Execve, Mmap2, Effect}

-- a number of no other class
pub record IsEffect (number : ℕ) : Type 0 where
  pub exit : is_exit number ≡ false
  pub change : is_change number ≡ false
  pub output : is_output number ≡ false
  pub mapping : is_mapping number ≡ false
  pub waitid : number ≢ numbers.waitid
  pub clone : number ≢ numbers.clone
  pub execve : number ≢ numbers.execve

-- a number is of one class, and of no other
abbrev pub IsOf : Class → ℕ → Type 0
IsOf Exit number = is_exit number ≡ true
IsOf Change number = is_change number ≡ true
IsOf Output number = is_output number ≡ true
IsOf Waitid number = number ≡ numbers.waitid
IsOf Munmap number = number ≡ numbers.munmap
IsOf Clone number = number ≡ numbers.clone
IsOf Execve number = number ≡ numbers.execve
IsOf Mmap2 number = number ≡ numbers.mmap2
IsOf Effect number = IsEffect number
