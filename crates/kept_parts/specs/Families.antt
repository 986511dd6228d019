-- What a process is told of its children, and which program a path leads to.
use Rattle.std.specs.Prelude.{ℕ, List, Option, Some, None, Result, Ok, Err}
use Rattle.call_log.specs.declared.errno.Errno.{Errno}
use Rattle.call_log.specs.declared.errno.Errno.TheVariants.{Enoent, Eacces}
use Rattle.mem_files.specs.Inodes.{Inodes, program_of}
use Rattle.vfork_exec.specs.declared.family.Waited.{Waited}
use Rattle.vfork_exec.specs.declared.family.Waited.TheVariants.{Child, NoneYet, Waits}
use Rattle.machine_world.specs.FamilyCalls.{child_info, no_info}

-- zeros where no child has ended
abbrev pub info_of : Waited → List ℕ
info_of (Child pid how) = child_info pid how
info_of NoneYet = no_info
info_of Waits = no_info

abbrev pub or_eacces : Option ℕ → Result ℕ Errno
or_eacces (Some index) = Ok index
or_eacces None = Err Eacces

-- the number that a file is marked with
abbrev pub mark_at : Inodes → Result (Option ℕ) Errno → Result ℕ Errno
mark_at tree (Ok (Some node)) = or_eacces (program_of tree node)
mark_at tree (Ok None) = Err Enoent
mark_at tree (Err errno) = Err errno
