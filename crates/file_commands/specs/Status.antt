-- The number of each status, which is the exit status of the program.
use Rattle.std.specs.Prelude.{ℕ}
use Rattle.file_commands.specs.declared.status.Status.{Status}
use Rattle.file_commands.specs.declared.status.Status.TheVariants.{Done, Usage, HostRead, Refused, Stray, OutOfQuanta, LogFull, SinkWrite, Memory, HostWrite, Stuck, Refuted}

abbrev pub code_of : Status → ℕ
code_of Done = 0
code_of Usage = 1
code_of HostRead = 2
code_of Refused = 3
code_of Stray = 4
code_of OutOfQuanta = 5
code_of LogFull = 6
code_of SinkWrite = 7
code_of Memory = 8
code_of HostWrite = 9
code_of Stuck = 10
code_of Refuted = 11
