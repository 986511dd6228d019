-- How the arguments of each call are shown, from a0 on.
use Rattle.std.specs.Prelude.{List, [], ◌∷◌, Option, Some, None}
use Rattle.trace_text.specs.declared.call.Call.{Call}
use Rattle.trace_text.specs.declared.call.Call.TheVariants.{Dup, Dup3, Ioctl, Mkdirat, Unlinkat, Openat, Close, Pipe2, Getdents64, Llseek, Read, Write, Readv, Writev, Exit, ExitGroup, Waitid, SetTidAddress, SchedYield, Getpid, Getppid, Gettid, Brk, Munmap, Clone, Execve, Mmap2}
use Rattle.trace_text.specs.declared.form.Form.{Form}
use Rattle.trace_text.specs.declared.form.Form.TheVariants.{Decimal, Word, Path, Data}

abbrev pub call_forms : Call → List Form
call_forms Dup = Decimal ∷ []
call_forms Dup3 = Decimal ∷ Decimal ∷ Word ∷ []
call_forms Ioctl = Decimal ∷ Word ∷ Word ∷ []
call_forms Mkdirat = Decimal ∷ Path ∷ Word ∷ []
call_forms Unlinkat = Decimal ∷ Path ∷ Word ∷ []
call_forms Openat = Decimal ∷ Path ∷ Word ∷ Word ∷ []
call_forms Close = Decimal ∷ []
call_forms Pipe2 = Word ∷ Word ∷ []
call_forms Getdents64 = Decimal ∷ Word ∷ Decimal ∷ []
call_forms Llseek = Decimal ∷ Decimal ∷ Decimal ∷ Word ∷ Decimal ∷ []
call_forms Read = Decimal ∷ Word ∷ Decimal ∷ []
call_forms Write = Decimal ∷ Data ∷ Decimal ∷ []
call_forms Readv = Decimal ∷ Word ∷ Decimal ∷ []
call_forms Writev = Decimal ∷ Word ∷ Decimal ∷ []
call_forms Exit = Decimal ∷ []
call_forms ExitGroup = Decimal ∷ []
call_forms Waitid = Decimal ∷ Decimal ∷ Word ∷ Word ∷ Word ∷ []
call_forms SetTidAddress = Word ∷ []
call_forms SchedYield = []
call_forms Getpid = []
call_forms Getppid = []
call_forms Gettid = []
call_forms Brk = Word ∷ []
call_forms Munmap = Word ∷ Decimal ∷ []
call_forms Clone = Word ∷ Word ∷ []
call_forms Execve = Path ∷ Word ∷ Word ∷ []
call_forms Mmap2 = Word ∷ Decimal ∷ Word ∷ Word ∷ Decimal ∷ Decimal ∷ []

-- all six words of a call that isn't served
abbrev pub forms_of : Option Call → List Form
forms_of (Some call) = call_forms call
forms_of None = Word ∷ Word ∷ Word ∷ Word ∷ Word ∷ Word ∷ []
