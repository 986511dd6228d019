-- What a replay answers: the verdict on a program that is loaded at the items' base, or why there is none.
use Rattle.std.specs.Prelude.{◌≡◌, ℕ, ◌+◌, ◌||◌, nat_lt, if◌then◌else◌, List, Option, Some, None, Result, Ok, Err}
use Rattle.bflt_format.specs.Values.{Values}
use Rattle.elf2flt_tool.specs.declared.refusal.Refusal.{Refusal}
use Rattle.elf2flt_tool.specs.Fault.{fault}
use Rattle.flat_loader.specs.Original.{Original, flat_original, block_len}
use Rattle.flat_loader.specs.Frame.{frame_fits}
use Rattle.flat_loader.specs.Begin.{Loading}
use Rattle.flat_loader.specs.Alone.{alone}
use Rattle.originals.specs.Originals.{elf_original}
use Rattle.items_text.specs.Items.{ItemsValue}
use Rattle.replay_check.specs.declared.fault.ReplayFault.{ReplayFault}
use Rattle.replay_check.specs.declared.fault.ReplayFault.TheVariants as why
use Rattle.replay_check.specs.declared.original.Original.{Original as Stored}
use Rattle.replay_check.specs.declared.original.Original.TheVariants.{Elf, Flat}
use Rattle.replay_check.specs.declared.verdict.Verdict.{Verdict}
use Rattle.replay_check.specs.Verdicts.{verdict, Judges}
use Rattle.replay_check.specs.Loops.{items_alone}

-- a linked ELF file, or a flat file
pub data OriginalFile : Type 0 where
  elf_file : List ℕ → OriginalFile
  flat_file : Values → OriginalFile

abbrev pub original_value : Stored → OriginalFile
original_value (Elf bytes) = elf_file bytes.now
original_value (Flat flat) = flat_file flat.now

-- its program: an ELF file's has the stack of the items
abbrev pub program_of : OriginalFile → (stack : ℕ) → Original
program_of (elf_file bytes) stack = elf_original bytes stack
program_of (flat_file f) stack = flat_original f

abbrev pub loading_of : Original → ItemsValue → Loading
loading_of o i = record { original = o; block = i.base; args = i.args; env = i.env }

-- the address behind the last page that memory can have
abbrev pub memory_end : ℕ
memory_end = 0x84000000

-- where the start frame fits, and the block doesn't pass the end of memory
unfoldable pub placed_verdict : Original → ItemsValue → Result Verdict ReplayFault
placed_verdict o i =
    if frame_fits o i.args i.env then
    if nat_lt memory_end (i.base + block_len o) then Err why.Base
    else Ok (verdict (loading_of o i) i.pid (items_alone i.list) i.events)
    else Err why.Args

-- an ELF file's stack has 16 to 1,048,576 bytes
abbrev pub with_stack : Original → ItemsValue → Result Verdict ReplayFault
with_stack o i = if nat_lt i.stack 16 || nat_lt 1048576 i.stack then Err why.Stack else placed_verdict o i

abbrev pub unless_refused : Option Refusal → Result Verdict ReplayFault → Result Verdict ReplayFault
unless_refused None r = r
unless_refused (Some refusal) r = Err (why.Original refusal)

unfoldable pub replayed : OriginalFile → ItemsValue → Result Verdict ReplayFault
replayed (elf_file bytes) i = unless_refused (fault bytes) (with_stack (elf_original bytes i.stack) i)
replayed (flat_file f) i = placed_verdict (flat_original f) i

-- ---- what the code answers

-- just this; out of memory says nothing
abbrev pub Replays : Result Verdict ReplayFault → Result Verdict ReplayFault → Type 0
Replays wanted (Ok v) = wanted ≡ Ok v
Replays wanted (Err why.Memory) = Unit {0}
Replays wanted (Err (why.Original refusal)) = wanted ≡ Err (why.Original refusal)
Replays wanted (Err why.Stack) = wanted ≡ Err why.Stack
Replays wanted (Err why.Args) = wanted ≡ Err why.Args
Replays wanted (Err why.Base) = wanted ≡ Err why.Base

-- yes exactly where the run by itself isn't refuted
abbrev pub JudgesRun : OriginalFile → ItemsValue → Verdict → Type 0
JudgesRun o i v = Judges v (alone (loading_of (program_of o i.stack) i) i.pid (items_alone i.list) i.events)
