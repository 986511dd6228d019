-- The command `replay elf|flat FILE ITEMS`: whether the items in ITEMS are a run of the program in FILE by itself.
use Rattle.std.specs.Prelude.{ℕ, List, length, Option, Some, None, Result, Ok, Err}
use Rattle.bflt_format.specs.declared.fault.FlatFault.{FlatFault}
use Rattle.bflt_format.specs.Header.{flat_values}
use Rattle.bflt_format.specs.Fault.{flat_fault}
use Rattle.items_text.specs.Items.{ItemsValue}
use Rattle.items_text.specs.Reading.{items_of}
use Rattle.replay_check.specs.declared.fault.ReplayFault.{ReplayFault}
use Rattle.replay_check.specs.declared.verdict.Verdict.{Verdict}
use Rattle.replay_check.specs.declared.verdict.Verdict.TheVariants.{Yes, No}
use Rattle.replay_check.specs.Replays.{elf_file, flat_file, replayed}
use Rattle.file_commands.specs.declared.command.Format.{Format}
use Rattle.file_commands.specs.declared.command.Format.TheVariants as format
use Rattle.file_commands.specs.Texts.Listing.{flat_tail}
use Rattle.file_commands.specs.Texts.Replays.{yes_line, no_line, items_tail, replay_tail}
use Rattle.file_commands.specs.Ending.{Ending, done_ending, refuted_ending, refused_ending}
use Rattle.file_commands.specs.Outcome.{Outcome, Inputs}
use Rattle.file_commands.specs.Load.{at_once, with_load}
use Rattle.file_commands.specs.OneFile.{file_limit}

-- the most bytes of the items' text
abbrev pub items_limit : ℕ
items_limit = 536870912

-- ---- behind both loads

abbrev pub verdict_ending : ItemsValue → Verdict → Ending
verdict_ending i Yes = done_ending (yes_line (length i.list) i.events)
verdict_ending i (No item events) = refuted_ending (no_line item events)

abbrev pub replayed_ending : ItemsValue → Result Verdict ReplayFault → Ending
replayed_ending i (Ok v) = verdict_ending i v
replayed_ending i (Err why) = refused_ending (replay_tail why)

-- a flat file has no fault, or its first one is told
abbrev pub flat_ending : (y : List ℕ) → ItemsValue → Option FlatFault → Ending
flat_ending y i None = replayed_ending i (replayed (flat_file (flat_values y)) i)
flat_ending y i (Some first) = refused_ending (flat_tail first)

abbrev pub program_ending : Format → (program : List ℕ) → ItemsValue → Ending
program_ending format.Elf program i = replayed_ending i (replayed (elf_file program) i)
program_ending format.Flat program i = flat_ending program i (flat_fault program)

-- the items' text is looked at before the program
abbrev pub read_ending : Format → (program : List ℕ) → Result ItemsValue ℕ → Ending
read_ending kind program (Err line) = refused_ending (items_tail line)
read_ending kind program (Ok i) = program_ending kind program i

unfoldable pub replay_ending : Format → (program text : List ℕ) → Ending
replay_ending kind program text = read_ending kind program (items_of text)

-- ---- all in order

-- behind the program's file
abbrev pub loaded_outcome : Format → (program : List ℕ) → (items : List ℕ) → Inputs → Outcome
loaded_outcome kind program items inputs = with_load items_limit None items (λ text more. at_once (replay_ending kind program text)) inputs

-- FILE is load 0, and ITEMS load 1; nothing is stored
unfoldable pub replay_outcome : Format → (file items : List ℕ) → Inputs → Outcome
replay_outcome kind file items inputs = with_load file_limit None file (λ program. loaded_outcome kind program items) inputs
