-- The words and the texts of a replay.
use Rattle.std.proofs.Common.{◌≡◌, ℕ, zero, suc, List, [], ◌∷◌, Some, None, refl}
use Rattle.std.specs.Prelude.{codes}
use Rattle.std.specs.Fmt.{digits}
use Rattle.replay_check.specs.declared.fault.ReplayFault.TheVariants as fault
use Rattle.file_commands.specs.declared.command.Format.TheVariants.{Elf, Flat}
use Rattle.file_commands.specs.declared.status.Status.TheVariants.{HostRead}
use Rattle.file_commands.specs.Ending.{early_ending}
use Rattle.file_commands.specs.Outcome.{load, Inputs}
use Rattle.file_commands.specs.Replay.{replay_outcome}
use Rattle.file_commands.specs.Arguments.{replay, command_of}
use Rattle.file_commands.specs.Texts.Replays.{yes_line, no_line, items_tail, replay_tail}

-- the arguments of the command, and some that are none
elf_is_read : command_of (codes "replay" ∷ codes "elf" ∷ codes "a" ∷ codes "i" ∷ []) ≡ Some (replay Elf (codes "a") (codes "i"))
elf_is_read = refl

flat_is_read : command_of (codes "replay" ∷ codes "flat" ∷ codes "a" ∷ codes "i" ∷ []) ≡ Some (replay Flat (codes "a") (codes "i"))
flat_is_read = refl

no_replay :
    (command_of (codes "replay" ∷ codes "elf" ∷ codes "a" ∷ []) ∷ command_of (codes "replay" ∷ codes "a" ∷ codes "i" ∷ [])
    ∷ command_of (codes "replay" ∷ codes "bflt" ∷ codes "a" ∷ codes "i" ∷ []) ∷ command_of (codes "replay" ∷ codes "elf" ∷ codes "a" ∷ codes "i" ∷ codes "j" ∷ []) ∷ [])
    ≡ (None ∷ None ∷ None ∷ None ∷ [])
no_replay = refl

-- the lines of `kept-items` and `replay-verdicts`, and the tails
yes_is_told : yes_line 2 9 ≡ codes "replay yes items 2 events 9\n"
unfolding digits
yes_is_told = refl

no_is_told : no_line 1 5 ≡ codes "replay no item 1 after 5 events\n"
unfolding digits
no_is_told = refl

line_is_told : items_tail 5 ≡ codes "items line 5"
unfolding digits
line_is_told = refl

tails_are_told : (replay_tail fault.Stack ∷ replay_tail fault.Args ∷ replay_tail fault.Base ∷ []) ≡ (codes "stack" ∷ codes "args" ∷ codes "base" ∷ [])
tails_are_told = refl

-- the program is asked for first, and then the items
abbrev nowhere : Inputs
nowhere number name = None

abbrev one_there : Inputs
one_there zero name = Some []
one_there (suc number) name = None

no_program : replay_outcome Elf (codes "a") (codes "i") nowhere ≡ record { requests = load (codes "a") ∷ []; ending = early_ending HostRead (codes "host: cannot read a\n") }
unfolding replay_outcome
no_program = refl

no_items : replay_outcome Flat (codes "a") (codes "i") one_there ≡ record { requests = load (codes "a") ∷ load (codes "i") ∷ []; ending = early_ending HostRead (codes "host: cannot read i\n") }
unfolding replay_outcome
no_items = refl
