-- The numbers of a command that is read lie in their ranges.
use Rattle.std.proofs.Common.{◌≡◌, ℕ, ◌≤◌, Bool, true, false, cond, List, [], ◌∷◌, Option, Some, None, refl, arith}
use Rattle.std.specs.Prelude.{codes, bytes_eq, option_map}
use Rattle.file_commands.specs.declared.command.Format.{Format}
use Rattle.file_commands.specs.declared.command.TraceOptions.{TraceOptions}
use Rattle.file_commands.specs.Arguments.{RunOptions, Invocation, convert, list, check, run, trace, unromfs, replay, demo, least_stack, most_stack, least_programs, most_programs, stack_of, programs_of, only, romfs_of, convert_of, check_of, run_options, run_of, trace_options, trace_of, format_of_word, replay_of, demo_of, command_of}
use Rattle.file_commands.proofs.SpelledNumbers.{is_spelled}

-- what the commands ask for of their numbers
abbrev pub HasRanges : Option Invocation → Type 0
HasRanges (Some (convert elf flt stack)) = (least_stack ≤ stack) × (stack ≤ most_stack)
HasRanges (Some (demo programs)) = (least_programs ≤ programs) × (programs ≤ most_programs)
HasRanges other = Unit {0}

either : (b : Bool) (one other : Option Invocation) → HasRanges one → HasRanges other → HasRanges (cond b one other)
either true one other is is_other = is
either false one other is is_other = is_other

-- ---- `convert`

stack_has : (elf flt text : List ℕ) (o : Option ℕ) → stack_of text ≡ o → HasRanges (option_map (convert elf flt) o)
stack_has elf flt text None is = tt
stack_has elf flt text (Some n) is = let spells = is_spelled least_stack most_stack (omega arith) text n is in (spells.1, spells.2)

convert_has : (words : List (List ℕ)) → HasRanges (convert_of words)
convert_has [] = tt
convert_has (elf ∷ []) = tt
convert_has (elf ∷ flt ∷ []) = (omega arith, omega arith)
convert_has (elf ∷ flt ∷ option ∷ []) = tt
convert_has (elf ∷ flt ∷ option ∷ number ∷ []) =
    either (bytes_eq option (codes "--stack")) (option_map (convert elf flt) (stack_of number)) None (stack_has elf flt number (stack_of number) refl) tt
convert_has (elf ∷ flt ∷ option ∷ number ∷ word ∷ words) = tt

-- ---- `list`, `check` and `unromfs`

list_has : (o : Option (List ℕ)) → HasRanges (option_map list o)
list_has None = tt
list_has (Some flt) = tt

check_has : (words : List (List ℕ)) → HasRanges (check_of words)
check_has [] = tt
check_has (elf ∷ []) = tt
check_has (elf ∷ option ∷ []) = either (bytes_eq option (codes "--all")) (Some (check elf true)) None tt tt
check_has (elf ∷ option ∷ word ∷ words) = tt

unromfs_has : (o : Option (List ℕ)) → HasRanges (option_map unromfs o)
unromfs_has None = tt
unromfs_has (Some image) = tt

-- ---- `romfs`

romfs_has : (words : List (List ℕ)) → HasRanges (romfs_of words)
romfs_has [] = tt
romfs_has (manifest ∷ []) = tt
romfs_has (manifest ∷ image ∷ []) = tt
romfs_has (manifest ∷ image ∷ word ∷ words) = tt

-- ---- `replay`

format_has : (file items : List ℕ) (o : Option Format) → HasRanges (option_map (λ kind. replay kind file items) o)
format_has file items None = tt
format_has file items (Some kind) = tt

replay_has : (words : List (List ℕ)) → HasRanges (replay_of words)
replay_has [] = tt
replay_has (word ∷ []) = tt
replay_has (word ∷ file ∷ []) = tt
replay_has (word ∷ file ∷ items ∷ []) = format_has file items (format_of_word word)
replay_has (word ∷ file ∷ items ∷ more ∷ words) = tt

-- ---- `run` and `trace`

read_has : (manifest : List ℕ) (o : Option RunOptions) → HasRanges (option_map (run manifest) o)
read_has manifest None = tt
read_has manifest (Some options) = tt

run_has : (words : List (List ℕ)) → HasRanges (run_of words)
run_has [] = tt
run_has (manifest ∷ words) = read_has manifest (run_options words)

shown_has : (manifest : List ℕ) (o : Option TraceOptions) → HasRanges (option_map (trace manifest) o)
shown_has manifest None = tt
shown_has manifest (Some options) = tt

trace_has : (words : List (List ℕ)) → HasRanges (trace_of words)
trace_has [] = tt
trace_has (manifest ∷ words) = shown_has manifest (trace_options words)

-- ---- `demo`

programs_have : (text : List ℕ) (o : Option ℕ) → programs_of text ≡ o → HasRanges (option_map demo o)
programs_have text None is = tt
programs_have text (Some n) is = let spells = is_spelled least_programs most_programs (omega arith) text n is in (spells.1, spells.2)

demo_has : (words : List (List ℕ)) → HasRanges (demo_of words)
demo_has [] = tt
demo_has (number ∷ []) = programs_have number (programs_of number) refl
demo_has (number ∷ word ∷ words) = tt

-- ---- the table

from_demo : (first : List ℕ) (words : List (List ℕ)) → HasRanges (cond (bytes_eq first (codes "demo")) (demo_of words) None)
from_demo first words = either (bytes_eq first (codes "demo")) (demo_of words) None (demo_has words) tt

abbrev replay_onward : (first : List ℕ) (words : List (List ℕ)) → Option Invocation
replay_onward first words = cond (bytes_eq first (codes "replay")) (replay_of words) (cond (bytes_eq first (codes "demo")) (demo_of words) None)

from_replay : (first : List ℕ) (words : List (List ℕ)) → HasRanges (replay_onward first words)
from_replay first words = either (bytes_eq first (codes "replay")) (replay_of words) _ (replay_has words) (from_demo first words)

abbrev images_of : (first : List ℕ) (words : List (List ℕ)) → Option Invocation
images_of first words = cond (bytes_eq first (codes "romfs")) (romfs_of words) (cond (bytes_eq first (codes "unromfs")) (option_map unromfs (only words)) (replay_onward first words))

from_images : (first : List ℕ) (words : List (List ℕ)) → HasRanges (images_of first words)
from_images first words =
    either (bytes_eq first (codes "romfs")) (romfs_of words) _ (romfs_has words)
    (either (bytes_eq first (codes "unromfs")) (option_map unromfs (only words)) _ (unromfs_has (only words)) (from_replay first words))

from_trace : (first : List ℕ) (words : List (List ℕ)) → HasRanges (cond (bytes_eq first (codes "trace")) (trace_of words) (images_of first words))
from_trace first words = either (bytes_eq first (codes "trace")) (trace_of words) _ (trace_has words) (from_images first words)

pub read_in_ranges : (words : List (List ℕ)) → HasRanges (command_of words)
read_in_ranges [] = tt
read_in_ranges (first ∷ words) =
    either (bytes_eq first (codes "convert")) (convert_of words) _ (convert_has words)
    (either (bytes_eq first (codes "list")) (option_map list (only words)) _ (list_has (only words))
    (either (bytes_eq first (codes "check")) (check_of words) _ (check_has words)
    (either (bytes_eq first (codes "run")) (run_of words) _ (run_has words) (from_trace first words))))
