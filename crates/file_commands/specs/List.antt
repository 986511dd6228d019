-- The command `list FLT`: the listing of the flat file FLT is written, or its first fault.
use Rattle.std.specs.Prelude.{ℕ, List, [], Option, Some, None}
use Rattle.bflt_format.specs.declared.fault.FlatFault.{FlatFault}
use Rattle.bflt_format.specs.Header.{flat_values}
use Rattle.bflt_format.specs.Fault.{flat_fault}
use Rattle.file_commands.specs.Texts.Listing.{listing, flat_tail}
use Rattle.file_commands.specs.Ending.{Ending, done_ending, refused_ending}
use Rattle.file_commands.specs.Outcome.{Outcome, Inputs}
use Rattle.file_commands.specs.OneFile.{with_file}

abbrev pub judged_ending : List ℕ → Option FlatFault → Ending
judged_ending y (Some first) = refused_ending (flat_tail first)
judged_ending y None = done_ending (listing (flat_values y))

-- of the file y
abbrev pub listed_ending : List ℕ → Ending
listed_ending y = judged_ending y (flat_fault y)

-- behind the load nothing more is requested
abbrev pub listed_outcome : List ℕ → Outcome
listed_outcome y = record { requests = []; ending = listed_ending y }

abbrev pub list_outcome : List ℕ → Inputs → Outcome
list_outcome flt inputs = with_file flt (inputs 0 flt) listed_outcome
