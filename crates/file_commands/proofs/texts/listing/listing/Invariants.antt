-- The text so far is the header and the lines of the records so far.
use Rattle.std.proofs.Common.{◌≡◌, ◌++◌, take, string_bytes}
use Rattle.std.specs.List.{flat_map}
use Rattle.file_commands.specs.Texts.Listing.{header_lines, line_at}
use Rattle.file_commands.proofs.texts.listing.listing.Given as goal

abbrev pub invariant-loop-number : goal.invariant-loop-number
invariant-loop-number l =
    string_bytes l.text ≡ header_lines l.initial.flat ++ flat_map (line_at l.flat.body) (take l.number-index l.number-items)
