-- The command `unromfs IMG`: what the romfs image IMG has is written, or its first fault.
use Rattle.std.specs.Prelude.{ℕ, List, [], Result, Ok, Err}
use Rattle.romfs_image.specs.declared.fault.RomFault.{RomFault}
use Rattle.romfs_image.specs.Nodes.{RomValue}
use Rattle.romfs_image.specs.Reading.{rom_read}
use Rattle.file_commands.specs.Texts.Images.{rom_tail, image_listing}
use Rattle.file_commands.specs.Ending.{Ending, done_ending, refused_ending}
use Rattle.file_commands.specs.Outcome.{Outcome, Inputs}
use Rattle.file_commands.specs.OneFile.{with_file}

abbrev pub read_ending : Result (List RomValue) RomFault → Ending
read_ending (Ok nodes) = done_ending (image_listing nodes)
read_ending (Err first) = refused_ending (rom_tail first)

-- of the file y
abbrev pub unmade_ending : List ℕ → Ending
unmade_ending y = read_ending (rom_read y)

-- behind the load nothing more is requested
abbrev pub unmade_outcome : List ℕ → Outcome
unmade_outcome y = record { requests = []; ending = unmade_ending y }

abbrev pub unromfs_outcome : List ℕ → Inputs → Outcome
unromfs_outcome image inputs = with_file image (inputs 0 image) unmade_outcome
