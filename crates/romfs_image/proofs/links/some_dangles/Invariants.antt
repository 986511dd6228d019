use Rattle.std.proofs.Common.{◌≡◌, take, false}
use Rattle.std.specs.List.{list_any}
use Rattle.romfs_image.specs.Reading.{is_dangling}
use Rattle.romfs_image.specs.Code.{found}
use Rattle.romfs_image.proofs.links.some_dangles.Given as goal

abbrev pub invariant-loop-entry : goal.invariant-loop-entry
invariant-loop-entry l = list_any (is_dangling (found l.entries)) (found (take l.entry-index l.entries)) ≡ false
