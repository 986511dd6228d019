use Rattle.std.proofs.Common.{◌≡◌, ◌-◌, ◌≤◌, length}
use Rattle.std.specs.Prelude.{reverse}
use Rattle.romfs_image.specs.Walk.{walk, walked}
use Rattle.romfs_image.specs.Reading.{FilesFit}
use Rattle.romfs_image.specs.Code.{found, HasNames}
use Rattle.romfs_image.proofs.walk.take_all.Given as goal

-- the walk from here is the walk over the whole image
abbrev pub invariant-loop : goal.invariant-loop
invariant-loop l = record {
  rest : walk (length l.image - l.counter) l.image l.before (reverse l.levels.items) (found l.entries.items) ≡ walked l.image;
  few : length l.entries.items ≤ l.counter;
  names : HasNames l.names (found l.entries.items);
  fit : FilesFit l.image (found l.entries.items);
}
