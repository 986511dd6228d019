-- Which processes have a core file: their segments are counted in two bytes, and each offset is a number of four.
use Rattle.std.specs.Prelude.{ℕ, ◌<◌, ◌≤◌, length}
use Rattle.core_file.specs.Text.{CoreValue, SegmentValue, bytes_of}

-- a process has at most as many segments as memory has pages, and at most memory's bytes
pub record FitsFile (c : CoreValue) : Type 0 where
  pub few : length c.segments ≤ 16384
  pub fit : length (bytes_of c.segments) ≤ 67108864
