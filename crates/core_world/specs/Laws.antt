-- Laws of cores.
use Rattle.std.specs.Prelude.{◌≡◌, ℕ, ◌*◌, ◌≤◌, true, List, length, is_some}
use Rattle.std.specs.List.{All}
use Rattle.quantum_sched.specs.declared.Quantum.{Quantum}
use Rattle.mmap_rules.specs.Space.{Space, page_size}
use Rattle.machine_world.specs.World.{World}
use Rattle.core_file.specs.Text.{bytes_of}
use Rattle.core_world.specs.Segments.{segments}
use Rattle.core_world.specs.Cores.{core_in}
use Rattle.core_world.specs.Falls.{Fall, falls}

-- a process that falls lives in its world, and has a core there
abbrev pub FallsHaveCores : Type 0
FallsHaveCores = (quanta : List Quantum) (w : World) → All (λ (f : Fall). is_some (core_in f.world f.pid f.signal) ≡ true) (falls quanta w)

-- no more bytes than memory has
abbrev pub SegmentsFit : Type 0
SegmentsFit = (pages : ℕ) (s : Space) → length (bytes_of (segments pages s)) ≤ page_size * pages
