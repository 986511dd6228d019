-- In every world of a run the bytes of a space are there exactly in its own ranges.
use Rattle.std.specs.Prelude.{◌≡◌, ℕ, ◌≤◌, is_some, List, length, Some, Ok}
use Rattle.mmap_rules.specs.Space.{own_in}
use Rattle.quantum_sched.specs.declared.Quantum.{Quantum}
use Rattle.vfork_exec.specs.Keyed.{find}
use Rattle.vfork_exec.specs.Procs.{most_entries}
use Rattle.machine_world.specs.World.{LiveSpace, Rest, World, id_of}
use Rattle.machine_world.specs.Turns.{turns}
use Rattle.machine_world.specs.Boot.{StartLine, boot}
use Rattle.alone_laws.specs.Sound.{IsSound}
use Rattle.alone_laws.specs.Laws.{CanBoot}
use Rattle.memory_world.specs.Physical.{Physical}
use Rattle.go_on_laws.specs.Alike.{Stands}

-- a live space has a byte at each address of its own, and at no other
abbrev pub OwnBytesAreThere : World → Type 0
OwnBytesAreThere w = (i : ℕ) (s : LiveSpace) → find id_of i w.spaces ≡ Some s → (a : ℕ) → is_some (s.space.bytes a) ≡ own_in s.space.maps a

-- of a world for which one memory stands
abbrev pub ShownBytesAreThere : Type 0
ShownBytesAreThere = (w : World) (p : Physical) → IsSound w → Stands w p → OwnBytesAreThere w

-- and so of every world of a run
abbrev pub RunsHaveOwnBytes : Type 0
RunsHaveOwnBytes =
    (rest : Rest) (starts : List StartLine) (w : World) (quanta : List Quantum) → CanBoot rest → length starts ≤ most_entries → boot rest starts ≡ Ok w →
    OwnBytesAreThere (turns quanta w).world
