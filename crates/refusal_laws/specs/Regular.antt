-- What holds of every world of a run, so that no pid, no descriptor and no address is an errno.
use Rattle.std.specs.Prelude.{◌≡◌, ℕ, ◌+◌, ◌*◌, ◌≤◌, ◌<◌, []}
use Rattle.std.specs.List.{AllByRecursion}
use Rattle.mmap_rules.specs.Space.{memory_base, page_size}
use Rattle.flat_loader.specs.Alone.{most_pages}
use Rattle.machine_world.specs.World.{Process, LiveSpace, World}
use Rattle.machine_world.specs.Order.{IsCounted}
use Rattle.alone_laws.specs.Sound.{IsSound}

-- where the largest memory ends
abbrev pub memory_end : ℕ
memory_end = memory_base + page_size * most_pages

-- a process is younger than its parent; without one that is 0
abbrev pub IsYounger : Process → Type 0
IsYounger p = p.parent < p.pid

-- the break, and the end of the area in which it moves, don't lie behind memory
pub record HasBreak (s : LiveSpace) : Type 0 where
  pub brk : s.space.brk ≤ memory_end
  pub high : s.space.brk_high ≤ memory_end

-- a sound world, in which what is open is counted exactly and no pipe is marked
pub record IsRegularWorld (w : World) : Type 0 where
  pub sound : IsSound w
  pub counted : IsCounted w
  pub unmarked : w.rest.files.changed ≡ []
  pub parents : AllByRecursion IsYounger w.procs
  pub breaks : AllByRecursion HasBreak w.spaces
