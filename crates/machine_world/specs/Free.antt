-- The free pages of a world: those in no run of a mapping of a live space.
use Rattle.std.specs.Prelude.{ℕ, Bool, not, List}
use Rattle.std.specs.List.{list_any}
use Rattle.page_runs.specs.declared.run.Run.{Run}
use Rattle.page_runs.specs.Free.{free_runs}
use Rattle.mmap_rules.specs.Space.{has_page}
use Rattle.machine_world.specs.World.{LiveSpace, World}

abbrev pub is_held : List LiveSpace → ℕ → Bool
is_held spaces page = list_any (λ s. list_any (has_page page) s.space.maps) spaces

-- those of a memory of so many pages, as ascending maximal runs
unfoldable pub free_runs_in : ℕ → List LiveSpace → List Run
free_runs_in pages spaces = free_runs pages (λ page. not (is_held spaces page))

abbrev pub free : World → List Run
free w = free_runs_in w.rest.pages w.spaces
