-- The program to which a path leads, and the pages that its block gets.
use Rattle.std.specs.Prelude.{ℕ, ◌+◌, ◌*◌, List, Option, Some, None, Result, Ok, Err, slice_get}
use Rattle.page_runs.specs.declared.run.Run.{Run}
use Rattle.page_runs.specs.Place.{place, first_of}
use Rattle.call_log.specs.declared.errno.Errno.{Errno}
use Rattle.mem_files.specs.Inodes.{program_of}
use Rattle.mem_files.specs.Paths.{lookup}
use Rattle.mmap_rules.specs.Space.{memory_base, page_size}
use Rattle.flat_loader.specs.Original.{Original}
use Rattle.machine_world.specs.World.{Program, Rest, World}

pub record Found : Type 0 where
  pub index : ℕ
  pub original : Original

abbrev pub found_program : ℕ → Option Program → Option Found
found_program index (Some p) = Some (record { index = index; original = p.original })
found_program index None = None

-- the program that a file is marked as
abbrev pub found_mark : List Program → Option ℕ → Option Found
found_mark programs (Some index) = found_program index (slice_get programs index)
found_mark programs None = None

abbrev pub found_node : Rest → Result (Option ℕ) Errno → Option Found
found_node rest (Ok (Some node)) = found_mark rest.programs (program_of rest.tree node)
found_node rest (Ok None) = None
found_node rest (Err errno) = None

-- the program to which a path leads
abbrev pub found : Rest → List ℕ → Option Found
found rest path = found_node rest (lookup rest.tree path)

-- the address of a page
abbrev pub address_of : ℕ → ℕ
address_of page = memory_base + page_size * page

-- the first page of the run of which so many pages are taken
abbrev pub taken : World → ℕ → List Run → Option ℕ
taken w need runs = first_of runs (place w.rest.kind runs need)
