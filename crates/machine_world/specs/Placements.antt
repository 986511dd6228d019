-- Which pages a program's block and a mapping of its own get ("No-MMU memory mapping support"; the placements are this project's own).
use Rattle.std.specs.Prelude.{◌≡◌, ℕ, true, [], Option, Some, None, Ok, Err}
use Rattle.page_runs.specs.Place.{place, first_of}
use Rattle.call_log.specs.declared.errno.Errno.TheVariants.{Enomem}
use Rattle.call_log.specs.Sent.{has_zero}
use Rattle.call_log.specs.Strings.{ProgramStrings, program_strings}
use Rattle.call_log.specs.Numbers as numbers
use Rattle.mmap_rules.specs.declared.mapping.Mapping.{Mapping}
use Rattle.mmap_rules.specs.declared.want.Want.{Want}
use Rattle.mmap_rules.specs.Held.{page_address}
use Rattle.mmap_rules.specs.Want.{wanted}
use Rattle.mmap_rules.specs.Copies.{wanted_bytes, pages_of}
use Rattle.flat_loader.specs.Original.{block_pages}
use Rattle.flat_loader.specs.Frame.{frame_fits}
use Rattle.machine_world.specs.World.{World}
use Rattle.machine_world.specs.Free.{free_runs_in, free}
use Rattle.machine_world.specs.Asks.{Ask, arg, leaves, refuses}
use Rattle.machine_world.specs.MapCalls.{file_side, in_copy, own_run, with_mapping}
use Rattle.machine_world.specs.PathCalls.{path_of as exec_path}
use Rattle.machine_world.specs.Rows.{row}
use Rattle.machine_world.specs.Found.{Found, found, taken, address_of}
use Rattle.machine_world.specs.Boot.{StartLine, start_path, begun, started, no_run}
use Rattle.machine_world.specs.FamilyCalls.{runs}
use Rattle.machine_world.specs.Event.{answered, executed, exec}

-- the first page of the free run that the placement gives for what is wanted
abbrev pub placed_page : Ask → Want → Option ℕ
placed_page a want = first_of (free_runs_in a.rest.pages a.spaces) (place a.rest.kind (free_runs_in a.rest.pages a.spaces) (pages_of want))

-- an mmap2 that asks for this has pages of a copy that is there; or, where none has them, a run that begins at that page; or it is
-- ENOMEM
pub record MapsExactly (a : Ask) (want : Want) : Type 0 where
  pub shared : (m : Mapping) → in_copy a.spaces want ≡ Some m → row a ≡ leaves a m.range.from (with_mapping a.space m (wanted_bytes a.rest.tree want))
  pub own : (page : ℕ) → in_copy a.spaces want ≡ None → placed_page a want ≡ Some page →
      row a ≡ leaves a (page_address page) (with_mapping a.space (own_run want page) (wanted_bytes a.rest.tree want))
  pub full : in_copy a.spaces want ≡ None → placed_page a want ≡ None → row a ≡ refuses a Enomem

abbrev pub MapsAreExact : Type 0
MapsAreExact =
    (a : Ask) (want : Want) → a.number ≡ numbers.mmap2 → wanted (arg a 0) (arg a 1) (arg a 2) (arg a 3) (arg a 5) (file_side a) ≡ Ok want → MapsExactly a want

-- a start line with a program whose frame fits has its block at that page, or finds no run
pub record StartsExactly (w : World) (s : StartLine) (f : Found) : Type 0 where
  pub own : (page : ℕ) → taken w (block_pages f.original) (free w) ≡ Some page →
      started w s ≡ Ok (begun w f.index (record { original = f.original; block = address_of page; args = s.args; env = [] }))
  pub full : taken w (block_pages f.original) (free w) ≡ None → started w s ≡ Err (no_run s.line)

abbrev pub StartsAreExact : Type 0
StartsAreExact = (w : World) (s : StartLine) (f : Found) → found w.rest (start_path s) ≡ Some f → frame_fits f.original s.args [] ≡ true → StartsExactly w s f

-- an execve that read these strings, whose path leads to a program and whose frame fits: its block begins at that page of the runs that
-- are free while the old space is held, or it is ENOMEM
pub record ExecsExactly (w : World) (a : Ask) (f : Found) (s : ProgramStrings) : Type 0 where
  pub own : (page : ℕ) → taken w (block_pages f.original) (free w) ≡ Some page →
      exec w a ≡ executed w a f.index (record { original = f.original; block = address_of page; args = s.args; env = s.env })
  pub full : taken w (block_pages f.original) (free w) ≡ None → exec w a ≡ answered w a (refuses a Enomem)

abbrev pub ExecsAreExact : Type 0
ExecsAreExact =
    (w : World) (a : Ask) (f : Found) (s : ProgramStrings) → has_zero a.sent ≡ true → program_strings a.sent (arg a 1) (arg a 2) ≡ Some s →
    runs w.rest (exec_path a) ≡ Ok f → frame_fits f.original s.args s.env ≡ true → ExecsExactly w a f s
