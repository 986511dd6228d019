-- Who needs a free run of pages of its own, is refused for no other cause, and finds none ("No-MMU memory mapping support",
-- Documentation/admin-guide/mm/nommu-mmap.rst; execve(2), mmap(2), in this project's profile).
use Rattle.std.specs.Prelude.{◌≡◌, ℕ, ◌⊎◌, true, [], List, ◌∷◌, ◌++◌, Some, None, Ok}
use Rattle.call_log.specs.Sent.{has_zero}
use Rattle.call_log.specs.Strings.{ProgramStrings, program_strings}
use Rattle.call_log.specs.Numbers as numbers
use Rattle.mmap_rules.specs.declared.want.Want.{Want}
use Rattle.mmap_rules.specs.Want.{wanted}
use Rattle.flat_loader.specs.Original.{block_pages}
use Rattle.flat_loader.specs.Frame.{frame_fits}
use Rattle.machine_world.specs.World.{Rest, World}
use Rattle.machine_world.specs.Free.{free}
use Rattle.machine_world.specs.Found.{Found, found, taken}
use Rattle.machine_world.specs.Asks.{Ask, arg}
use Rattle.machine_world.specs.MapCalls.{file_side, in_copy}
use Rattle.machine_world.specs.PathCalls.{path_of as exec_path}
use Rattle.machine_world.specs.FamilyCalls.{runs}
use Rattle.machine_world.specs.Placements.{placed_page}
use Rattle.machine_world.specs.Boot.{StartLine, start_path, boot}

-- an mmap2 asks for pages that may be mapped, no copy that is there has them, and the placement gives no run for them
pub record LacksRunToMap (a : Ask) : Type 0 where
  pub want : Want
  pub asks : wanted (arg a 0) (arg a 1) (arg a 2) (arg a 3) (arg a 5) (file_side a) ≡ Ok want
  pub no_copy : in_copy a.spaces want ≡ None
  pub no_run : placed_page a want ≡ None

-- an execve has a path with its zero and strings that aren't too long, the path leads to a program, the frame fits into its stack,
-- and while the old space is held the placement gives no run for the block
pub record LacksRunToExec (w : World) (a : Ask) : Type 0 where
  pub ends : has_zero a.sent ≡ true
  pub strings : ProgramStrings
  pub read : program_strings a.sent (arg a 1) (arg a 2) ≡ Some strings
  pub program : Found
  pub leads : runs w.rest (exec_path a) ≡ Ok program
  pub fits : frame_fits program.original strings.args strings.env ≡ true
  pub no_run : taken w (block_pages program.original) (free w) ≡ None

-- no other call needs one
abbrev pub LacksRun : World → Ask → Type 0
LacksRun w a = ((a.number ≡ numbers.mmap2) × LacksRunToMap a) ⊎ ((a.number ≡ numbers.execve) × LacksRunToExec w a)

-- a start line's path leads to a program, the frame fits into its stack, and the placement gives no run for the block
pub record LacksRunToStart (w : World) (s : StartLine) : Type 0 where
  pub program : Found
  pub leads : found w.rest (start_path s) ≡ Some program
  pub fits : frame_fits program.original s.args [] ≡ true
  pub no_run : taken w (block_pages program.original) (free w) ≡ None

-- the programs of the start lines before one are loaded, and that one lacks a run
pub record LacksRunToBoot (rest : Rest) (starts : List StartLine) (line : ℕ) : Type 0 where
  pub before : List StartLine
  pub start : StartLine
  pub others : List StartLine
  pub are : starts ≡ before ++ start ∷ others
  pub world : World
  pub begins : boot rest before ≡ Ok world
  pub lacks : LacksRunToStart world start
  pub number : line ≡ start.line
