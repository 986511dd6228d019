-- What a program asks of memory: a run of free pages for its block, or for a mapping that shares no copy ("No-MMU memory mapping
-- support", Documentation/admin-guide/mm/nommu-mmap.rst; mmap(2), execve(2)).
use Rattle.std.specs.Prelude.{ℕ, ◌+◌, ◌-◌, ◌==◌, Bool, not, ◌&&◌, nat_le, nat_lt, if◌then◌else◌, List, [], ◌∷◌, ◌++◌, map, sum, is_some, Option, Some, None, Result, Ok, Err}
use Rattle.rv32im_step.specs.Meaning.{Meaning, next, call, trap, refused}
use Rattle.page_runs.specs.declared.run.Run.{Run}
use Rattle.page_runs.specs.Place.{place}
use Rattle.call_log.specs.declared.errno.Errno.{Errno}
use Rattle.call_log.specs.Sent.{Span, has_zero}
use Rattle.call_log.specs.Strings.{ProgramStrings, program_strings}
use Rattle.call_log.specs.Numbers as numbers
use Rattle.mmap_rules.specs.declared.mapping.Mapping.{Mapping}
use Rattle.mmap_rules.specs.declared.want.Want.{Want}
use Rattle.mmap_rules.specs.Want.{wanted}
use Rattle.mmap_rules.specs.Copies.{pages_of}
use Rattle.mmap_rules.specs.Space.{Space}
use Rattle.flat_loader.specs.Original.{block_pages}
use Rattle.flat_loader.specs.Frame.{frame_fits}
use Rattle.machine_world.specs.World.{Process, Rest, World}
use Rattle.machine_world.specs.Free.{free}
use Rattle.machine_world.specs.Asks.{Ask, arg}
use Rattle.machine_world.specs.MapCalls.{file_side, in_copy}
use Rattle.machine_world.specs.PathCalls.{path_of}
use Rattle.machine_world.specs.FamilyCalls.{runs}
use Rattle.machine_world.specs.Boot.{StartLine, Found, found, start_path, started, BootFault, empty_world}
use Rattle.machine_world.specs.Event.{ask_of}

-- so many pages, asked for in this world
pub record Request : Type 0 where
  pub need : ℕ
  pub world : World

-- ---- by a call that is refused for no other cause

-- pages of a copy that is there are used again
abbrev pub need_of_own : Want → Option Mapping → Option ℕ
need_of_own want (Some copy) = None
need_of_own want None = Some (pages_of want)

abbrev pub need_of_want : Ask → Result Want Errno → Option ℕ
need_of_want a (Ok want) = need_of_own want (in_copy a.spaces want)
need_of_want a (Err errno) = None

abbrev pub need_to_map : Ask → Option ℕ
need_to_map a = need_of_want a (wanted (arg a 0) (arg a 1) (arg a 2) (arg a 3) (arg a 5) (file_side a))

abbrev pub need_of_found : ProgramStrings → Result Found Errno → Option ℕ
need_of_found s (Ok f) = if frame_fits f.original s.args s.env then Some (block_pages f.original) else None
need_of_found s (Err errno) = None

abbrev pub need_of_strings : World → Ask → Option ProgramStrings → Option ℕ
need_of_strings w a (Some s) = need_of_found s (runs w.rest (path_of a))
need_of_strings w a None = None

abbrev pub need_to_exec : World → Ask → Option ℕ
need_to_exec w a = if has_zero a.sent then need_of_strings w a (program_strings a.sent (arg a 1) (arg a 2)) else None

-- no other call needs pages of its own
unfoldable pub need_of : World → Ask → Option ℕ
need_of w a =
    if a.number == numbers.mmap2 then need_to_map a
    else if a.number == numbers.execve then need_to_exec w a
    else None

abbrev pub need_read : World → Process → Space → Result (List ℕ) Span → Option ℕ
need_read w p s (Ok bytes) = need_of w (ask_of w p s bytes)
need_read w p s (Err span) = None

-- only a call asks
abbrev pub need_meant : World → Process → Space → Result (List ℕ) Span → Meaning → Option ℕ
need_meant w p s read (next regs bytes) = None
need_meant w p s read call = need_read w p s read
need_meant w p s read (trap signal) = None
need_meant w p s read (refused access) = None

-- ---- by a start line

abbrev pub request_of : World → Option ℕ → List Request
request_of w None = []
request_of w (Some need) = record { need = need; world = w } ∷ []

abbrev pub need_to_start : StartLine → Option Found → Option ℕ
need_to_start s None = None
need_to_start s (Some f) = if frame_fits f.original s.args [] then Some (block_pages f.original) else None

abbrev pub behind_start : (World → List Request) → Result World BootFault → List Request
behind_start more (Ok now) = more now
behind_start more (Err fault) = []

-- by each, in the world of those before it
unfoldable pub start_requests : World → List StartLine → List Request
start_requests w [] = []
start_requests w (s ∷ ss) = request_of w (need_to_start s (found w.rest (start_path s))) ++ behind_start (λ now. start_requests now ss) (started w s)

-- at boot
abbrev pub boot_requests : Rest → List StartLine → List Request
boot_requests rest starts = start_requests (empty_world rest) starts

-- ---- what comes of them

-- the placement gives a run
abbrev pub is_granted : Request → Bool
is_granted r = is_some (place r.world.rest.kind (free r.world) r.need)

abbrev pub run_count : Run → ℕ
run_count r = r.count

-- the pages that are free
abbrev pub free_pages : World → ℕ
free_pages w = sum (map run_count (free w))

-- the pages that are held once it is granted
abbrev pub held_with : Request → ℕ
held_with r = r.world.rest.pages - free_pages r.world + r.need

-- not granted, though as many pages are free; or since fewer are
abbrev pub lies_in_pieces : Request → Bool
lies_in_pieces r = not (is_granted r) && nat_le r.need (free_pages r.world)

abbrev pub falls_short : Request → Bool
falls_short r = not (is_granted r) && nat_lt (free_pages r.world) r.need
