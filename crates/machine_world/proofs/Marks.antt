-- Between two events no pipe is marked.
use Rattle.std.proofs.Common.{◌≡◌, ℕ, List, [], ◌∷◌, Option, Some, None, refl, subst, true, false, Bool, Result, Ok, Err}
use Rattle.rv32im_step.specs.Meaning.{Meaning, next, call, trap, refused, meaning}
use Rattle.mmap_rules.specs.Space.{Space, writable_in}
use Rattle.flat_loader.specs.Original.{block_pages}
use Rattle.flat_loader.specs.Frame.{frame_fits}
use Rattle.vfork_exec.specs.Keyed.{find}
use Rattle.fd_tables.specs.Changes.{with_table}
use Rattle.machine_world.specs.World.{Process, LiveSpace, World, pid_of, id_of}
use Rattle.machine_world.specs.Free.{free}
use Rattle.machine_world.specs.Event.{Outcome, went, strays, full, idle, stepped, trapped, answer, settled, effect, in_space, by_process, at_process, event}
use Rattle.machine_world.specs.Boot.{StartLine, BootFault, Found, found, start_path, taken, placed, fitting, located, started, all_started, then_started, empty_world, boot}
use Rattle.machine_world.specs.Laws.{EventsLeaveNoMark, TurnsLeaveNoMark, RunsLeaveNoMark, BootsLeaveNoMark}
use Rattle.machine_world.proofs.ByEvents.{Keeps, by_turn, by_turns}

abbrev Unmarked : World → Type 0
Unmarked w = w.rest.files.changed ≡ []

-- ---- an event

marks_settled : (o : Outcome) → Keeps Unmarked (settled o)
unfolding settled
marks_settled (went now t) = refl
marks_settled (strays access) = tt
marks_settled full = tt
marks_settled idle = tt

module _ (w : World) (unmarked : Unmarked w) where
  marks_effect : (p : Process) (s : Space) (m : Meaning) → Keeps Unmarked (effect w p s m)
  unfolding stepped
  marks_effect p s (next regs bytes) = unmarked
  marks_effect p s call = marks_settled (answer w p s)
  marks_effect p s (trap signal) = marks_settled (trapped w p signal)
  marks_effect p s (refused access) = tt

  marks_space : (p : Process) (o : Option LiveSpace) → Keeps Unmarked (in_space (λ q s. effect w q s (meaning q.regs s.bytes (writable_in s.maps))) p o)
  marks_space p None = tt
  marks_space p (Some s) = marks_effect p s.space (meaning p.regs s.space.bytes (writable_in s.space.maps))

  marks_process : (o : Option Process) → Keeps Unmarked (by_process w.spaces (λ q s. effect w q s (meaning q.regs s.bytes (writable_in s.maps))) o)
  marks_process None = tt
  marks_process (Some p) = marks_space p (find id_of p.space w.spaces)

  marks_event : (pid : ℕ) → Keeps Unmarked (event w pid)
  unfolding event at_process
  marks_event pid = marks_process (find pid_of pid w.procs)

pub events_leave_no_mark : EventsLeaveNoMark
events_leave_no_mark w pid now t unmarked is = subst (Keeps Unmarked) is (marks_event w unmarked pid)

-- ---- turns

pub turns_leave_no_mark : TurnsLeaveNoMark
turns_leave_no_mark count pid w unmarked = by_turn Unmarked (λ v own h. marks_event v h own) (λ v own access h. h) count pid w unmarked

pub runs_leave_no_mark : RunsLeaveNoMark
runs_leave_no_mark quanta w unmarked = by_turns Unmarked (λ v own h. marks_event v h own) (λ v own access h. h) quanta w unmarked

-- ---- the start lines

abbrev Boots : Result World BootFault → Type 0
Boots (Ok now) = Unmarked now
Boots (Err fault) = Unit {0}

module _ (w : World) (unmarked : Unmarked w) (s : StartLine) where
  marks_placed : (f : Found) (page : Option ℕ) → Boots (placed w s f page)
  unfolding with_table
  marks_placed f None = tt
  marks_placed f (Some page) = unmarked

  marks_fitting : (f : Found) (fits : Bool) → Boots (fitting w s f fits)
  marks_fitting f true = marks_placed f (taken w (block_pages f.original) (free w))
  marks_fitting f false = tt

  marks_located : (o : Option Found) → Boots (located w s o)
  marks_located None = tt
  marks_located (Some f) = marks_fitting f (frame_fits f.original s.args [])

  marks_started : Boots (started w s)
  unfolding started
  marks_started = marks_located (found w.rest (start_path s))

marks_all : (ss : List StartLine) (w : World) → Unmarked w → Boots (all_started w ss)
unfolding all_started
marks_all [] w unmarked = unmarked
marks_all (s ∷ ss) w unmarked = on (started w s) (marks_started w unmarked s) (λ v h. marks_all ss v h)
  where
    on : (r : Result World BootFault) → Boots r → ((v : World) → Unmarked v → Boots (all_started v ss)) → Boots (then_started r (λ now. all_started now ss))
    on (Ok now) h more = more now h
    on (Err fault) h more = tt

pub boots_leave_no_mark : BootsLeaveNoMark
unfolding boot
boots_leave_no_mark rest starts w unmarked is = subst Boots is (marks_all starts (empty_world rest) unmarked)
