-- Every space shows memory behind every event, turn and run.
use Rattle.std.proofs.Common.{ℕ, Bool, true, false, List, Option, Some, None, Result, Ok, Err}
use Rattle.std.specs.Prelude.{◌==◌, if◌then◌else◌}
use Rattle.byte_words.specs.ByteMap.{Bytes}
use Rattle.byte_words.specs.declared.access.Access.{Access}
use Rattle.rv32im_step.specs.Meaning.{Meaning, next, call, trap, refused}
use Rattle.call_log.specs.declared.errno.Errno.{Errno}
use Rattle.call_log.specs.Sent.{Span, sent}
use Rattle.mmap_rules.specs.Space.{Space}
use Rattle.vfork_exec.specs.declared.family.Who.{Who}
use Rattle.vfork_exec.specs.declared.family.State.TheVariants.{Waiting}
use Rattle.vfork_exec.specs.declared.family.Waited.{Waited}
use Rattle.vfork_exec.specs.declared.family.Waited.TheVariants.{Child, NoneYet, Waits}
use Rattle.vfork_exec.specs.Keyed.{find}
use Rattle.vfork_exec.specs.Families.{without_first}
use Rattle.flat_loader.specs.Alone.{number_of, args_of, put_got}
use Rattle.machine_world.specs.World.{Process, LiveSpace, pid_of, id_of}
use Rattle.machine_world.specs.Asks.{Ask, Reply, Row, replies, waits, arg, gives, refuses}
use Rattle.machine_world.specs.FamilyCalls.{who_of, waitid_fault, child_info, no_info, info_at}
use Rattle.machine_world.specs.Rows.{row}
use Rattle.machine_world.specs.Event.{Outcome, went, strays, full, idle, trapped, served, waited, told_in, ask_of, classed}
use Rattle.memory_world.specs.Physical.{Physical, in_memory, laid_behind, After, after, no_room, nobody, carried, settled_in, outside, killed, put_in, answered_in, full_at, reaped_in, waitid_behind_in, waitid_in, writes_nothing, classed_in, asked_in, answer_in, effect_in, in_space_in, by_process_in, at_process_in, next_meaning, carried_out, first_stray_in, with_stray, event_in, first_memory, opening_in}
use Rattle.memory_world.specs.After.{AfterIs}
use Rattle.memory_world.specs.Courses.{IsShown, OpeningsShow, EventsShow, TurnsShow, RunsShow}
use Rattle.memory_world.proofs.InMemory.{shown_showing}
use Rattle.memory_world.proofs.Moves.{moved_shown}
use Rattle.memory_world.proofs.ByTurnsIn.{by_turn_in, by_run_in}

shows_if : (test : Bool) (x y : After) → AfterIs IsShown x → AfterIs IsShown y → AfterIs IsShown (if test then x else y)
shows_if true x y hx hy = hx
shows_if false x y hx hy = hy

carried_shows : (p : Physical) (memory : Bytes) (o : Outcome) → IsShown p → AfterIs IsShown (carried p memory o)
carried_shows p memory (went now t) h = shown_showing (laid_behind p memory now t) now
carried_shows p memory (strays access) h = tt
carried_shows p memory full h = h
carried_shows p memory idle h = tt

settled_shows : (a : After) → AfterIs IsShown a → AfterIs IsShown (settled_in a)
settled_shows (after now over) h = h
settled_shows (no_room now) h = h
settled_shows nobody h = tt

killed_shows : (p : Physical) (q : Process) (signal : ℕ) → IsShown p → AfterIs IsShown (killed p q signal)
killed_shows p q signal h = carried_shows p p.memory (trapped p.world q signal) h

full_shows : (p : Physical) (a : After) → IsShown p → AfterIs IsShown a → AfterIs IsShown (full_at p a)
full_shows p (after now over) h kept = kept
full_shows p (no_room now) h kept = h
full_shows p nobody h kept = tt

put_shows : (p : Physical) (a : Ask) (r : Reply) (o : Result Bytes Span) → IsShown p → AfterIs IsShown (put_in p a r o)
put_shows p a r (Ok memory) h = carried_shows p memory (served p.world a r r.space.bytes) h
put_shows p a r (Err span) h = killed_shows p a.process outside h

answered_shows : (p : Physical) (a : Ask) (r : Row) → IsShown p → AfterIs IsShown (answered_in p a r)
answered_shows p a (replies r) h = put_shows p a r (put_got p.memory (in_memory p.world) r.got) h
answered_shows p a (waits state) h = carried_shows p p.memory (waited p.world a.process state) h

reaped_shows : (p : Physical) (a : Ask) (who : Who) (o : Result Waited Errno) → IsShown p → AfterIs IsShown (reaped_in p a who o)
reaped_shows p a who (Ok (Child pid how)) h =
    full_shows p _ h
    (answered_shows (record p { world = record p.world { ended = without_first a.process.pid who p.world.ended } }) a (gives a 0 (info_at (arg a 2) (child_info pid how)) a.rest) h)
reaped_shows p a who (Ok NoneYet) h = answered_shows p a (gives a 0 (info_at (arg a 2) no_info) a.rest) h
reaped_shows p a who (Ok Waits) h = carried_shows p p.memory (waited p.world a.process (Waiting who)) h
reaped_shows p a who (Err errno) h = answered_shows p a (refuses a errno) h

waitid_behind_shows : (p : Physical) (a : Ask) (fault : Option Errno) → IsShown p → AfterIs IsShown (waitid_behind_in p a fault)
waitid_behind_shows p a (Some errno) h = answered_shows p a (refuses a errno) h
waitid_behind_shows p a None h = reaped_shows p a (who_of a) (told_in p.world a) h

waitid_shows : (p : Physical) (a : Ask) → IsShown p → AfterIs IsShown (waitid_in p a)
unfolding waitid_in
waitid_shows p a h = waitid_behind_shows p a (waitid_fault a) h

classed_shows : (p : Physical) (a : Ask) → IsShown p → AfterIs IsShown (classed_in p a)
classed_shows p a h =
    shows_if (writes_nothing a.number) (carried p p.memory (classed p.world a)) _ (carried_shows p p.memory (classed p.world a) h)
    (shows_if (a.number == 95) (waitid_in p a) (answered_in p a (row a)) (waitid_shows p a h) (answered_shows p a (row a) h))

asked_shows : (p : Physical) (q : Process) (s : Space) (o : Result (List ℕ) Span) → IsShown p → AfterIs IsShown (asked_in p q s o)
asked_shows p q s (Ok bytes) h = classed_shows p (ask_of p.world q s bytes) h
asked_shows p q s (Err span) h = killed_shows p q outside h

answer_shows : (p : Physical) (q : Process) (s : Space) → IsShown p → AfterIs IsShown (answer_in p q s)
unfolding answer_in
answer_shows p q s h = asked_shows p q s (sent (number_of q.regs) (args_of q.regs) p.memory) h

-- ---- an event

effect_shows : (p : Physical) (q : Process) (s : Space) (m : Meaning) → IsShown p → AfterIs IsShown (effect_in p q s m)
effect_shows p q s (next regs memory) h = moved_shown p q s regs memory 1
effect_shows p q s call h = settled_shows (answer_in p q s) (answer_shows p q s h)
effect_shows p q s (trap signal) h = settled_shows (killed p q signal) (killed_shows p q signal h)
effect_shows p q s (refused access) h = settled_shows (killed p q outside) (killed_shows p q outside h)

space_acts : (act : Process → Space → After) → ((q : Process) (s : Space) → AfterIs IsShown (act q s)) → (q : Process) (o : Option LiveSpace) → AfterIs IsShown (in_space_in act q o)
space_acts act acts q None = tt
space_acts act acts q (Some s) = acts q s.space

process_acts : (spaces : List LiveSpace) (act : Process → Space → After) → ((q : Process) (s : Space) → AfterIs IsShown (act q s)) → (o : Option Process) → AfterIs IsShown (by_process_in spaces act o)
process_acts spaces act acts None = tt
process_acts spaces act acts (Some q) = space_acts act acts q (find id_of q.space spaces)

carried_out_shows : (p : Physical) (pid : ℕ) → IsShown p → AfterIs IsShown (carried_out p pid)
unfolding carried_out at_process_in
carried_out_shows p pid h =
    process_acts p.world.spaces (λ q s. effect_in p q s (next_meaning p q)) (λ q s. effect_shows p q s (next_meaning p q) h) (find pid_of pid p.world.procs)

stray_shows : (p : Physical) (pid : ℕ) (o : Option Access) → IsShown p → IsShown (with_stray pid o p)
stray_shows p pid None h = h
stray_shows p pid (Some access) h = h

pub events_show : EventsShow
unfolding event_in
events_show p pid h = carried_out_shows (with_stray pid (first_stray_in p pid) p) pid (stray_shows p pid (first_stray_in p pid) h)

-- ---- turns and runs

pub turns_show : TurnsShow
turns_show = by_turn_in IsShown events_show

pub runs_show : RunsShow
runs_show = by_run_in IsShown events_show

-- ---- the opening world

pub openings_show : OpeningsShow
unfolding opening_in
openings_show headers w = shown_showing (first_memory headers w) w
