-- What a refused call leaves of a run over one memory.
use Rattle.std.proofs.Common.{◌≡◌, ℕ, Bool, true, false, List, [], map, Option, Some, None, Result, Ok, refl, ap, ◌∙◌}
use Rattle.std.specs.Prelude.{if◌then◌else◌}
use Rattle.byte_words.specs.declared.access.Access.{Access}
use Rattle.call_log.specs.declared.errno.Errno.{Errno}
use Rattle.call_log.specs.Errno.{refusal}
use Rattle.call_log.specs.Notes.{weight_of}
use Rattle.call_log.specs.Sent.{Span}
use Rattle.vfork_exec.specs.Keyed.{find, change}
use Rattle.machine_world.specs.World.{Process, LiveSpace, World, id_of}
use Rattle.machine_world.specs.Asks.{Ask, refuses}
use Rattle.machine_world.specs.Event.{Trace, went, full, ask_of, entry_of, maps_file, brought, served, answered}
use Rattle.machine_world.specs.Laws.{refused_outcome}
use Rattle.machine_world.proofs.States.{change_same}
use Rattle.machine_world.proofs.Awake.{not_awake}
use Rattle.machine_world.proofs.Refused.{is_refused, maps_nothing, brings_none, brought_none, brings_nothing}
use Rattle.memory_world.specs.Physical.{Physical, after, shown_space, carried, settled_in, asked_in, answer_in, effect_in, carried_out, first_stray_in, with_stray}
use Rattle.memory_world.specs.Courses.{IsShown}
use Rattle.memory_world.proofs.InMemory.{plain_behind}
use Rattle.memory_world.proofs.Moves.{carried_is, event_in_carried}
use Rattle.go_on_laws.specs.Refusals.{CallIn, over_memory, RefusalsLeaveMemory, RefusedEventsLeaveMemory}

-- a refusal puts back the space that it found, and brings nothing
refused_answer : (w : World) (q : Process) (s : LiveSpace) (bytes : List ℕ) (e : Errno) → find id_of q.space w.spaces ≡ Some s
    → answered w (ask_of w q s.space bytes) (refuses (ask_of w q s.space bytes) e) ≡ refused_outcome w q (ask_of w q s.space bytes) e
unfolding served
refused_answer w q s bytes e has =
    let a : Ask = ask_of w q s.space bytes in
    let spaces : change id_of q.space (λ l. record l { space = s.space }) w.spaces ≡ w.spaces =
    change_same id_of q.space (λ l. record l { space = s.space }) w.spaces s has refl in
    let none : brought (entry_of a (refusal e) []) s.space.bytes ≡ [] = brings_nothing (entry_of a (refusal e) []) s.space.bytes (is_refused e) in
    let maps : maps_file (entry_of a (refusal e) []) ≡ false = maps_nothing (entry_of a (refusal e) []) (is_refused e) in
    let weight = brings_none w q.space (entry_of a (refusal e) []) s.space.bytes (weight_of bytes []) maps in
    let lists = brought_none w q.space (entry_of a (refusal e) []) s.space.bytes maps in
    rw (spaces, weight, lists, none) refl

-- where spaces show memory nothing is laid, and where no pipe is marked nobody goes on
settles : (p : Physical) (room : Bool) (now : World) (t : Trace) → t.begins ≡ None → map (shown_space p.memory) now.spaces ≡ now.spaces → now.rest.files.changed ≡ []
    → settled_in (carried p p.memory (if room then went now t else full)) ≡ over_memory p (if room then went now t else full)
settles p true now t nothing shown unmarked =
    ap (λ (q : Physical). settled_in (after q t.over)) (plain_behind p now t nothing shown) ∙ ap (λ (w : World). after (record p { world = w }) t.over) (not_awake now unmarked)
settles p false now t nothing shown unmarked = refl

-- the event is the call's answer
call_is : (p : Physical) (pid : ℕ) (c : CallIn p pid) → carried_out p pid ≡ settled_in (asked_in p c.process c.space.space (Ok c.bytes))
unfolding answer_in
call_is p pid c =
    carried_is p pid c.process c.space c.lives c.has ∙ ap (effect_in p c.process c.space.space) c.at_call
    ∙ ap (λ (o : Result (List ℕ) Span). settled_in (asked_in p c.process c.space.space o)) c.reads

pub refusals_leave_memory : RefusalsLeaveMemory
refusals_leave_memory p pid c e shown unmarked is =
    call_is p pid c ∙ ap settled_in (is ∙ ap (carried p p.memory) (refused_answer p.world c.process c.space c.bytes e c.has))
    ∙ settles p _ _ _ refl shown unmarked

-- the note of a stray access leaves spaces, memory and files
still_shown : (p : Physical) (pid : ℕ) (o : Option Access) → IsShown p → IsShown (with_stray pid o p)
still_shown p pid (Some access) shown = shown
still_shown p pid None shown = shown

still_unmarked : (p : Physical) (pid : ℕ) (o : Option Access) → p.world.rest.files.changed ≡ [] → (with_stray pid o p).world.rest.files.changed ≡ []
still_unmarked p pid (Some access) unmarked = unmarked
still_unmarked p pid None unmarked = unmarked

pub refused_events_leave_memory : RefusedEventsLeaveMemory
refused_events_leave_memory p pid shown unmarked c e is =
    event_in_carried p pid
    ∙ refusals_leave_memory (with_stray pid (first_stray_in p pid) p) pid c e (still_shown p pid (first_stray_in p pid) shown) (still_unmarked p pid (first_stray_in p pid) unmarked) is
