-- The program stands in the place of the one that made the call, or the call is refused.
use Rattle.std.proofs.Common.{rules, ◌≡◌, true, Ok, List, ap, ◌∷◌, [], ◌++◌, length, Some, refl, sym, subst, ◌∙◌, arith}
use Rattle.page_runs.specs.Choosers.{kind_of}
use Rattle.call_log.specs.Notes.{Note, load_note, has_room}
use Rattle.flat_loader.specs.Frame.{texts}
use Rattle.flat_loader.specs.Loads.{IsLoaded}
use Rattle.flat_loader.specs.declared.loaded.LoadRefusal.TheVariants as refusal
use Rattle.vfork_exec.specs.Procs.{CanRun}
use Rattle.kept_parts.specs.declared.served.Served.TheVariants.{Replied}
use Rattle.kept_parts.specs.Kept.{Kept}
use Rattle.kept_parts.specs.Inside.{kept_of}
use Rattle.kept_parts.specs.Calls.{noted_call}
use Rattle.kept_parts.specs.Reach.{whole_table}
use Rattle.kept_parts.specs.Recorded.{event_recorded, program_recorded, room_beside}
use Rattle.kept_parts.proofs.Common.Recorded.{room_inside}
use Rattle.kept_parts.proofs.Common.ProcessList.{can_run_lives}
use Rattle.kept_parts.proofs.Starts.World.{same_parts}
use Rattle.kept_parts.proofs.Starts.Loaded.{pages_loaded}
use Rattle.kept_parts.proofs.Execs.Steps.{Begun, begun_by, number_fits, sound_by, there_by, nobody_by, serves_lent, serves_own, holds_begun, holds_refused, ExecServes, refused_big, refused_run}
use Rattle.kept_parts.proofs.Execs.Memory.{ExecServesIn, memory_lent, memory_own, refused_big_in, refused_run_in}
use Rattle.kept_parts.proofs.Copies.BehindStrays.{holds_inside}
use Rattle.kept_parts.proofs.kept.KeptParts.exec.Given.{Over}
use Rattle.kept_parts.proofs.kept.KeptParts.exec.Goals.{After-load-loaded, After-note_exec}
use Rattle.kept_parts.proofs.kept.KeptParts.exec.Goals as goal

ready_in : (g : Over) (c : After-load-loaded g) → CanRun (kept_of c.self.inside).procs c.args.call.pid
ready_in g c = subst (λ (k : Kept). CanRun k.procs c.args.call.pid) (sym c.self.view_is) c.requires.ready

room_in : (g : Over) (c : After-load-loaded g) → room_beside (kept_of c.self.inside) (length c.args.call.sent.items) ≡ true
room_in g c = subst (λ (k : Kept). room_beside k (length c.args.call.sent.items) ≡ true) (sym c.self.view_is) c.requires.room

pub note_exec-requires-clause-room : goal.note_exec-requires-clause-room
note_exec-requires-clause-room g c =
    ap (λ (ns : List Note). has_room ns (length c.args.call.sent.items)) (c.or_unreserve.ensures.notes ∙ c.reserve-2.ensures.same)
    ∙ room_inside (kept_of c.self.inside) c.args.self.now c.self.view_is c.args.call.sent.items c.requires.room

-- ---- the program runs

abbrev new_parts : (g : Over) → After-note_exec g → Kept
new_parts g c = record {
  mem = c.load-loaded.new.mem;
  regions = c.load-loaded.new.regions.regions;
  starts = c.load-loaded.new.regions.starts;
  spaces = c.push_reserved.new.self.items;
  tree = c.exec_close.new.tree;
  files = c.exec_close.new.self.open_files;
  procs = c.switch.new.procs;
  notes = c.note_exec.new.log.notes;
  console = c.self.inside.console.items;
  recording = c.record_program.new.recording;
}

begun : (g : Over) (c : After-note_exec g) → Begun (kept_of c.self.inside) (new_parts g c) c.args.call c.get-task.result.now (kind_of c.args.chooser.now) c.args.index c.args.flat.now
    (texts c.args.strings.args.items) (texts c.args.strings.env.items)
begun g c =
    let k : Kept = kept_of c.self.inside in
    let n : Kept = new_parts g c in
    let loaded = c.in-Ok.program in
    let is : IsLoaded (kind_of c.args.chooser.now) c.args.flat.now (texts c.args.strings.args.items) (texts c.args.strings.env.items) k.regions k.mem n.regions n.mem loaded = search rules in
    let spaces : n.spaces ≡ k.spaces ++ Some loaded.space ∷ [] = search rules in
    let number : c.len-number.result ≡ length k.spaces = search rules in
    let notes : n.notes ≡ load_note (record { pid = c.args.call.pid; program = c.args.index; base = loaded.base; pages = loaded.pages }) ∷ noted_call c.args.call 0 [] ∷ k.notes = search rules in
    let recorded : n.recording ≡ program_recorded (event_recorded k.recording c.get-task.result.now.space) c.len-number.result
    (record { stack = c.args.flat.now.stack; base = loaded.base; pid = c.args.call.pid; args = texts c.args.strings.args.items; env = texts c.args.strings.env.items }) = search rules in
    begun_by k n c.args.call _ c.args.index c.args.flat.now _ _ loaded c.get-task.result.now c.len-number.result is c.load-loaded.ensures.ids c.get-task.ensures spaces number
    c.switch.ensures c.exec_close.ensures.storage notes refl recorded

whole_behind : (g : Over) (c : After-note_exec g) → c.self.inside.whole ≡ whole_table (length (new_parts g c).regions)
whole_behind g c = c.self.invariant.2 ∙ ap whole_table (sym (pages_loaded _ _ _ _ _ _ _ _ _ (begun g c).is))

pub overflow_cast-number : goal.overflow_cast-number
overflow_cast-number g c =
    let k = kept_of c.self.inside in
    let room = room_in g (goal.at.overflow_cast-number g c).After-load-loaded in
    let number : c.len-number.result ≡ length k.spaces = search rules in
    omega (arith, number, number_fits k (length c.args.call.sent.items) c.self.invariant.0.0 room)

pub invariant_of-self-then-not-lent : goal.invariant_of-self-then-not-lent
invariant_of-self-then-not-lent g c =
    let at = goal.at.invariant_of-self-then-not-lent g c in
    (sound_by (kept_of c.self.inside) (new_parts g at.After-note_exec) c.self.invariant.0.0 c.args.call c.get-task.result.now _ c.args.index c.args.flat.now _ _ (begun g at.After-note_exec) c.self.invariant.0.1 (ready_in g at.After-load-loaded), search rules, whole_behind g at.After-note_exec)

pub give_up-requires-clause-there : goal.give_up-requires-clause-there
give_up-requires-clause-there g c =
    let at = goal.at.give_up-requires-clause-there g c in
    let k = kept_of c.self.inside in
    there_by k (new_parts g at.After-note_exec) c.self.invariant.0.0 c.args.call c.get-task.result.now _ c.args.index c.args.flat.now _ _ (begun g at.After-note_exec)
    (can_run_lives k.procs c.args.call.pid (ready_in g at.After-load-loaded))

pub give_up-requires-clause-nobody : goal.give_up-requires-clause-nobody
give_up-requires-clause-nobody g c =
    let at = goal.at.give_up-requires-clause-nobody g c in
    nobody_by (kept_of c.self.inside) (new_parts g at.After-note_exec) c.self.invariant.0.0 c.args.call c.get-task.result.now _ c.args.index c.args.flat.now _ _ (begun g at.After-note_exec)
    (ready_in g at.After-load-loaded) (sym c.borrows-lent.ensures ∙ c.if-not-lent.true)

pub invariant_of-self-else-not-lent : goal.invariant_of-self-else-not-lent
invariant_of-self-else-not-lent g c =
    let at = goal.at.invariant_of-self-else-not-lent g c in
    (sound_by (kept_of c.self.inside) (new_parts g at.After-note_exec) c.self.invariant.0.0 c.args.call c.get-task.result.now _ c.args.index c.args.flat.now _ _ (begun g at.After-note_exec) c.self.invariant.0.1 (ready_in g at.After-load-loaded), search rules, whole_behind g at.After-note_exec)

pub returns-then-not-lent-clause-serves : goal.returns-then-not-lent-clause-serves
returns-then-not-lent-clause-serves g c =
    let at = goal.at.returns-then-not-lent-clause-serves g c in
    let k = kept_of c.self.inside in
    let kind = kind_of c.args.chooser.now in
    subst (λ (old : Kept). ExecServes kind c.args.index c.args.flat.now (texts c.args.strings.args.items) (texts c.args.strings.env.items) c.args.call old c.give_up.new.self (Ok Replied))
    c.self.view_is
    (λ a same caller. serves_own k (new_parts g at.After-note_exec) c.self.invariant.0.0 c.args.call c.get-task.result.now kind c.args.index c.args.flat.now _ _ (begun g at.After-note_exec) a same caller.entry caller.held caller.runs caller.stands
    (room_in g at.After-load-loaded) c.give_up.new.self c.give_up.ensures.goes (sym c.borrows-lent.ensures ∙ c.if-not-lent.true))

pub returns-else-not-lent-clause-serves : goal.returns-else-not-lent-clause-serves
returns-else-not-lent-clause-serves g c =
    let at = goal.at.returns-else-not-lent-clause-serves g c in
    let k = kept_of c.self.inside in
    let kind = kind_of c.args.chooser.now in
    subst (λ (old : Kept). ExecServes kind c.args.index c.args.flat.now (texts c.args.strings.args.items) (texts c.args.strings.env.items) c.args.call old (new_parts g at.After-note_exec) (Ok Replied))
    c.self.view_is
    (λ a same caller. serves_lent k (new_parts g at.After-note_exec) c.self.invariant.0.0 c.args.call c.get-task.result.now kind c.args.index c.args.flat.now _ _ (begun g at.After-note_exec) a same caller.entry caller.held caller.runs caller.stands
    (room_in g at.After-load-loaded) (sym c.borrows-lent.ensures ∙ c.if-not-lent.false))

pub returns-then-not-lent-clause-memory : goal.returns-then-not-lent-clause-memory
returns-then-not-lent-clause-memory g c =
    let at = goal.at.returns-then-not-lent-clause-memory g c in
    let k = kept_of c.self.inside in
    let kind = kind_of c.args.chooser.now in
    subst (λ (old : Kept). ExecServesIn kind c.args.index c.args.flat.now (texts c.args.strings.args.items) (texts c.args.strings.env.items) c.args.call old c.give_up.new.self (Ok Replied))
    c.self.view_is
    (memory_own k (new_parts g at.After-note_exec) c.self.invariant.0.0 c.args.call c.get-task.result.now kind c.args.index c.args.flat.now _ _ (begun g at.After-note_exec) (room_in g at.After-load-loaded)
    c.give_up.new.self c.give_up.ensures.goes (sym c.borrows-lent.ensures ∙ c.if-not-lent.true))

pub returns-else-not-lent-clause-memory : goal.returns-else-not-lent-clause-memory
returns-else-not-lent-clause-memory g c =
    let at = goal.at.returns-else-not-lent-clause-memory g c in
    let k = kept_of c.self.inside in
    let kind = kind_of c.args.chooser.now in
    subst (λ (old : Kept). ExecServesIn kind c.args.index c.args.flat.now (texts c.args.strings.args.items) (texts c.args.strings.env.items) c.args.call old (new_parts g at.After-note_exec) (Ok Replied))
    c.self.view_is
    (memory_lent k (new_parts g at.After-note_exec) c.self.invariant.0.0 c.args.call c.get-task.result.now kind c.args.index c.args.flat.now _ _ (begun g at.After-note_exec) (room_in g at.After-load-loaded)
    (sym c.borrows-lent.ensures ∙ c.if-not-lent.false))

-- ---- it is refused

pub returns-in-Err-E2big-clause-serves : goal.returns-in-Err-E2big-clause-serves
returns-in-Err-E2big-clause-serves g c =
    let k = kept_of c.self.inside in
    let n : Kept = record k { mem = c.load-loaded.new.mem; regions = c.load-loaded.new.regions.regions; starts = c.load-loaded.new.regions.starts; spaces = c.reserve.new.self.items; notes = c.or_unreserve.new.log.notes } in
    subst (λ (old : Kept). ExecServes (kind_of c.args.chooser.now) c.args.index c.args.flat.now (texts c.args.strings.args.items) (texts c.args.strings.env.items) c.args.call old c.refuse.new.self c.refuse.result)
    c.self.view_is
    (refused_big k n c.refuse.new.self c.self.invariant.0.0 c.args.call (kind_of c.args.chooser.now) c.args.index c.args.flat.now _ _ c.refuse.result
    (λ regions mem. same_parts k n mem regions c.load-loaded.ensures.ids c.reserve.ensures.items refl refl refl (c.or_unreserve.ensures.notes ∙ c.reserve-2.ensures.same) refl refl) (search rules) c.refuse.ensures.serves)

pub returns-in-Err-NoRun-clause-serves : goal.returns-in-Err-NoRun-clause-serves
returns-in-Err-NoRun-clause-serves g c =
    let k = kept_of c.self.inside in
    let n : Kept = record k { mem = c.load-loaded.new.mem; regions = c.load-loaded.new.regions.regions; starts = c.load-loaded.new.regions.starts; spaces = c.reserve.new.self.items; notes = c.or_unreserve.new.log.notes } in
    let new = c.refuse-in-Err-NoRun.new.self in
    let result = c.refuse-in-Err-NoRun.result in
    subst (λ (old : Kept). ExecServes (kind_of c.args.chooser.now) c.args.index c.args.flat.now (texts c.args.strings.args.items) (texts c.args.strings.env.items) c.args.call old new result)
    c.self.view_is
    (refused_run k n new c.self.invariant.0.0 c.args.call (kind_of c.args.chooser.now) c.args.index c.args.flat.now _ _ result
    (λ regions mem. same_parts k n mem regions c.load-loaded.ensures.ids c.reserve.ensures.items refl refl refl (c.or_unreserve.ensures.notes ∙ c.reserve-2.ensures.same) refl refl) (search rules) c.refuse-in-Err-NoRun.ensures.serves)

pub returns-in-Err-E2big-clause-memory : goal.returns-in-Err-E2big-clause-memory
returns-in-Err-E2big-clause-memory g c =
    let k = kept_of c.self.inside in
    let n : Kept = record k { mem = c.load-loaded.new.mem; regions = c.load-loaded.new.regions.regions; starts = c.load-loaded.new.regions.starts; spaces = c.reserve.new.self.items; notes = c.or_unreserve.new.log.notes } in
    subst (λ (old : Kept). ExecServesIn (kind_of c.args.chooser.now) c.args.index c.args.flat.now (texts c.args.strings.args.items) (texts c.args.strings.env.items) c.args.call old c.refuse.new.self c.refuse.result)
    c.self.view_is
    (refused_big_in k n c.refuse.new.self c.self.invariant.0.0 c.args.call (kind_of c.args.chooser.now) c.args.index c.args.flat.now _ _ c.refuse.result
    (λ regions mem. same_parts k n mem regions c.load-loaded.ensures.ids c.reserve.ensures.items refl refl refl (c.or_unreserve.ensures.notes ∙ c.reserve-2.ensures.same) refl refl) c.refuse.ensures.memory (search rules) c.refuse.ensures.serves)

pub returns-in-Err-NoRun-clause-memory : goal.returns-in-Err-NoRun-clause-memory
returns-in-Err-NoRun-clause-memory g c =
    let k = kept_of c.self.inside in
    let n : Kept = record k { mem = c.load-loaded.new.mem; regions = c.load-loaded.new.regions.regions; starts = c.load-loaded.new.regions.starts; spaces = c.reserve.new.self.items; notes = c.or_unreserve.new.log.notes } in
    let new = c.refuse-in-Err-NoRun.new.self in
    let result = c.refuse-in-Err-NoRun.result in
    subst (λ (old : Kept). ExecServesIn (kind_of c.args.chooser.now) c.args.index c.args.flat.now (texts c.args.strings.args.items) (texts c.args.strings.env.items) c.args.call old new result)
    c.self.view_is
    (refused_run_in k n new c.self.invariant.0.0 c.args.call (kind_of c.args.chooser.now) c.args.index c.args.flat.now _ _ result
    (λ regions mem. same_parts k n mem regions c.load-loaded.ensures.ids c.reserve.ensures.items refl refl refl (c.or_unreserve.ensures.notes ∙ c.reserve-2.ensures.same) refl refl) c.refuse-in-Err-NoRun.ensures.memory (search rules) c.refuse-in-Err-NoRun.ensures.serves)

-- ---- copies hold their file

pub returns-then-not-lent-clause-holds : goal.returns-then-not-lent-clause-holds
returns-then-not-lent-clause-holds g c = λ holds.
    let at = goal.at.returns-then-not-lent-clause-holds g c in
    let k = kept_of c.self.inside in
    c.give_up.ensures.holds (holds_begun k (new_parts g at.After-note_exec) c.self.invariant.0.0 c.self.invariant.0.1 c.args.call c.get-task.result.now _ c.args.index c.args.flat.now _ _ (begun g at.After-note_exec)
    (ready_in g at.After-load-loaded) (holds_inside k c.args.self.now c.self.view_is holds))

pub returns-else-not-lent-clause-holds : goal.returns-else-not-lent-clause-holds
returns-else-not-lent-clause-holds g c = λ holds.
    let at = goal.at.returns-else-not-lent-clause-holds g c in
    let k = kept_of c.self.inside in
    holds_begun k (new_parts g at.After-note_exec) c.self.invariant.0.0 c.self.invariant.0.1 c.args.call c.get-task.result.now _ c.args.index c.args.flat.now _ _ (begun g at.After-note_exec)
    (ready_in g at.After-load-loaded) (holds_inside k c.args.self.now c.self.view_is holds)

pub returns-in-Err-E2big-clause-holds : goal.returns-in-Err-E2big-clause-holds
returns-in-Err-E2big-clause-holds g c = λ holds.
    let k = kept_of c.self.inside in
    c.refuse.ensures.holds (holds_refused k _ _ _ _ _ _ c.load-loaded.result c.load-loaded.ensures.loads refusal.E2big (search rules) (holds_inside k c.args.self.now c.self.view_is holds))

pub returns-in-Err-NoRun-clause-holds : goal.returns-in-Err-NoRun-clause-holds
returns-in-Err-NoRun-clause-holds g c = λ holds.
    let k = kept_of c.self.inside in
    c.refuse-in-Err-NoRun.ensures.holds (holds_refused k _ _ _ _ _ _ c.load-loaded.result c.load-loaded.ensures.loads refusal.NoRun (search rules) (holds_inside k c.args.self.now c.self.view_is holds))

pub returns-in-Err-Memory-clause-holds : goal.returns-in-Err-Memory-clause-holds
returns-in-Err-Memory-clause-holds g c = λ holds.
    let k = kept_of c.self.inside in
    holds_refused k _ _ _ _ _ _ c.load-loaded.result c.load-loaded.ensures.loads refusal.Memory (search rules) (holds_inside k c.args.self.now c.self.view_is holds)

pub returns-in_err-reserve-2-clause-holds : goal.returns-in_err-reserve-2-clause-holds
returns-in_err-reserve-2-clause-holds g c = holds_inside (kept_of c.self.inside) c.args.self.now c.self.view_is

pub returns-in_err-reserve-clause-holds : goal.returns-in_err-reserve-clause-holds
returns-in_err-reserve-clause-holds g c = holds_inside (kept_of c.self.inside) c.args.self.now c.self.view_is
