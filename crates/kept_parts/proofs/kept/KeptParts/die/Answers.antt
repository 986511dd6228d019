-- The end is noted, and the process is gone.
use Rattle.std.proofs.Common.{List, ◌∷◌, sym, ap, subst, ◌∙◌}
use Rattle.call_log.specs.declared.how.How.TheVariants.{Signal}
use Rattle.call_log.specs.Notes.{Note, end_note}
use Rattle.vfork_exec.specs.Procs.{CanRun}
use Rattle.machine_world.specs.Event.{at_process, trapped}
use Rattle.kept_parts.specs.Kept.{Kept}
use Rattle.kept_parts.specs.Inside.{kept_of}
use Rattle.kept_parts.specs.Stands.{world_of}
use Rattle.kept_parts.specs.Serves.{Died}
use Rattle.kept_parts.specs.declared.task.Task.{Task}
use Rattle.kept_parts.specs.Recorded.{event_recorded}
use Rattle.kept_parts.proofs.Common.RunningProcess.{value_found}
use Rattle.kept_parts.proofs.Common.ProcessList.{can_run_lives}
use Rattle.kept_parts.proofs.Copies.BehindStrays.{holds_inside}
use Rattle.kept_parts.proofs.Ends.Outcomes.{end_done}
use Rattle.kept_parts.proofs.Ends.Memory.{end_mem}
use Rattle.kept_parts.proofs.kept.KeptParts.die.Goals as goal

pub returns-clause-dies : goal.returns-clause-dies
returns-clause-dies c = λ a.
    let pid = c.args.pid in
    let signal = c.args.signal in
    let k = kept_of c.self.inside in
    let lives = can_run_lives k.procs pid (subst (λ (s : Kept). CanRun s.procs pid) (sym c.self.view_is) c.requires) in
    let noted = c.keep.ensures.notes ∙ ap (λ (ns : List Note). end_note pid (Signal signal) ∷ ns) c.reserve.ensures.same in
    subst (λ (old : Kept). Died a (at_process (world_of a old) pid (λ p s. trapped (world_of a old) p signal)) c.depart.new.self pid) c.self.view_is
    (end_done a k pid signal c.self.invariant.0.0 lives c.depart.new.self c.keep.new.log.notes c.pass.new.self noted
    (λ e h runs. c.pass.ensures ∙ ap (λ (t : Task). event_recorded k.recording t.space) (value_found k.procs pid e runs.lives c.get.result.now c.get.ensures)) c.depart.ensures.goes)

pub returns-clause-memory : goal.returns-clause-memory
returns-clause-memory c =
    let pid = c.args.pid in
    let k = kept_of c.self.inside in
    let lives = can_run_lives k.procs pid (subst (λ (s : Kept). CanRun s.procs pid) (sym c.self.view_is) c.requires) in
    end_mem k pid c.self.invariant.0.0 lives c.keep.new.log.notes c.pass.new.self (Signal c.args.signal) c.depart.new.self c.depart.ensures.goes ∙ ap (λ (s : Kept). s.mem) c.self.view_is

pub returns-clause-holds : goal.returns-clause-holds
returns-clause-holds c = λ holds. c.depart.ensures.holds (holds_inside (kept_of c.self.inside) c.args.self.now c.self.view_is holds)
