-- As many paths as programs are there.
use Rattle.std.proofs.Common.{sym, ap, ◌∙◌}
use Rattle.std.proofs.lemmas.List.{length-map}
use Rattle.call_log.specs.Programs.{paths_of}
use Rattle.flat_machine.specs.Inside.{state_of}
use Rattle.flat_machine.proofs.Readers.{paths_of_world}
use Rattle.flat_machine.proofs.machine.Machine.paths.Goals as goal

pub returns : goal.returns
returns c =
    let m = c.self.inside in
    let v = c.self.view_is in
    rw (← v) (ap paths_of c.deref.ensures.value ∙ sym (paths_of_world (state_of m) (length-map m.paths.items (λ path. path.items) ∙ c.self.invariant.paths)))
