-- The notes are those of the parts.
use Rattle.std.proofs.Common.{◌∙◌, rules}
use Rattle.std.proofs.lemmas.List.{length-map}
use Rattle.kept_parts.specs.Stands.{world_of}
use Rattle.flat_machine.specs.Inside.{state_of}
use Rattle.flat_machine.proofs.Readers.{loads_of_world}
use Rattle.flat_machine.proofs.machine.Machine.notes.Goals as goal

pub returns : goal.returns
unfolding world_of
returns c =
    let m = c.self.inside in
    let v = c.self.view_is in
    record {
      loaded = rw (← v) (loads_of_world (state_of m) (length-map m.paths.items (λ path. path.items) ∙ c.self.invariant.paths) c.self.invariant.loads);
      notes = search rules;
    }
