-- No pipe is marked once those went on that wait on one that changed.
use Rattle.std.proofs.Common.{◌≡◌, ap, ◌∙◌}
use Rattle.memory_world.specs.Physical.{has_stray}
use Rattle.kept_parts.specs.Kept.{Kept}
use Rattle.syscall_layer.proofs.parts.Parts.new.Goals as goal

pub invariant_of-result : goal.invariant_of-result
invariant_of-result c = record {
  noted = c.has_stray-noted.ensures;
  unmarked = ap (λ (k : Kept). k.files.changed) c.wake_changed.ensures.kept;
}

pub returns : goal.returns
returns c =
    let awake = c.wake_changed.ensures.kept in
    let noted : c.has_stray-noted.result ≡ has_stray c.args.kept.notes = c.has_stray-noted.ensures ∙ ap (λ (k : Kept). has_stray k.notes) awake in
    (λ i. record { kept = awake i; programs = c.args.programs.items; mode = c.args.mode; noted = noted i })
