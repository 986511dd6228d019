-- A number that isn't there has its place at the end.
use Rattle.std.proofs.Common.{◌+◌, length, subst, sym, ap, ◌∙◌}
use Rattle.std.specs.Prelude.{nat_lt, is_some}
use Rattle.vfork_exec.specs.Procs.{Listed, pid_of, process}
use Rattle.vfork_exec.specs.Keyed.{place_of, Falls}
use Rattle.vfork_exec.proofs.Keyed.{is_there}
use Rattle.vfork_exec.proofs.procs.Procs.lives.Goals as goal

pub returns : goal.returns
returns g c =
    let items = c.self.inside.entries.items in
    ap (λ n. nat_lt n c.len.result) (c.first_place.ensures ∙ ap (place_of pid_of c.args.pid) c.deref.ensures.value)
    ∙ ap (nat_lt (place_of pid_of c.args.pid items)) (c.len.ensures ∙ sym c.deref.ensures.len ∙ ap length c.deref.ensures.value)
    ∙ is_there pid_of c.args.pid items
    ∙ ap (λ (s : Listed g.row.P.Denot). is_some (process s c.args.pid)) c.self.view_is

pub first_place-requires : goal.first_place-requires
first_place-requires g c = (c.self.inside.given + 1, subst (Falls pid_of (c.self.inside.given + 1)) (sym c.deref.ensures.value) c.self.invariant.0)
