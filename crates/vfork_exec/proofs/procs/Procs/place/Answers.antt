-- A process that lives is on the list.
use Rattle.std.proofs.Common.{◌+◌, ◌<◌, length, ap, sym, subst, ◌∙◌}
use Rattle.vfork_exec.specs.Procs.{Listed, pid_of}
use Rattle.vfork_exec.specs.Keyed.{place_of, Falls}
use Rattle.vfork_exec.proofs.Places.{within}
use Rattle.vfork_exec.proofs.procs.Procs.place.Goals as goal

pub returns-clause-within : goal.returns-clause-within
returns-clause-within g c =
    let entries = c.args.self.now.entries in
    let es = ap (λ (s : Listed g.row.P.Denot). s.entries) c.self.view_is in
    let at = c.first_place.ensures ∙ ap (place_of pid_of c.args.pid) (c.deref.ensures.value ∙ es) in
    subst (λ n. n < length entries) (sym at) (within pid_of c.args.pid entries c.requires)

pub first_place-requires : goal.first_place-requires
first_place-requires g c = (c.self.inside.given + 1, subst (Falls pid_of (c.self.inside.given + 1)) (sym c.deref.ensures.value) c.self.invariant.0)
