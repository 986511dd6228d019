-- Those of the list that may run.
use Rattle.std.proofs.Common.{◌≡◌, ◌<◌, List, map, length, Some, sym, ap, subst, ◌∙◌}
use Rattle.std.specs.Prelude.{filter, slice_get, reverse}
use Rattle.vfork_exec.specs.declared.entry.Entry.{Entry}
use Rattle.vfork_exec.specs.Families.{is_ready}
use Rattle.vfork_exec.specs.Procs.{Listed, ready, pid_of}
use Rattle.vfork_exec.proofs.procs.Procs.runnable_at.Goals as goal

pub ready_at-requires : goal.ready_at-requires
unfolding ready
ready_at-requires g c =
    let same = c.deref.ensures.value ∙ ap (λ (x : Listed g.row.P.Denot). x.entries) c.self.view_is in
    subst (λ (es : List (Entry g.row.P.Denot)). c.args.k < length (filter (λ (e : Entry g.row.P.Denot). is_ready e.state) es)) (sym same) c.requires

pub returns : goal.returns
unfolding ready
returns g c =
    let same = c.deref.ensures.value ∙ ap (λ (x : Listed g.row.P.Denot). x.entries) c.self.view_is in
    subst (λ (es : List (Entry g.row.P.Denot)). slice_get (reverse (map pid_of (filter (λ (e : Entry g.row.P.Denot). is_ready e.state) es))) c.args.k ≡ Some c.ready_at.result) same c.ready_at.ensures
