-- What stands at the place is the process.
use Rattle.std.proofs.Common.{get_or, ap, ◌∙◌}
use Rattle.std.specs.Prelude.{option_map}
use Rattle.vfork_exec.specs.declared.entry.Entry.{Entry}
use Rattle.vfork_exec.specs.Procs.{Listed, pid_of}
use Rattle.vfork_exec.proofs.Places.{item_at}
use Rattle.vfork_exec.proofs.procs.Procs.get.Goals as goal

pub returns : goal.returns
returns g c =
    let at = c.place-at.result in
    let e = c.index.result.now in
    let es = ap (λ (s : Listed g.row.P.Denot). s.entries) c.self.view_is in
    ap (option_map (λ (x : Entry g.row.P.Denot). x.value)) (item_at pid_of c.args.pid c.args.self.now.entries at e c.place-at.ensures.place c.place-at.ensures.within (c.index.ensures ∙ ap (λ xs. get_or xs at e) es))
