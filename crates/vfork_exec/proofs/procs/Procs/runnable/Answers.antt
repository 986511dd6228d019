-- Those of the list that may run.
use Rattle.std.proofs.Common.{List, length, ap, ◌∙◌, arith}
use Rattle.std.specs.Prelude.{filter}
use Rattle.std.proofs.lemmas.List.Sums.{length-filter, count_by-le-length}
use Rattle.vfork_exec.specs.declared.entry.Entry.{Entry}
use Rattle.vfork_exec.specs.Families.{is_ready}
use Rattle.vfork_exec.specs.Procs.{Listed, ready}
use Rattle.vfork_exec.proofs.procs.Procs.runnable.Goals as goal

pub overflow_cast-result : goal.overflow_cast-result
overflow_cast-result g c =
    let test = λ (e : Entry g.row.P.Denot). is_ready e.state in
    omega (arith, c.ready_count.ensures, length-filter test c.deref.result.now, count_by-le-length test c.deref.result.now, ap length c.deref.ensures.value, c.self.invariant.1)

pub returns : goal.returns
unfolding ready
returns g c =
    c.ready_count.ensures ∙ ap (λ (es : List (Entry g.row.P.Denot)). length (filter (λ (e : Entry g.row.P.Denot). is_ready e.state) es)) c.deref.ensures.value ∙ ap (λ (x : Listed g.row.P.Denot). length (ready x)) c.self.view_is
