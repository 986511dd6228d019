-- What the world of the parts says of the process.
use Rattle.std.proofs.Common.{◌≤◌, List, length, sym, subst, arith}
use Rattle.std.proofs.lemmas.List.{length-map}
use Rattle.call_log.specs.Notes.{most_calls}
use Rattle.machine_world.specs.Ages.{kept_calls}
use Rattle.core_file.specs.Text.{SegmentValue}
use Rattle.core_file.specs.Code.{segment_value, segment_values}
use Rattle.kept_parts.specs.Kept.{Kept}
use Rattle.kept_parts.specs.Inside.{kept_of}
use Rattle.core_parts.proofs.Told.{core_none, load_none, core_told, load_told, told_paged, told_few}
use Rattle.core_parts.proofs.process.core_of_process.Goals as goal

pub returns-then-not-lives-clause-core : goal.returns-then-not-lives-clause-core
returns-then-not-lives-clause-core c a =
    let v = c.parts.view_is in
    rw (← v) (core_none a (kept_of c.parts.inside) c.args.pid c.lives.result c.lives.ensures c.if-not-lives.true c.args.signal)

pub returns-then-not-lives-clause-load : goal.returns-then-not-lives-clause-load
returns-then-not-lives-clause-load c a few =
    let v = c.parts.view_is in
    rw (← v) (load_none a (kept_of c.parts.inside) c.args.pid c.lives.result c.lives.ensures c.if-not-lives.true)

pub own_segments-requires : goal.own_segments-requires
own_segments-requires c =
    let v = c.parts.view_is in
    let each = rw (← v) at c.table_of-owners.ensures in
    told_paged (kept_of c.parts.inside) c.args.pid c.get-task.result.now c.table_of-owners.result.now c.parts.invariant.0.0 c.get-task.ensures each

pub returns-clause-core : goal.returns-clause-core
returns-clause-core c a =
    let v = c.parts.view_is in
    let each = rw (← v) at c.table_of-owners.ensures in
    rw (← v) (core_told a (kept_of c.parts.inside) c.args.pid c.get-task.result.now c.table_of-owners.result.now c.parts.invariant.0.0 c.get-task.ensures each
    c.parent.result c.args.signal _ c.parent.ensures c.in_ok-own_segments.ensures.all)

pub returns-clause-load : goal.returns-clause-load
returns-clause-load c a few =
    let v = c.parts.view_is in
    let each = rw (← v) at c.table_of-owners.ensures in
    let calls : kept_calls (kept_of c.parts.inside).notes ≤ most_calls = subst (λ (k : Kept). kept_calls k.notes ≤ most_calls) (sym v) few in
    rw (← v) (load_told a (kept_of c.parts.inside) c.args.pid c.get-task.result.now c.table_of-owners.result.now c.parts.invariant.0.0 c.get-task.ensures each calls)

pub returns-clause-fits : goal.returns-clause-fits
returns-clause-fits c =
    let v = c.parts.view_is in
    let each = rw (← v) at c.table_of-owners.ensures in
    let paged = told_paged (kept_of c.parts.inside) c.args.pid c.get-task.result.now c.table_of-owners.result.now c.parts.invariant.0.0 c.get-task.ensures each in
    let most : length c.table_of-owners.result.now ≤ 16384 = omega (arith, paged, c.parts.invariant.0.0.memory, c.parts.invariant.0.0.most) in
    let ss : List SegmentValue = segment_values c.in_ok-own_segments.field-0.items in
    let count : length ss ≤ 16384 = omega (arith, most, c.in_ok-own_segments.ensures.few, length-map c.in_ok-own_segments.field-0.items segment_value) in
    record { few = count; fit = told_few c.parts.inside.mem c.table_of-owners.result.now ss most c.in_ok-own_segments.ensures.all }
