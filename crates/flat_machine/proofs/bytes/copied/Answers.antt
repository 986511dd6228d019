-- What is read of a process's space, or of all of memory.
use Rattle.kept_parts.specs.Inside.{kept_of}
use Rattle.flat_machine.proofs.Copies.{none_lives, none_lives_in, copied_paged, copied_own, copied_whole, strays_own, strays_whole}
use Rattle.flat_machine.proofs.bytes.copied.Goals as goal

pub returns-then-not-lives-clause-own : goal.returns-then-not-lives-clause-own
returns-then-not-lives-clause-own c own a =
    let v = c.parts.view_is in
    let t = c.if-not-lives.true in
    rw (← v) (none_lives a (kept_of c.parts.inside) c.args.pid c.args.addr c.args.len c.lives.result c.lives.ensures t)

pub returns-then-not-lives-clause-memory : goal.returns-then-not-lives-clause-memory
returns-then-not-lives-clause-memory c all headers a =
    let v = c.parts.view_is in
    let t = c.if-not-lives.true in
    rw (← v) (none_lives_in a (kept_of c.parts.inside) c.args.pid c.args.addr c.args.len headers c.lives.result c.lives.ensures t)

pub read_range-requires : goal.read_range-requires
read_range-requires c =
    let v = c.parts.view_is in
    let each = rw (← v) at c.table_of-owners.ensures in
    record { memory = copied_paged c.args.mode (kept_of c.parts.inside) c.args.pid c.args.addr c.args.len c.table_of-owners.result.now c.get-task.result.now c.parts.invariant.0.0 c.get-task.ensures each }

pub returns-in-Ok-clause-own : goal.returns-in-Ok-clause-own
returns-in-Ok-clause-own c own a =
    let v = c.parts.view_is in
    let each = rw (← v) at c.table_of-owners.ensures in
    rw (← v) (copied_own c.args.mode (kept_of c.parts.inside) c.args.pid c.args.addr c.args.len c.table_of-owners.result.now c.get-task.result.now c.parts.invariant.0.0 c.get-task.ensures each
    c.new-bytes.result.items c.read_range.new.into.items c.new-bytes.ensures.items c.in-Ok.ensures.bytes own a)

pub returns-in-Ok-clause-memory : goal.returns-in-Ok-clause-memory
returns-in-Ok-clause-memory c all headers a =
    let v = c.parts.view_is in
    let each = rw (← v) at c.table_of-owners.ensures in
    rw (← v) (copied_whole c.args.mode (kept_of c.parts.inside) c.args.pid c.args.addr c.args.len c.table_of-owners.result.now c.get-task.result.now c.parts.invariant.0.0 c.get-task.ensures each
    c.new-bytes.result.items c.read_range.new.into.items c.new-bytes.ensures.items c.in-Ok.ensures.bytes all headers a)

pub returns-in-Err-Stray-clause-own : goal.returns-in-Err-Stray-clause-own
returns-in-Err-Stray-clause-own c own a =
    let v = c.parts.view_is in
    let each = rw (← v) at c.table_of-owners.ensures in
    let strays = rw c.in-Err-Stray.field-0-is at c.in-Err-Stray.ensures.bytes in
    rw (← v) (strays_own c.args.mode (kept_of c.parts.inside) c.args.pid c.args.addr c.args.len c.table_of-owners.result.now c.get-task.result.now c.parts.invariant.0.0 c.get-task.ensures each
    (record { addr = c.in-Err-Stray.field-0-0; len = c.in-Err-Stray.field-0-1 }) strays own a)

pub returns-in-Err-Stray-clause-memory : goal.returns-in-Err-Stray-clause-memory
returns-in-Err-Stray-clause-memory c all headers a =
    let v = c.parts.view_is in
    let each = rw (← v) at c.table_of-owners.ensures in
    let strays = rw c.in-Err-Stray.field-0-is at c.in-Err-Stray.ensures.bytes in
    rw (← v) (strays_whole c.args.mode (kept_of c.parts.inside) c.args.pid c.args.addr c.args.len c.table_of-owners.result.now c.get-task.result.now c.parts.invariant.0.0 c.get-task.ensures each
    (record { addr = c.in-Err-Stray.field-0-0; len = c.in-Err-Stray.field-0-1 }) strays all headers a)
