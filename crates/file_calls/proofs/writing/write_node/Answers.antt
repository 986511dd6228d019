-- The row of a write to a node, from the answer of the tree.
use Rattle.std.proofs.Common.{◌≡◌, arith, sym}
use Rattle.machine_world.specs.Transfers.{write_position}
use Rattle.file_calls.proofs.Faults.{by_fault, nodes_are, files_are}
use Rattle.file_calls.proofs.Writes.{node_says, node_refused, written_end, written_small}
use Rattle.file_calls.proofs.writing.write_node.Goals as goal

pub returns-in_err-write_at-clause-answers : goal.returns-in_err-write_at-clause-answers
returns-in_err-write_at-clause-answers c = λ a made e.
    let at : write_position a c.args.view c.args.node ≡ c.position-at.result = rw (nodes_are a.rest _ _ e) (sym c.position-at.ensures) in
    by_fault a _ _ _ c.in_err-write_at.field-0.0 c.from_residual.ensures.1
    (node_refused a c.args.node _ c.args.bytes.now c.write_at.new.self c.in_err-write_at.field-0.0 (rw (at, nodes_are a.rest _ _ e) c.in_err-write_at.ensures) c.args.files.now.open_files (files_are a.rest _ _ e))

pub overflow_cast-result : goal.overflow_cast-result
overflow_cast-result c = let small = written_small c.args.tree.now c.write_at.new.self c.args.node c.position-at.result c.args.bytes.now c.in_ok-write_at.ensures in omega arith

pub advance-requires : goal.advance-requires
advance-requires c = written_end c.args.tree.now c.write_at.new.self c.args.node c.position-at.result c.args.bytes.now (omega arith) c.in_ok-write_at.ensures

pub returns-clause-answers : goal.returns-clause-answers
returns-clause-answers c = λ a made e.
    let at : write_position a c.args.view c.args.node ≡ c.position-at.result = rw (nodes_are a.rest _ _ e) (sym c.position-at.ensures) in
    rw at (node_says a c.args.node c.position-at.result c.args.bytes.now c.write_at.new.self _ (rw (nodes_are a.rest _ _ e) c.in_ok-write_at.ensures) (rw (made.table, made.args, files_are a.rest _ _ e) c.advance.ensures.moved))
