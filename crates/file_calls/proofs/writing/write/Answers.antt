-- The row of write, from what the descriptor shows.
use Rattle.std.proofs.Common.{◌∙◌, None, ap, subst}
use Rattle.mem_files.specs.declared.fault.FileFault.TheVariants.{Errno}
use Rattle.machine_world.specs.Asks.{Row, arg, view_of}
use Rattle.machine_world.specs.Transfers.{target_write}
use Rattle.file_calls.specs.Calls.{WaitsOn}
use Rattle.file_calls.proofs.Faults.{by_fault, kept_all, over_console, over_files, over_storage, stored}
use Rattle.file_calls.proofs.Writes.{view_is, write_blind, write_unfit, write_goes, not_true, not_false, console_takes}
use Rattle.file_calls.proofs.writing.write.Goals as goal

pub returns-in_err-view-clause-answers : goal.returns-in_err-view-clause-answers
returns-in_err-view-clause-answers c = λ a made rest says.
    by_fault a _ _ _ (Errno c.in_err-view.field-0.0) c.from_residual.ensures.1
    (write_blind a c.args.bytes.now c.in_err-view.field-0.0 (rw (rest.files, made.table, made.args) c.in_err-view.ensures), kept_all a.rest _ _ _ rest.tree rest.files rest.console)

pub returns-then-not-view-clause-answers : goal.returns-then-not-view-clause-answers
returns-then-not-view-clause-answers c = λ a made rest says.
    let shown = view_is (view_of a (arg a 0)) c.in_ok-view.view (rw (rest.files, made.table, made.args) c.in_ok-view.ensures) in
    (write_unfit a c.args.bytes.now c.in_ok-view.view shown (not_true _ c.if-not-view.true), kept_all a.rest _ _ _ rest.tree rest.files rest.console)

pub returns-in-Console-clause-answers : goal.returns-in-Console-clause-answers
returns-in-Console-clause-answers c = λ a made rest says.
    let shown = view_is (view_of a (arg a 0)) c.in_ok-view.view (rw (rest.files, made.table, made.args) c.in_ok-view.ensures) in
    let goes = write_goes a c.args.bytes.now c.in_ok-view.view shown (not_false _ c.if-not-view.false) ∙ ap (target_write a c.in_ok-view.view c.args.bytes.now) c.in-Console.is in
    let w = c.write_console.ensures in
    over_console a _ _ goes _ _ _ _ rest.tree rest.files (console_takes a c.in_ok-view.view c.args.bytes.now c.write_console.new.console.items c.write_console.result w.count (rw rest.console w.console) w.memory)

pub returns-in-Node-clause-answers : goal.returns-in-Node-clause-answers
returns-in-Node-clause-answers c = λ a made rest says.
    let shown = view_is (view_of a (arg a 0)) c.in_ok-view.view (rw (rest.files, made.table, made.args) c.in_ok-view.ensures) in
    let goes = write_goes a c.args.bytes.now c.in_ok-view.view shown (not_false _ c.if-not-view.false) ∙ ap (target_write a c.in_ok-view.view c.args.bytes.now) c.in-Node.is in
    over_storage a _ _ goes _ _ _ _ rest.console (c.write_node.ensures.answers a made (stored a.rest _ _ rest.tree rest.files))

pub returns-in-Pipe-clause-answers : goal.returns-in-Pipe-clause-answers
returns-in-Pipe-clause-answers c = λ a made rest says.
    let shown = view_is (view_of a (arg a 0)) c.in_ok-view.view (rw (rest.files, made.table, made.args) c.in_ok-view.ensures) in
    let goes = write_goes a c.args.bytes.now c.in_ok-view.view shown (not_false _ c.if-not-view.false) ∙ ap (target_write a c.in_ok-view.view c.args.bytes.now) c.in-Pipe.is in
    over_files a _ _ goes _ _ _ _ rest.tree rest.console (c.write_pipe.ensures.answers a rest.files (subst (λ (r : Row). WaitsOn r None) goes says))
