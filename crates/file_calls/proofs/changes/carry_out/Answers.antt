-- Each number has its row.
use Rattle.std.proofs.Common.{arith, None, ◌∙◌, ap, sym, subst}
use Rattle.machine_world.specs.Asks.{Row}
use Rattle.machine_world.specs.Transfers.{write_row}
use Rattle.file_calls.specs.Calls.{WaitsOn}
use Rattle.file_calls.proofs.Faults.{over_files, over_tree, over_storage, over_all, stored}
use Rattle.file_calls.proofs.Numbers.{row_23, row_24, row_34, row_35, row_56, row_57, row_64, row_66, is_last}
use Rattle.file_calls.proofs.changes.carry_out.Goals as goal

pub returns-in-23-clause-answers : goal.returns-in-23-clause-answers
returns-in-23-clause-answers c = λ a made rest. over_files a _ _ (row_23 a _ made.number c.in-23.is) _ _ _ _ rest.tree rest.console (c.dup.ensures.answers a made rest.files)

pub returns-in-24-clause-answers : goal.returns-in-24-clause-answers
returns-in-24-clause-answers c = λ a made rest. over_storage a _ _ (row_24 a _ made.number c.in-24.is) _ _ _ _ rest.console (c.dup3.ensures.answers a made (stored a.rest _ _ rest.tree rest.files))

pub returns-in-34-clause-answers : goal.returns-in-34-clause-answers
returns-in-34-clause-answers c = λ a made rest. over_tree a _ _ (row_34 a _ made.number c.in-34.is) _ _ _ _ rest.files rest.console (c.mkdirat.ensures a made rest.tree)

pub returns-in-35-clause-answers : goal.returns-in-35-clause-answers
returns-in-35-clause-answers c = λ a made rest. over_tree a _ _ (row_35 a _ made.number c.in-35.is) _ _ _ _ rest.files rest.console (c.unlinkat.ensures a made rest.tree)

pub returns-in-56-clause-answers : goal.returns-in-56-clause-answers
returns-in-56-clause-answers c = λ a made rest. over_storage a _ _ (row_56 a _ made.number c.in-56.is) _ _ _ _ rest.console (c.openat.ensures.answers a made (stored a.rest _ _ rest.tree rest.files))

pub returns-in-57-clause-answers : goal.returns-in-57-clause-answers
returns-in-57-clause-answers c = λ a made rest. over_storage a _ _ (row_57 a _ made.number c.in-57.is) _ _ _ _ rest.console (c.close.ensures.answers a made (stored a.rest _ _ rest.tree rest.files))

pub returns-in-64-clause-answers : goal.returns-in-64-clause-answers
returns-in-64-clause-answers c = λ a made rest.
    let is = row_64 a _ made.number c.in-64.is ∙ ap (write_row a) (made.sent ∙ sym c.deref.ensures.value) in
    over_all a _ _ is _ _ _ _ (c.write.ensures.answers a made rest (subst (λ (r : Row). WaitsOn r None) is (c.requires.replies a made rest.files)))

pub returns-in_default-clause-answers : goal.returns-in_default-clause-answers
returns-in_default-clause-answers c = λ a made rest.
    let is = row_66 a _ made.number (is_last c.args.call.now.number c.requires.change (λ e. omega arith) (λ e. omega arith) (λ e. omega arith) (λ e. omega arith) (λ e. omega arith) (λ e. omega arith) (λ e. omega arith)) in
    over_all a _ _ is _ _ _ _ (c.writev.ensures.answers a made rest (subst (λ (r : Row). WaitsOn r None) is (c.requires.replies a made rest.files)))
