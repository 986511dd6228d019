-- The row of mkdirat, from its path and the answer of the tree.
use Rattle.std.proofs.Common.{Ok, Err}
use Rattle.mem_files.specs.declared.fault.FileFault.TheVariants.{Errno}
use Rattle.file_calls.proofs.Faults.{by_fault, kept_tree}
use Rattle.file_calls.proofs.Named.{mkdirat_refused, mkdirat_says}
use Rattle.file_calls.proofs.paths.mkdirat.Goals as goal

pub returns-in_err-path : goal.returns-in_err-path
returns-in_err-path c = λ a made e.
    by_fault a _ _ _ (Errno c.in_err-path.field-0.0) c.from_residual.ensures.1
    (mkdirat_refused a c.in_err-path.field-0.0 (rw (made.args, made.sent) c.in_err-path.ensures), kept_tree a.rest _ e)

pub returns-in_err-mkdir : goal.returns-in_err-mkdir
returns-in_err-mkdir c = λ a made e.
    by_fault a _ _ _ c.in_err-mkdir.field-0.0 c.from_residual-in_err-mkdir.ensures.1
    (mkdirat_says a c.in_ok-path.path c.mkdir.new.self (Err c.in_err-mkdir.field-0.0) (rw (made.args, made.sent) c.in_ok-path.ensures) (rw e c.in_err-mkdir.ensures))

pub returns : goal.returns
returns c = λ a made e.
    mkdirat_says a c.in_ok-path.path c.mkdir.new.self (Ok c.in_ok-mkdir.field-0) (rw (made.args, made.sent) c.in_ok-path.ensures) (rw e c.in_ok-mkdir.ensures)
