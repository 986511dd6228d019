-- The row of unlinkat, from its flags, its path and the answer of the tree.
use Rattle.std.proofs.Common.{Ok, Err, sym}
use Rattle.mem_files.specs.declared.fault.FileFault.TheVariants.{Errno}
use Rattle.file_calls.proofs.Faults.{by_fault, kept_tree}
use Rattle.file_calls.proofs.Named.{unlinkat_flags, unlinkat_refused, unlinkat_says}
use Rattle.file_calls.proofs.paths.unlinkat.Goals as goal

pub returns-then-not-is_none_or : goal.returns-then-not-is_none_or
returns-then-not-is_none_or c = λ a made e. (unlinkat_flags a (rw made.args (sym c.if-not-is_none_or.ensures)), kept_tree a.rest _ e)

pub returns-in_err-path : goal.returns-in_err-path
returns-in_err-path c = λ a made e.
    by_fault a _ _ _ (Errno c.in_err-path.field-0.0) c.from_residual.ensures.1
    (unlinkat_refused a c.in_err-path.field-0.0 (rw made.args (sym c.if-not-is_none_or.ensures)) (rw (made.args, made.sent) c.in_err-path.ensures), kept_tree a.rest _ e)

pub returns-in_err-unlink : goal.returns-in_err-unlink
returns-in_err-unlink c = λ a made e.
    by_fault a _ _ _ (Errno c.in_err-unlink.field-0.0) c.from_residual-in_err-unlink.ensures.1
    (unlinkat_says a c.in_ok-path.path c.unlink.new.self (Err c.in_err-unlink.field-0.0) (rw made.args (sym c.if-not-is_none_or.ensures)) (rw (made.args, made.sent) c.in_ok-path.ensures) (rw (e, made.args) c.in_err-unlink.ensures))

pub returns : goal.returns
returns c = λ a made e.
    unlinkat_says a c.in_ok-path.path c.unlink.new.self (Ok tt) (rw made.args (sym c.if-not-is_none_or.ensures)) (rw (made.args, made.sent) c.in_ok-path.ensures) (rw (e, made.args) c.in_ok-unlink.ensures)
