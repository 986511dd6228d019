-- The row of dup3, from its flags and the answer of the tables.
use Rattle.std.proofs.Common.{Ok, Err, sym}
use Rattle.mem_files.specs.declared.fault.FileFault.TheVariants.{Errno}
use Rattle.fd_tables.specs.Changes.{storage}
use Rattle.file_calls.proofs.Faults.{by_fault, kept_storage, nodes_are, files_are}
use Rattle.file_calls.proofs.Descriptor.{dup3_flags, dup3_says}
use Rattle.file_calls.proofs.descriptors.dup3.Goals as goal

pub returns-then-not-is_none_or-clause-answers : goal.returns-then-not-is_none_or-clause-answers
returns-then-not-is_none_or-clause-answers c = λ a made e. (dup3_flags a (rw made.args (sym c.if-not-is_none_or.ensures)), kept_storage a.rest _ e)

pub returns-in_err-dup3-clause-answers : goal.returns-in_err-dup3-clause-answers
returns-in_err-dup3-clause-answers c = λ a made e.
    by_fault a _ _ _ (Errno c.in_err-dup3.field-0.0) c.from_residual.ensures.1
    (dup3_says a (storage c.dup3.new.tree c.dup3.new.self.open_files) (Err c.in_err-dup3.field-0.0) (rw made.args (sym c.if-not-is_none_or.ensures)) (rw (made.table, made.args, nodes_are a.rest _ _ e, files_are a.rest _ _ e) c.in_err-dup3.ensures.replaces))

pub returns-clause-answers : goal.returns-clause-answers
returns-clause-answers c = λ a made e.
    rw (← made.args) (dup3_says a (storage c.dup3.new.tree c.dup3.new.self.open_files) (Ok tt) (rw made.args (sym c.if-not-is_none_or.ensures)) (rw (made.table, made.args, nodes_are a.rest _ _ e, files_are a.rest _ _ e) c.in_ok-dup3.ensures.replaces))
