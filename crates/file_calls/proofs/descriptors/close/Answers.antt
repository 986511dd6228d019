-- The row of close, from the answer of the tables.
use Rattle.std.proofs.Common.{Ok, Err}
use Rattle.mem_files.specs.declared.fault.FileFault.TheVariants.{Errno}
use Rattle.fd_tables.specs.Changes.{storage}
use Rattle.file_calls.proofs.Faults.{by_fault, nodes_are, files_are}
use Rattle.file_calls.proofs.Descriptor.{close_says}
use Rattle.file_calls.proofs.descriptors.close.Goals as goal

pub returns-in_err-close-clause-answers : goal.returns-in_err-close-clause-answers
returns-in_err-close-clause-answers c = λ a made e.
    by_fault a _ _ _ (Errno c.in_err-close.field-0.0) c.from_residual.ensures.1
    (close_says a (storage c.close.new.tree c.close.new.self.open_files) (Err c.in_err-close.field-0.0) (rw (made.table, made.args, nodes_are a.rest _ _ e, files_are a.rest _ _ e) c.in_err-close.ensures.closes))

pub returns-clause-answers : goal.returns-clause-answers
returns-clause-answers c = λ a made e.
    close_says a (storage c.close.new.tree c.close.new.self.open_files) (Ok tt) (rw (made.table, made.args, nodes_are a.rest _ _ e, files_are a.rest _ _ e) c.in_ok-close.ensures.closes)
