-- The row of dup, from the answer of the tables.
use Rattle.std.proofs.Common.{Ok, Err}
use Rattle.mem_files.specs.declared.fault.FileFault.TheVariants.{Errno}
use Rattle.file_calls.proofs.Faults.{by_fault}
use Rattle.file_calls.proofs.Descriptor.{dup_says}
use Rattle.file_calls.proofs.descriptors.dup.Goals as goal

pub returns-in_err-dup-clause-answers : goal.returns-in_err-dup-clause-answers
returns-in_err-dup-clause-answers c = λ a made e.
    by_fault a _ _ _ (Errno c.in_err-dup.field-0.0) c.from_residual.ensures.1
    (dup_says a c.dup.new.self.open_files (Err c.in_err-dup.field-0.0) (rw (made.table, made.args, e) c.in_err-dup.ensures.duplicates))

pub returns-clause-answers : goal.returns-clause-answers
returns-clause-answers c = λ a made e. dup_says a c.dup.new.self.open_files (Ok c.in_ok-dup.field-0) (rw (made.table, made.args, e) c.in_ok-dup.ensures.duplicates)
