-- The row of openat, from its flags, its path and what that leads to.
use Rattle.std.proofs.Common.{Some, None, Err, sym}
use Rattle.mem_files.specs.declared.fault.FileFault.TheVariants.{Errno}
use Rattle.file_calls.proofs.Faults.{by_fault, kept_storage, nodes_are}
use Rattle.file_calls.proofs.Opens.{openat_flags, openat_refused, openat_found, openat_at}
use Rattle.file_calls.proofs.opening.openat.Goals as goal

pub returns-then-not-are_valid-clause-answers : goal.returns-then-not-are_valid-clause-answers
returns-then-not-are_valid-clause-answers c = λ a made e. (openat_flags a (rw made.args (sym c.if-not-are_valid.ensures)), kept_storage a.rest _ e)

pub returns-in_err-path-clause-answers : goal.returns-in_err-path-clause-answers
returns-in_err-path-clause-answers c = λ a made e.
    by_fault a _ _ _ (Errno c.in_err-path.field-0.0) c.from_residual.ensures.1
    (openat_refused a (rw made.args (sym c.if-not-are_valid.ensures)) c.in_err-path.field-0.0 (rw (made.args, made.sent) c.in_err-path.ensures), kept_storage a.rest _ e)

pub returns-in_err-node-clause-answers : goal.returns-in_err-node-clause-answers
returns-in_err-node-clause-answers c = λ a made e.
    by_fault a _ _ _ (Errno c.in_err-node.field-0.0) c.from_residual-in_err-node.ensures.1
    (openat_found a (rw made.args (sym c.if-not-are_valid.ensures)) c.in_ok-path.path (Err c.in_err-node.field-0.0) (rw (made.args, made.sent) c.in_ok-path.ensures) (rw (nodes_are a.rest _ _ e) c.in_err-node.ensures), kept_storage a.rest _ e)

pub returns-in-Some-clause-answers : goal.returns-in-Some-clause-answers
returns-in-Some-clause-answers c = λ a made e.
    let at = openat_at a (rw made.args (sym c.if-not-are_valid.ensures)) c.in_ok-path.path c.in_ok-node.field-0 (Some c.in-Some.node) (rw (made.args, made.sent) c.in_ok-path.ensures) (rw (nodes_are a.rest _ _ e) c.in_ok-node.ensures) c.in-Some.is in
    rw at (c.open_old.ensures.answers a made e)

pub returns-in-None-clause-answers : goal.returns-in-None-clause-answers
returns-in-None-clause-answers c = λ a made e.
    let at = openat_at a (rw made.args (sym c.if-not-are_valid.ensures)) c.in_ok-path.path c.in_ok-node.field-0 None (rw (made.args, made.sent) c.in_ok-path.ensures) (rw (nodes_are a.rest _ _ e) c.in_ok-node.ensures) c.in-None.is in
    rw at (c.open_new.ensures.answers a made e)
