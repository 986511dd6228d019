-- What is there opens, from its fault and the room for a descriptor.
use Rattle.std.proofs.Common.{◌∙◌, refl, sym, ap}
use Rattle.mem_files.specs.declared.fault.FileFault.TheVariants.{Errno}
use Rattle.fd_tables.specs.Files.{lowest_free}
use Rattle.fd_tables.specs.Changes.{storage}
use Rattle.file_calls.proofs.Faults.{by_fault, kept_storage, nodes_are, files_are}
use Rattle.file_calls.proofs.Opens.{old_refused, old_full, old_opens, no_room, opens_is}
use Rattle.file_calls.proofs.opening.open_old.Goals as goal

pub returns-in_err-may_open-clause-answers : goal.returns-in_err-may_open-clause-answers
returns-in_err-may_open-clause-answers c = λ a made e.
    by_fault a _ _ _ (Errno c.in_err-may_open.field-0.0) c.from_residual.ensures.1
    (old_refused a c.args.node c.in_err-may_open.field-0.0 (rw (made.args, nodes_are a.rest _ _ e) c.in_err-may_open.ensures), kept_storage a.rest _ e)

pub returns-in_err-make_room-clause-answers : goal.returns-in_err-make_room-clause-answers
returns-in_err-make_room-clause-answers c = λ a made e.
    let same = ap (storage c.args.tree.now) (sym c.in_err-make_room.ensures.same) in
    by_fault a _ _ _ c.in_err-make_room.field-0.0 c.from_residual-in_err-make_room.ensures.1
    (no_room a _ _ _ c.make_room.new.files.spare c.in_err-make_room.field-0.0 (rw (made.table, files_are a.rest _ _ e) refl) c.in_err-make_room.ensures.free
    (old_full a c.args.node (rw (made.args, nodes_are a.rest _ _ e) c.in_ok-may_open.ensures)) (kept_storage a.rest _ (e ∙ same)))

pub returns-clause-answers : goal.returns-clause-answers
returns-clause-answers c = λ a made e.
    old_opens a c.args.node c.open.result (rw (made.args, nodes_are a.rest _ _ e) c.in_ok-may_open.ensures) (rw (made.table, files_are a.rest _ _ e) (ap (λ files. lowest_free files c.args.call.now.table) (sym c.in_ok-make_room.ensures.same) ∙ c.open.ensures.fd))
    ∙ opens_is a c.open.result c.args.node c.empty.new.tree _ c.make_room.new.files.open_files _ (rw (made.table, made.args) c.open.ensures.opened)
    (rw (made.args, nodes_are a.rest _ _ e) c.empty.ensures) (rw (files_are a.rest _ _ e) c.in_ok-make_room.ensures.same)
