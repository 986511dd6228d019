-- A new file opens, from the room for a descriptor and the answer of the tree.
use Rattle.std.proofs.Common.{◌≡◌, ◌∙◌, refl, [], Some, None, sym, ap}
use Rattle.mem_files.specs.Changes.{with_file}
use Rattle.fd_tables.specs.Files.{lowest_free}
use Rattle.fd_tables.specs.Changes.{storage}
use Rattle.machine_world.specs.Asks.{free_of}
use Rattle.machine_world.specs.PathCalls.{opens}
use Rattle.file_calls.proofs.Faults.{by_fault, kept_storage, stored, nodes_are, files_are}
use Rattle.file_calls.proofs.Opens.{new_missing, new_full, new_free, no_room, new_unmade, makes_same, makes_one, opens_is}
use Rattle.file_calls.proofs.opening.open_new.Goals as goal

pub returns-then-not-creates-clause-answers : goal.returns-then-not-creates-clause-answers
returns-then-not-creates-clause-answers c = λ a made e. (new_missing a c.args.path.now (rw made.args (sym c.if-not-creates.ensures)), kept_storage a.rest _ e)

pub returns-in_err-make_room-clause-answers : goal.returns-in_err-make_room-clause-answers
returns-in_err-make_room-clause-answers c = λ a made e.
    let same = ap (storage c.args.tree.now) (sym c.in_err-make_room.ensures.same) in
    by_fault a _ _ _ c.in_err-make_room.field-0.0 c.from_residual.ensures.1
    (no_room a _ _ _ c.make_room.new.files.spare c.in_err-make_room.field-0.0 (rw (made.table, files_are a.rest _ _ e) refl) c.in_err-make_room.ensures.free
    (new_full a c.args.path.now (rw made.args (sym c.if-not-creates.ensures))) (kept_storage a.rest _ (e ∙ same)))

pub returns-in_err-node-clause-answers : goal.returns-in_err-node-clause-answers
returns-in_err-node-clause-answers c = λ a made e.
    let same = makes_same (with_file c.args.tree.now c.args.path.now c.new-empty.result.items None) c.args.tree.now c.create.new.self c.in_err-node.field-0.0 c.in_err-node.ensures in
    by_fault a _ _ _ c.in_err-node.field-0.0 c.from_residual-in_err-node.ensures.1
    (new_unmade a c.args.path.now _ c.create.new.self _ c.in_err-node.field-0.0 (rw made.args (sym c.if-not-creates.ensures)) (rw (made.table, files_are a.rest _ _ e) refl) c.in_ok-make_room.ensures.free.0
    (rw (nodes_are a.rest _ _ e, ← c.new-empty.ensures.items) c.in_err-node.ensures)
    (kept_storage a.rest _ (stored a.rest c.create.new.self c.make_room.new.files.open_files (nodes_are a.rest _ _ e ∙ sym same) (files_are a.rest _ _ e ∙ sym c.in_ok-make_room.ensures.same))))

pub returns-clause-answers : goal.returns-clause-answers
returns-clause-answers c = λ a made e.
    let free : free_of a ≡ Some c.open.result = rw (made.table, files_are a.rest _ _ e) (ap (λ files. lowest_free files c.args.call.now.table) (sym c.in_ok-make_room.ensures.same) ∙ c.open.ensures.fd) in
    let made_one = makes_one a (with_file a.rest.tree c.args.path.now [] None) (opens a c.open.result) a.rest.tree c.create.new.self c.in_ok-node.node (rw (nodes_are a.rest _ _ e, ← c.new-empty.ensures.items) c.in_ok-node.ensures) in
    new_free a c.args.path.now c.open.result (rw made.args (sym c.if-not-creates.ensures)) free
    ∙ made_one
    ∙ opens_is a c.open.result c.in_ok-node.node c.create.new.self c.create.new.self c.make_room.new.files.open_files _ (rw (made.table, made.args) c.open.ensures.opened)
    refl (rw (files_are a.rest _ _ e) c.in_ok-make_room.ensures.same)
