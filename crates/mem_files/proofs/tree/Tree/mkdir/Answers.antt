-- The path leads to nothing yet, so that the node is made in its folder.
use Rattle.std.proofs.Common.{◌≡◌, [], None, Err, refl, sym, ap, subst, ◌∙◌, rules}
use Rattle.mem_files.specs.declared.fault.FileFault.TheVariants.{Errno}
use Rattle.mem_files.specs.Inodes.{folder}
use Rattle.mem_files.specs.Paths.{place_of}
use Rattle.mem_files.specs.Walks.{place_value, place_answer}
use Rattle.mem_files.specs.Calls.{Makes}
use Rattle.mem_files.specs.Changes.{with_folder, made_in}
use Rattle.mem_files.proofs.Places.{vacant, place_stands, made_vacant, made_refused}
use Rattle.mem_files.proofs.tree.Tree.mkdir.Goals as goal

pub returns-in_err-place : goal.returns-in_err-place
unfolding with_folder
returns-in_err-place c =
    let ns = c.args.self.now in
    let err : c.from_residual.result ≡ Err (Errno c.in_err-place.field-0.0) = search rules in
    let refused = ap place_answer (sym c.in_err-place.was) ∙ c.vacant_place.ensures in
    subst (λ r. Makes r ns ns c.from_residual.result) (made_refused (λ parent. folder parent []) None ns (place_of ns c.args.path.now) c.in_err-place.field-0.0 refused)
    (subst (λ r. Makes (Err c.in_err-place.field-0.0) ns ns r) (sym err) (refl, refl))

pub make-requires-clause-folder : goal.make-requires-clause-folder
make-requires-clause-folder c =
    let v = vacant (place_of c.args.self.now c.args.path.now) (place_value c.in_ok-place.place) (ap place_answer (sym c.in_ok-place.was) ∙ c.vacant_place.ensures) in
    (place_stands c.args.self.now c.args.path.now (place_value c.in_ok-place.place) v.0 v.1).0

pub make-requires-clause-absent : goal.make-requires-clause-absent
make-requires-clause-absent c =
    let v = vacant (place_of c.args.self.now c.args.path.now) (place_value c.in_ok-place.place) (ap place_answer (sym c.in_ok-place.was) ∙ c.vacant_place.ensures) in
    (place_stands c.args.self.now c.args.path.now (place_value c.in_ok-place.place) v.0 v.1).1

pub returns : goal.returns
unfolding with_folder
returns c =
    let ns = c.args.self.now in
    let ok = ap place_answer (sym c.in_ok-place.was) ∙ c.vacant_place.ensures in
    subst (λ r. Makes r ns c.make.new.self c.make.result) (made_vacant (λ parent. folder parent []) None ns (place_of ns c.args.path.now) (place_value c.in_ok-place.place) ok)
    (subst (λ es. Makes (made_in ns (place_value c.in_ok-place.place) (folder c.in_ok-place.place.folder es) None) ns c.make.new.self c.make.result) c.new.ensures c.make.ensures)
