-- The refusals one after the other, and then the name goes.
use Rattle.std.proofs.Common.{◌≡◌, true, false, Ok, Err, refl, sym, ap, subst, ◌∙◌, rules}
use Rattle.call_log.specs.declared.errno.Errno.TheVariants.{Enoent, Einval}
use Rattle.mem_files.specs.Inodes.{kind_of, size_of}
use Rattle.mem_files.specs.Paths.{place_of}
use Rattle.mem_files.specs.Walks.{place_value, place_answer}
use Rattle.mem_files.specs.Calls.{ChangesTree}
use Rattle.mem_files.specs.Changes.{unlinked, unnamed, naming_fault, may_be_entry}
use Rattle.mem_files.proofs.Places.{gone_refused, gone_invalid, gone_missing, gone_as, goes, goes_as}
use Rattle.mem_files.proofs.tree.Tree.unlink.Goals as goal

pub returns-in_err-place : goal.returns-in_err-place
unfolding unlinked
returns-in_err-place c =
    let ns = c.args.self.now in
    let err : c.from_residual.result ≡ Err c.in_err-place.field-0.0 = search rules in
    let refused = sym c.place.ensures ∙ ap place_answer c.in_err-place.was in
    subst (λ r. ChangesTree r ns ns c.from_residual.result) (gone_refused c.args.dir ns (place_of ns c.args.path.now) c.in_err-place.field-0.0 refused)
    (subst (λ r. ChangesTree (Err c.in_err-place.field-0.0) ns ns r) (sym err) (refl, refl))

pub returns-then-not-may_be_entry : goal.returns-then-not-may_be_entry
unfolding unlinked
returns-then-not-may_be_entry c =
    let ns = c.args.self.now in
    let ok = sym c.place.ensures ∙ ap place_answer c.in_ok-place.was in
    let bad : may_be_entry c.in_ok-place.place.name.now ≡ false = sym c.may_be_entry.ensures ∙ c.if-not-may_be_entry.true in
    subst (λ r. ChangesTree r ns ns (Err Einval)) (gone_invalid c.args.dir ns (place_of ns c.args.path.now) (place_value c.in_ok-place.place) ok bad) (refl, refl)

pub returns-in_default : goal.returns-in_default
unfolding unlinked
returns-in_default c =
    let ns = c.args.self.now in
    let ok = sym c.place.ensures ∙ ap place_answer c.in_ok-place.was in
    let good : may_be_entry c.in_ok-place.place.name.now ≡ true = sym c.may_be_entry.ensures ∙ c.if-not-may_be_entry.false in
    subst (λ r. ChangesTree r ns ns (Err Enoent)) (gone_missing c.args.dir ns (place_of ns c.args.path.now) (place_value c.in_ok-place.place) ok good c.in_default.is) (refl, refl)

pub returns-in_err-may_go : goal.returns-in_err-may_go
unfolding unlinked
returns-in_err-may_go c =
    let ns = c.args.self.now in
    let p = place_value c.in_ok-place.place in
    let err : c.from_residual-in_err-may_go.result ≡ Err c.in_err-may_go.field-0.0 = search rules in
    let ok = sym c.place.ensures ∙ ap place_answer c.in_ok-place.was in
    let good : may_be_entry c.in_ok-place.place.name.now ≡ true = sym c.may_be_entry.ensures ∙ c.if-not-may_be_entry.false in
    let so = ap (λ r. goes_as r (unnamed ns p c.in-Some.id)) (sym c.in_err-may_go.was) ∙ goes (naming_fault c.args.dir (kind_of ns c.in-Some.id) (size_of ns c.in-Some.id)) (unnamed ns p c.in-Some.id) c.may_go.result c.may_go.ensures ∙ gone_as c.args.dir ns (place_of ns c.args.path.now) p c.in-Some.id ok good c.in-Some.is in
    subst (λ r. ChangesTree r ns ns c.from_residual-in_err-may_go.result) so
    (subst (λ r. ChangesTree (Err c.in_err-may_go.field-0.0) ns ns r) (sym err) (refl, refl))

pub returns : goal.returns
unfolding unlinked
returns c =
    let ns = c.args.self.now in
    let p = place_value c.in_ok-place.place in
    let ok = sym c.place.ensures ∙ ap place_answer c.in_ok-place.was in
    let good : may_be_entry c.in_ok-place.place.name.now ≡ true = sym c.may_be_entry.ensures ∙ c.if-not-may_be_entry.false in
    let so = ap (λ r. goes_as r (unnamed ns p c.in-Some.id)) (sym c.in_ok-may_go.was) ∙ goes (naming_fault c.args.dir (kind_of ns c.in-Some.id) (size_of ns c.in-Some.id)) (unnamed ns p c.in-Some.id) c.may_go.result c.may_go.ensures ∙ gone_as c.args.dir ns (place_of ns c.args.path.now) p c.in-Some.id ok good c.in-Some.is in
    subst (λ r. ChangesTree r ns c.take_name.new.self (Ok tt)) so c.take_name.ensures
