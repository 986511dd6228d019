-- A name more is a step more of the walk.
use Rattle.std.proofs.Common.{◌≡◌, Err, sym, ap, ◌∙◌, refl, rules}
use Rattle.mem_files.specs.Paths.{names, then_walked, walked, place_of}
use Rattle.mem_files.specs.Walks.{place_value, place_answer}
use Rattle.mem_files.proofs.Walking.{too_long, empty, walk, step, done}
use Rattle.mem_files.proofs.tree.Tree.place.Goals as goal

pub returns-then-is_too_long : goal.returns-then-is_too_long
returns-then-is_too_long c = too_long _ _ (sym c.is_too_long.ensures ∙ c.if-is_too_long.true)

pub returns-then-is_empty : goal.returns-then-is_empty
returns-then-is_empty c = empty _ _ (sym c.is_too_long.ensures ∙ c.if-is_too_long.false) (sym c.is_empty.ensures ∙ c.if-is_empty.true)

pub loop-name-init : goal.loop-name-init
loop-name-init c = refl

pub returns-in_err-place : goal.returns-in_err-place
returns-in_err-place c =
    let next = step c.args.self.now (place_value c.loop-name.place) (place_answer c.next_place.result) c.loop-name.rest.now c.in-Some.name.now c.in-Some.more.now c.in-Some.ensures.0 c.next_place.ensures in
    let err : Err c.in_err-place.field-0.0 ≡ place_of c.args.self.now c.args.path.now =
    ap (λ r. then_walked (place_answer r) (walked c.args.self.now (names c.in-Some.more.now))) (sym c.in_err-place.was)
    ∙ sym next
    ∙ c.loop-name.invariant
    ∙ walk c.args.self.now c.args.path.now (sym c.is_too_long.ensures ∙ c.if-is_too_long.false) (sym c.is_empty.ensures ∙ c.if-is_empty.false) in
    search (rules, err)

pub loop-name-preserved : goal.loop-name-preserved
loop-name-preserved c =
    ap (λ r. then_walked (place_answer r) (walked c.args.self.now (names c.in-Some.more.now))) (sym c.in_ok-place.was)
    ∙ sym (step c.args.self.now (place_value c.loop-name.place) (place_answer c.next_place.result) c.loop-name.rest.now c.in-Some.name.now c.in-Some.more.now c.in-Some.ensures.0 c.next_place.ensures)
    ∙ c.loop-name.invariant

pub returns : goal.returns
returns c =
    sym (done c.args.self.now (place_value c.loop-name.place) c.loop-name.rest.now c.in_default.ensures)
    ∙ c.loop-name.invariant
    ∙ walk c.args.self.now c.args.path.now (sym c.is_too_long.ensures ∙ c.if-is_too_long.false) (sym c.is_empty.ensures ∙ c.if-is_empty.false)
