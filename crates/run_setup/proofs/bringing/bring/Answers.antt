-- One line after the other.
use Rattle.std.proofs.Common.{◌≡◌, ◌+◌, length, length-append, map, rules, [], ◌∷◌, ◌++◌, ap, subst, ◌∙◌, arith}
use Rattle.std.proofs.lemmas.List.{length-map}
use Rattle.manifest_text.specs.Values.{item_value, vec_texts}
use Rattle.manifest_text.specs.Laws.{IsItem}
use Rattle.run_setup.specs.Brought.{nothing_brought}
use Rattle.run_setup.specs.Making.{BroughtSoFar, brought_value}
use Rattle.run_setup.proofs.Opened.{opened, each_at}
use Rattle.run_setup.proofs.Pairs.{pairs, pair_at, none_left}
use Rattle.run_setup.proofs.AllLines.{begins, brings_more, stops_at, brings_all}
use Rattle.run_setup.proofs.Unchanged.{opening_unchanged, lines_unchanged, lines_tree, lines_closed, lines_written}
use Rattle.run_setup.proofs.bringing.bring.Goals as goal

pub loop-item-init : goal.loop-item-init
loop-item-init c = begins _ _ c.in-Ok.run' c.in-Ok.ensures.brought c.in-Ok.ensures.paths c.in-Ok.ensures.few

pub add-requires-clause-item : goal.add-requires-clause-item
add-requires-clause-item c =
    let from = c.into_iter-item-iterator.ensures.into_iter_gives in
    let all = pairs c.into_iter-item-iterator.result c.zip-item-items.result from c.args.items.now c.args.files.items (ap (λ s. s.rest.now) c.zip-item-items.ensures.first ∙ c.iter.ensures.rest)
    c.zip-item-items.ensures.second.0 (c.zip-item-items.ensures.second.1 ∙ search rules) in
    let at = pair_at c.args.items.now c.args.files.items all c.loop-item.yielded c.loop-item.item-iterator c.loop-item.yielded_by c.next.result c.next.new.self c.in-Some.item c.in-Some.file c.in-Some.is c.next.ensures.steps in
    each_at IsItem item_value _ _ _ at.first_below at.first c.requires.items

pub returns-in-Err-add-clause-brought : goal.returns-in-Err-add-clause-brought
returns-in-Err-add-clause-brought c =
    let from = c.into_iter-item-iterator.ensures.into_iter_gives in
    let all = pairs c.into_iter-item-iterator.result c.zip-item-items.result from c.args.items.now c.args.files.items (ap (λ s. s.rest.now) c.zip-item-items.ensures.first ∙ c.iter.ensures.rest)
    c.zip-item-items.ensures.second.0 (c.zip-item-items.ensures.second.1 ∙ search rules) in
    let at = pair_at c.args.items.now c.args.files.items all c.loop-item.yielded c.loop-item.item-iterator c.loop-item.yielded_by c.next.result c.next.new.self c.in-Some.item c.in-Some.file c.in-Some.is c.next.ensures.steps in
    rw c.refusal_at.ensures
    (stops_at (map item_value c.args.items.now) (vec_texts c.args.files.items) c.loop-item.run (length c.loop-item.yielded) c.loop-item.invariant (item_value c.in-Some.item.now) c.in-Some.file.items
    (opened item_value _ _ _ at.first_below at.first) (opened (λ v. v.items) _ _ _ at.second_below at.second) c.in-Err-add.fault c.in-Err-add.ensures)

pub loop-item-preserved : goal.loop-item-preserved
loop-item-preserved c =
    let from = c.into_iter-item-iterator.ensures.into_iter_gives in
    let all = pairs c.into_iter-item-iterator.result c.zip-item-items.result from c.args.items.now c.args.files.items (ap (λ s. s.rest.now) c.zip-item-items.ensures.first ∙ c.iter.ensures.rest)
    c.zip-item-items.ensures.second.0 (c.zip-item-items.ensures.second.1 ∙ search rules) in
    let at = pair_at c.args.items.now c.args.files.items all c.loop-item.yielded c.loop-item.item-iterator c.loop-item.yielded_by c.next.result c.next.new.self c.in-Some.item c.in-Some.file c.in-Some.is c.next.ensures.steps in
    let one_more : length c.loop-item.yielded + 1 ≡ length (c.loop-item.yielded ++ (c.in-Some.item, c.in-Some.file) ∷ []) =
    omega (arith, length-append c.loop-item.yielded ((c.in-Some.item, c.in-Some.file) ∷ [])) in
    subst (BroughtSoFar (map item_value c.args.items.now) (vec_texts c.args.files.items) c.add.new.self) one_more
    (brings_more (map item_value c.args.items.now) (vec_texts c.args.files.items) c.loop-item.run (length c.loop-item.yielded) c.loop-item.invariant (item_value c.in-Some.item.now) c.in-Some.file.items
    (opened item_value _ _ _ at.first_below at.first) (opened (λ v. v.items) _ _ _ at.second_below at.second) c.add.new.self c.in_default.ensures)

pub returns-clause-brought : goal.returns-clause-brought
returns-clause-brought c =
    let from = c.into_iter-item-iterator.ensures.into_iter_gives in
    let all = pairs c.into_iter-item-iterator.result c.zip-item-items.result from c.args.items.now c.args.files.items (ap (λ s. s.rest.now) c.zip-item-items.ensures.first ∙ c.iter.ensures.rest)
    c.zip-item-items.ensures.second.0 (c.zip-item-items.ensures.second.1 ∙ search rules) in
    let past = none_left c.args.items.now c.args.files.items all c.loop-item.yielded c.loop-item.item-iterator c.loop-item.yielded_by c.next.result c.next.new.self c.in-None.is c.next.ensures.steps c.requires.files in
    brings_all (map item_value c.args.items.now) (vec_texts c.args.files.items) c.loop-item.run (length c.loop-item.yielded) c.loop-item.invariant (rw (length-map c.args.items.now item_value) past)

pub returns-clause-begins : goal.returns-clause-begins
returns-clause-begins c =
    let items = map item_value c.args.items.now in
    let files = vec_texts c.args.files.items in
    let run = brought_value c.loop-item.run in
    let all = returns-clause-brought c in
    record {
      paths = c.loop-item.invariant.paths;
      count = c.loop-item.invariant.count;
      unchanged = lines_unchanged 0 items files nothing_brought run opening_unchanged all;
      tree = lines_tree items files run all;
      closed = lines_closed items files run all;
    }

pub returns-clause-names : goal.returns-clause-names
returns-clause-names c paths = lines_written (map item_value c.args.items.now) paths (vec_texts c.args.files.items) (brought_value c.loop-item.run) (returns-clause-brought c)
