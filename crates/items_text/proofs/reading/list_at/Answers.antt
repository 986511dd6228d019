-- One call more.
use Rattle.std.proofs.Common.{◌≡◌, ◌++◌, [], ◌∷◌, map, Some, None, ap, ◌∙◌, arith}
use Rattle.std.proofs.lemmas.List.{map-append}
use Rattle.items_text.specs.Values.{item_value}
use Rattle.items_text.specs.Pieces.{many}
use Rattle.items_text.specs.Reading.{item_at}
use Rattle.items_text.proofs.Found.{found_some, found_none}
use Rattle.items_text.proofs.Many.{with_front, more_read, all_read}
use Rattle.items_text.proofs.CallLines.{item_less}
use Rattle.items_text.proofs.reading.list_at.Goals as goal

pub loop-list-smaller : goal.loop-list-smaller
loop-list-smaller c =
    let read : item_at c.loop-list.rest.now ≡ Some (item_value c.in-Some.item, c.in-Some.more.now) = found_some (λ r. (item_value r.0, r.1.now)) c.in_ok-item.field-0 _ (c.in-Some.item, c.in-Some.more) c.in-Some.is c.in_ok-item.ensures in
    item_less c.loop-list.rest.now c.in-Some.more.now (item_value c.in-Some.item) read

pub loop-list-preserved : goal.loop-list-preserved
loop-list-preserved c =
    let read : item_at c.loop-list.rest.now ≡ Some (item_value c.in-Some.item, c.in-Some.more.now) = found_some (λ r. (item_value r.0, r.1.now)) c.in_ok-item.field-0 _ (c.in-Some.item, c.in-Some.more) c.in-Some.is c.in_ok-item.ensures in
    let less = item_less c.loop-list.rest.now c.in-Some.more.now (item_value c.in-Some.item) read in
    let list = map item_value c.loop-list.list.items in
    let longer : map item_value c.push.new.self.items ≡ list ++ item_value c.in-Some.item ∷ [] = ap (map item_value) c.in_ok-push.ensures.items ∙ map-append item_value c.loop-list.list.items _ in
    record {
      read = ap (λ xs. with_front xs (many item_at c.in-Some.more.now)) longer ∙ more_read item_at item_less list c.loop-list.rest.now c.in-Some.more.now (item_value c.in-Some.item) _ read c.loop-list.invariant.read;
      shorter = omega (arith, less, c.loop-list.invariant.shorter, c.in_ok-push.ensures.len);
    }

pub returns-clause-read : goal.returns-clause-read
returns-clause-read c =
    let none : item_at c.loop-list.rest.now ≡ None = found_none (λ r. (item_value r.0, r.1.now)) c.in_ok-item.field-0 _ c.in_default.is c.in_ok-item.ensures in
    all_read item_at item_less (map item_value c.loop-list.list.items) c.loop-list.rest.now _ none c.loop-list.invariant.read
