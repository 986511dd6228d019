-- One range more.
use Rattle.std.proofs.Common.{◌≡◌, ◌++◌, [], ◌∷◌, map, Some, None, ap, ◌∙◌}
use Rattle.std.proofs.lemmas.List.{map-append}
use Rattle.call_log.specs.Values.{got_value}
use Rattle.items_text.specs.Pieces.{many}
use Rattle.items_text.specs.Reading.{range_at}
use Rattle.items_text.proofs.Found.{found_some, found_none}
use Rattle.items_text.proofs.Many.{with_front, more_read, all_read}
use Rattle.items_text.proofs.Ranges.{range_less}
use Rattle.items_text.proofs.calls.each_range.Goals as goal

pub loop-ranges-smaller : goal.loop-ranges-smaller
loop-ranges-smaller c =
    let read : range_at c.loop-ranges.rest.now ≡ Some (got_value c.in-Some.range, c.in-Some.more.now) = found_some (λ r. (got_value r.0, r.1.now)) c.in_ok-range.field-0 _ (c.in-Some.range, c.in-Some.more) c.in-Some.is c.in_ok-range.ensures in
    range_less c.loop-ranges.rest.now c.in-Some.more.now (got_value c.in-Some.range) read

pub loop-ranges-preserved : goal.loop-ranges-preserved
loop-ranges-preserved c =
    let read : range_at c.loop-ranges.rest.now ≡ Some (got_value c.in-Some.range, c.in-Some.more.now) = found_some (λ r. (got_value r.0, r.1.now)) c.in_ok-range.field-0 _ (c.in-Some.range, c.in-Some.more) c.in-Some.is c.in_ok-range.ensures in
    let ranges = map got_value c.loop-ranges.ranges.items in
    let longer : map got_value c.push.new.self.items ≡ ranges ++ got_value c.in-Some.range ∷ [] = ap (map got_value) c.in_ok-push.ensures.items ∙ map-append got_value c.loop-ranges.ranges.items _ in
    ap (λ xs. with_front xs (many range_at c.in-Some.more.now)) longer ∙ more_read range_at range_less ranges c.loop-ranges.rest.now c.in-Some.more.now (got_value c.in-Some.range) _ read c.loop-ranges.invariant

pub returns : goal.returns
returns c =
    let none : range_at c.loop-ranges.rest.now ≡ None = found_none (λ r. (got_value r.0, r.1.now)) c.in_ok-range.field-0 _ c.in_default.is c.in_ok-range.ensures in
    all_read range_at range_less (map got_value c.loop-ranges.ranges.items) c.loop-ranges.rest.now _ none c.loop-ranges.invariant
