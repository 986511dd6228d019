-- One string more.
use Rattle.std.proofs.Common.{◌≡◌, ◌++◌, [], ◌∷◌, Some, None, ap, ◌∙◌, arith}
use Rattle.call_log.specs.Programs.{paths_of as texts_of}
use Rattle.std.proofs.lemmas.List.{map-append}
use Rattle.items_text.specs.Pieces.{many}
use Rattle.items_text.specs.Reading.{string_at}
use Rattle.items_text.proofs.Found.{found_some, found_none}
use Rattle.items_text.proofs.Many.{with_front, more_read, all_read}
use Rattle.items_text.proofs.Strings.{string_less}
use Rattle.items_text.proofs.reading.strings_at.Goals as goal

pub loop-strings-smaller : goal.loop-strings-smaller
loop-strings-smaller c =
    let read : string_at c.args.front.now c.loop-strings.rest.now ≡ Some (c.in-Some.string.items, c.in-Some.more.now) = found_some (λ r. (r.0.items, r.1.now)) c.in_ok-string.field-0 _ (c.in-Some.string, c.in-Some.more) c.in-Some.is c.in_ok-string.ensures in
    string_less c.args.front.now c.loop-strings.rest.now c.in-Some.more.now c.in-Some.string.items read

pub loop-strings-preserved : goal.loop-strings-preserved
loop-strings-preserved c =
    let read : string_at c.args.front.now c.loop-strings.rest.now ≡ Some (c.in-Some.string.items, c.in-Some.more.now) = found_some (λ r. (r.0.items, r.1.now)) c.in_ok-string.field-0 _ (c.in-Some.string, c.in-Some.more) c.in-Some.is c.in_ok-string.ensures in
    let less = string_less c.args.front.now c.loop-strings.rest.now c.in-Some.more.now c.in-Some.string.items read in
    let strings = texts_of c.loop-strings.strings.items in
    let longer : texts_of c.push.new.self.items ≡ strings ++ c.in-Some.string.items ∷ [] = ap texts_of c.in_ok-push.ensures.items ∙ map-append (λ v. v.items) c.loop-strings.strings.items _ in
    record {
      read = ap (λ xs. with_front xs (many (string_at c.args.front.now) c.in-Some.more.now)) longer ∙ more_read (string_at c.args.front.now) (string_less c.args.front.now) strings c.loop-strings.rest.now c.in-Some.more.now c.in-Some.string.items _ read c.loop-strings.invariant.read;
      shorter = omega (arith, less, c.loop-strings.invariant.shorter, c.in_ok-push.ensures.len);
    }

pub returns-clause-read : goal.returns-clause-read
returns-clause-read c =
    let none : string_at c.args.front.now c.loop-strings.rest.now ≡ None = found_none (λ r. (r.0.items, r.1.now)) c.in_ok-string.field-0 _ c.in_default.is c.in_ok-string.ensures in
    all_read (string_at c.args.front.now) (string_less c.args.front.now) (texts_of c.loop-strings.strings.items) c.loop-strings.rest.now _ none c.loop-strings.invariant.read
