use Rattle.std.proofs.Common.{length, ◌∙◌, ap, arith}
use Rattle.std.proofs.lemmas.Result.{err_from_is_err_and}
use Rattle.flat_layout.proofs.Facts.{clear_numbers, size_le}
use Rattle.elf2flt_tool.specs.Cover.{counted}
use Rattle.elf2flt_tool.proofs.Walked.{all_found}
use Rattle.elf2flt_tool.proofs.Ascending.{counted_records}
use Rattle.elf2flt_tool.proofs.conversion.find_places.Goals as goal

pub returns-in_err-cover : goal.returns-in_err-cover
returns-in_err-cover c =
    let p = err_from_is_err_and c.from_residual-in_err-cover.result c.from_residual-in_err-cover.ensures.1 in
    rw (p.1, p.2) (rw c.in_ok-walk.ensures at c.in_err-cover.ensures)

pub of-requires-clause-numbers : goal.of-requires-clause-numbers
of-requires-clause-numbers c = clear_numbers c.args.elf.now c.requires.no_fault

pub places_of-requires : goal.places_of-requires
places_of-requires c =
    let e = c.args.elf.now in
    let found = rw c.in_ok-walk.ensures at c.in_ok-cover.ensures in
    let whole = all_found e c.in_ok-cover.cover found.1 in
    let small = size_le e (clear_numbers e c.requires.no_fault) in
    let len = ap length c.deref.ensures.value in
    omega (arith, whole.room.words, whole.len)

pub lowest_overlap-requires-clause-places : goal.lowest_overlap-requires-clause-places
lowest_overlap-requires-clause-places c = c.deref-2.ensures.value ∙ c.in_ok-places.ensures ∙ ap counted c.deref.ensures.value

pub returns : goal.returns
returns c =
    let e = c.args.elf.now in
    let found = rw c.in_ok-walk.ensures at c.in_ok-cover.ensures in
    let whole = all_found e c.in_ok-cover.cover found.1 in
    record {
      relocs = found.0;
      places = counted_records e c.in_ok-cover.cover _ _ whole c.deref.ensures.value c.in_ok-places.ensures;
      met = rw c.in_ok-walk.ensures at c.in_ok-met.ensures;
    }
