-- What an accepted file is converted to can be said in a flat file.
use Rattle.std.proofs.Common.{◌≡◌, ℕ, ◌+◌, ◌≤◌, List, length, None, refl, ap, ◌∙◌, arith}
use Rattle.byte_words.specs.Numbers.{IsBytes}
use Rattle.byte_words.specs.Patches.{painted, bytes_below}
use Rattle.bflt_format.specs.Values.{stored, image_size}
use Rattle.bflt_format.specs.Spelling.{Spells}
use Rattle.byte_words.proofs.Painting.{length-bytes_below}
use Rattle.bflt_format.proofs.Links.{AreWords, HasRecords, has_records}
use Rattle.bflt_format.proofs.Links as links
use Rattle.bflt_format.proofs.Rising.{has}
use Rattle.flat_layout.specs.Layout.{layout, size_of, stored_end}
use Rattle.flat_layout.proofs.Facts.{clear_numbers}
use Rattle.flat_layout.proofs.Numbers.{has_entry}
use Rattle.elf2flt_tool.specs.Image.{bare}
use Rattle.elf2flt_tool.specs.Word.{records}
use Rattle.elf2flt_tool.specs.Fault.{fault}
use Rattle.elf2flt_tool.specs.Converted.{body_of, converted}
use Rattle.elf2flt_tool.proofs.Laid.{is_laid}
use Rattle.elf2flt_tool.proofs.Recorded.{IsClear, is_clear, is_linked}
use Rattle.elf2flt_tool.proofs.Listed.{target_at, places_of, numbers_are, are_words, target_within}
use Rattle.elf2flt_tool.proofs.Ascending.{records_rise, records_has}

-- the sizes, the body and the records, by the places of the words
pub stored_is : (e : List ℕ) (stack : ℕ) → IsBytes e → IsClear e → stored (converted e stack) ≡ stored_end e
unfolding converted
stored_is e stack bytes clear = (is_laid e (clear_numbers e clear.laid)).stored

pub size_is : (e : List ℕ) (stack : ℕ) → image_size (converted e stack) ≡ size_of (layout e)
unfolding converted
size_is e stack = refl

pub body_is : (e : List ℕ) (stack : ℕ) → IsBytes e → IsClear e
    → (converted e stack).body ≡ links.body_of (target_at e) (places_of e) (bare e) (stored (converted e stack))
unfolding converted body_of
body_is e stack bytes clear = ap (λ ps. bytes_below ((layout e).text + (layout e).data_len) (painted ps (bare e))) (numbers_are e bytes (is_linked e clear))

pub records_are : (e : List ℕ) (stack : ℕ) → (converted e stack).records ≡ records e
unfolding converted
records_are e stack = refl

pub records_of_are : (e : List ℕ) (stack : ℕ) → IsBytes e → IsClear e → (x : ℕ) → has (converted e stack).records x ≡ has (places_of e) x
records_of_are e stack bytes clear x = ap (λ rs. has rs x) (records_are e stack) ∙ records_has e bytes (is_linked e clear) x

pub words_of_flat : (e : List ℕ) (stack : ℕ) → IsBytes e → IsClear e → AreWords (target_at e) (places_of e) (stored (converted e stack))
words_of_flat e stack bytes clear = rw (stored_is e stack bytes clear) (are_words e bytes clear)

records_of_flat : (e : List ℕ) (stack : ℕ) → IsBytes e → IsClear e → HasRecords (converted e stack)
records_of_flat e stack bytes clear =
    let laid = is_laid e (clear_numbers e clear.laid) in
    let end = stored_is e stack bytes clear in
    has_records (target_at e) (places_of e) (bare e) (converted e stack) (words_of_flat e stack bytes clear)
    (rw (size_is e stack) (target_within e bytes clear)) (omega (arith, end, laid.fits, laid.small)) (body_is e stack bytes clear) (rw (records_are e stack) (records_rise e)) (records_of_are e stack bytes clear)

body_length : (e : List ℕ) → length (body_of e) ≡ (layout e).text + (layout e).data_len
unfolding body_of
body_length e = length-bytes_below _ _

pub spells_clear : (e : List ℕ) (stack : ℕ) → IsBytes e → IsClear e → stack ≤ 1048576 → Spells (converted e stack)
unfolding converted
spells_clear e stack bytes clear limit =
    let laid = is_laid e (clear_numbers e clear.laid) in
    let records = records_of_flat e stack bytes clear in
    let end = laid.stored in
    let program = has_entry e clear.laid in
    let aligned = program.aligned in
    let within = program.inside in
    record {
      body = body_length e;
      size = laid.small;
      text = laid.text;
      entry_aligned = omega arith;
      entry_from = omega arith;
      entry_to = omega arith;
      stack = omega arith;
      flags = refl;
      count = records.count;
      inside = records.inside;
      apart = records.apart;
      targets = records.targets;
    }

pub spells_converted : (e : List ℕ) (stack : ℕ) → IsBytes e → fault e ≡ None → stack ≤ 1048576 → Spells (converted e stack)
spells_converted e stack bytes none limit = spells_clear e stack bytes (is_clear e none) limit
