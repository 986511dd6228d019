-- The text of values says these values, and has no fault; and what bytes without a fault say has a text.
use Rattle.std.proofs.Common.{◌≡◌, ℕ, ◌+◌, ◌-◌, ◌*◌, ◌%◌, ◌^◌, ◌<◌, ◌≤◌, true, false, not, ◌&&◌, ◌||◌, ◌==◌, ltb, leb, List, [], ◌++◌, length, map, take, drop, get_or, Option, Some, None, refl, sym, ap, subst, ◌∙◌, append_assoc, arith, inl, inr}
use Rattle.std.specs.List.{range_with_len}
use Rattle.std.proofs.lemmas.Bool.{le-ltb, le-leb, eq-eqb, ltb-false, and_from, or_from, not_from_true, and_right, or_cases, eqb-true}
use Rattle.std.proofs.lemmas.List.{append-nil, length-append, length-take, length-drop, take_at, drop_at, drop-take}
use Rattle.std.proofs.lemmas.List.FromFn.{fill_by_all, length-map-range_with_len}
use Rattle.bflt_format.specs.declared.fault.FlatFault.{FlatFault}
use Rattle.byte_words.specs.Numbers.{IsBytes}
use Rattle.bflt_format.specs.Numbers.{big_at}
use Rattle.bflt_format.specs.Values.{Values, stored, image_size, ram_values}
use Rattle.bflt_format.specs.Header.{magic, revision, entry, data_start, data_end, bss_end, stack_size, reloc_start, reloc_count, flags, record_at, flat_values}
use Rattle.bflt_format.specs.Flat.{behind_header}
use Rattle.bflt_format.specs.Fault.{is_known, is_in_order, is_out_of_bounds, is_entry, is_table_bad, header_rows, header_fault, is_near, passes_data, meets_earlier, targets_past, record_rows, record_fault, values_fault, flat_fault, or_else, IsHeader}
use Rattle.bflt_format.specs.Spelling.{words_text, header_words, spell, Spells}
use Rattle.byte_words.proofs.Searches.{none_below, any_below_none}
use Rattle.bflt_format.proofs.Headers.{AreClear, rows_clear, first_of_clear, is_header}
use Rattle.bflt_format.proofs.BigWords.{big_at_fits, big_at_behind, length-words_text, word_of_text}

-- ---- from the text to the values

header_word : (f : Values) (k : ℕ) → k < 16 → get_or (header_words f) k 0 < 2 ^ 32 → big_at (spell f) (4 * k) ≡ get_or (header_words f) k 0
unfolding spell
header_word f k lt fits = omega (arith, word_of_text (header_words f) (f.body ++ words_text f.records) k lt, fits)

count_fits : (f : Values) → reloc_count (spell f) < 2 ^ 32
unfolding spell
count_fits f = omega (arith, word_of_text (header_words f) (f.body ++ words_text f.records) 8 (omega arith))

length_spell : (f : Values) → length (spell f) ≡ 64 + length f.body + 4 * length f.records
unfolding spell
length_spell f =
    omega (arith, length-append (words_text (header_words f)) (f.body ++ words_text f.records), length-words_text (header_words f), length-append f.body (words_text f.records), length-words_text f.records)

body_back : (f : Values) → length f.body ≡ stored f → take (64 + stored f - 64) (drop 64 (spell f)) ≡ f.body
unfolding spell
body_back f len =
    let prefix : length (words_text (header_words f)) ≡ 64 = length-words_text (header_words f) in
    rw (drop_at (words_text (header_words f)) (f.body ++ words_text f.records) 64 prefix) (take_at f.body (words_text f.records) (64 + stored f - 64) (omega (arith, len)))

fits_below : (f : Values) → Spells f → (k : ℕ) → k < length f.records → get_or f.records k 0 < 2 ^ 32
fits_below f s k lt = omega (arith, s.inside k lt, s.size)

record_back : (f : Values) → Spells f → (k : ℕ) → k < length f.records → big_at (spell f) (64 + stored f + 4 * k) ≡ get_or f.records k 0
unfolding spell
record_back f s k lt =
    let prefix = words_text (header_words f) ++ f.body in
    let len : length prefix ≡ 64 + stored f = omega (arith, length-append (words_text (header_words f)) f.body, length-words_text (header_words f), s.body) in
    ap (λ y. big_at y (64 + stored f + 4 * k)) (sym (append_assoc (words_text (header_words f)) f.body (words_text f.records)))
    ∙ ap (λ n. big_at (prefix ++ words_text f.records) (n + 4 * k)) (sym len)
    ∙ big_at_behind prefix (words_text f.records) (4 * k)
    ∙ ap (λ y. big_at y (4 * k)) (sym (append-nil (words_text f.records)))
    ∙ (let word = word_of_text f.records [] k lt in let is : big_at (words_text f.records ++ []) (4 * k) ≡ get_or f.records k 0 = omega (arith, word, fits_below f s k lt) in is)

-- the header's words, read
pub record HasWords (f : Values) : Type 0 where
  pub magic : magic (spell f) ≡ 0x62464c54
  pub revision : revision (spell f) ≡ 4
  pub entry : entry (spell f) ≡ f.entry
  pub data_start : data_start (spell f) ≡ 64 + f.text
  pub data_end : data_end (spell f) ≡ 64 + stored f
  pub bss_end : bss_end (spell f) ≡ 64 + image_size f
  pub stack : stack_size (spell f) ≡ f.stack
  pub reloc_start : reloc_start (spell f) ≡ 64 + stored f
  pub reloc_count : reloc_count (spell f) ≡ length f.records
  pub flags : flags (spell f) ≡ f.flags

known_fits : (n : ℕ) → is_known n ≡ true → n < 2 ^ 32
known_fits n known = elim (or_cases (n == 1) (n == 17) known) [
  | inl ram ↦ omega (arith, eqb-true n 1 ram)
  | inr ktrace ↦ omega (arith, eqb-true n 17 ktrace)
]

pub has_words : (f : Values) → Spells f → HasWords f
has_words f s = record {
  magic = header_word f 0 (omega arith) (omega arith);
  revision = header_word f 1 (omega arith) (omega arith);
  entry = header_word f 2 (omega arith) (omega (arith, s.entry_to, s.size));
  data_start = header_word f 3 (omega arith) (omega (arith, s.size));
  data_end = header_word f 4 (omega arith) (omega (arith, s.size));
  bss_end = header_word f 5 (omega arith) (omega (arith, s.size));
  stack = header_word f 6 (omega arith) (omega (arith, s.stack));
  reloc_start = header_word f 7 (omega arith) (omega (arith, s.size));
  reloc_count = header_word f 8 (omega arith) s.count;
  flags = header_word f 9 (omega arith) (known_fits f.flags s.flags);
}

same_values : (f g : Values) → f.entry ≡ g.entry → f.text ≡ g.text → f.data_len ≡ g.data_len → f.bss ≡ g.bss → f.stack ≡ g.stack → f.flags ≡ g.flags → f.body ≡ g.body → f.records ≡ g.records → f ≡ g
same_values f g e t d b s l y r = λ i. record { entry = e i; text = t i; data_len = d i; bss = b i; stack = s i; flags = l i; body = y i; records = r i }

pub values_back : (f : Values) → Spells f → flat_values (spell f) ≡ f
unfolding flat_values
values_back f s =
    let w = has_words f s in
    let table : map (record_at (spell f)) (range_with_len 0 (length f.records)) ≡ f.records =
    sym (fill_by_all (record_at (spell f)) f.records (length f.records) 0 refl (λ k lt. sym (rw w.reloc_start (record_back f s k lt)))) in
    same_values (flat_values (spell f)) f
    w.entry
    (omega (arith, w.data_start))
    (omega (arith, w.data_start, w.data_end))
    (omega (arith, w.data_end, w.bss_end))
    w.stack
    w.flags
    (rw w.data_end (body_back f s.body))
    (rw w.reloc_count table)

-- ---- the text has no fault

header_clear : (f : Values) → Spells f → header_fault (spell f) ≡ None
unfolding header_fault is_out_of_bounds is_entry is_table_bad
header_clear f s =
    let w = has_words f s in
    let len = length_spell f in
    let aligned : data_start (spell f) % 32 ≡ 0 = omega (arith, w.data_start, s.text) in
    let end : reloc_start (spell f) + 4 * reloc_count (spell f) ≤ length (spell f) = omega (arith, len, w.reloc_start, w.reloc_count, s.body) in
    let start : data_end (spell f) ≤ reloc_start (spell f) = omega (arith, w.reloc_start, w.data_end) in
    let text : 64 ≤ data_start (spell f) = omega (arith, w.data_start) in
    let more : data_start (spell f) ≤ data_end (spell f) = omega (arith, w.data_start, w.data_end) in
    let bss : data_end (spell f) ≤ bss_end (spell f) = omega (arith, w.data_end, w.bss_end) in
    let fits : data_end (spell f) ≤ length (spell f) = omega (arith, len, w.data_end, s.body) in
    let size : bss_end (spell f) - 64 ≤ 16777216 = omega (arith, w.bss_end, s.size) in
    let entry_to : entry (spell f) + 4 ≤ data_end (spell f) = omega (arith, w.entry, w.data_end, s.entry_to) in
    let order : is_in_order (spell f) ≡ true =
    and_from (leb 64 (data_start (spell f)) && leb (data_start (spell f)) (data_end (spell f))) (leb (data_end (spell f)) (bss_end (spell f)))
    (and_from (leb 64 (data_start (spell f))) (leb (data_start (spell f)) (data_end (spell f))) (le-leb _ _ text) (le-leb _ _ more)) (le-leb _ _ bss) in
    let bounds : is_out_of_bounds (spell f) ≡ false =
    or_from (not (is_in_order (spell f)) || ltb (length (spell f)) (data_end (spell f))) (ltb 16777216 (bss_end (spell f) - 64))
    (or_from (not (is_in_order (spell f))) (ltb (length (spell f)) (data_end (spell f))) (not_from_true _ order) (le-ltb _ _ fits)) (le-ltb _ _ size) in
    let place : is_entry (spell f) ≡ true =
    and_from (entry (spell f) % 4 == 0 && leb 64 (entry (spell f))) (leb (entry (spell f) + 4) (data_end (spell f)))
    (and_from (entry (spell f) % 4 == 0) (leb 64 (entry (spell f))) (eq-eqb _ _ (rw w.entry s.entry_aligned)) (le-leb _ _ (rw w.entry s.entry_from))) (le-leb _ _ entry_to) in
    let table : is_table_bad (spell f) ≡ false =
    and_right (ltb 0 (reloc_count (spell f))) (ltb (reloc_start (spell f)) (data_end (spell f)) || ltb (length (spell f)) (reloc_start (spell f) + 4 * reloc_count (spell f)))
    (or_from (ltb (reloc_start (spell f)) (data_end (spell f))) (ltb (length (spell f)) (reloc_start (spell f) + 4 * reloc_count (spell f))) (le-ltb _ _ start) (le-ltb _ _ end)) in
    let long : 64 ≤ length (spell f) = omega (arith, len) in
    first_of_clear (header_rows (spell f)) (
      le-ltb _ _ long,
      (
        not_from_true _ (eq-eqb _ _ w.magic),
        (
          not_from_true _ (eq-eqb _ _ w.revision),
          (
            not_from_true _ (rw w.flags s.flags),
            (
              bounds,
              (not_from_true _ (eq-eqb _ _ aligned), (not_from_true _ place, (le-ltb _ _ (rw w.stack s.stack), (table, tt)))),
            ),
          ),
        ),
      ),
    )

records_clear : (f : Values) → Spells f → values_fault f ≡ None
unfolding record_fault passes_data meets_earlier targets_past
records_clear f s =
    first_of_clear (record_rows (stored f) (image_size f) f.body f.records) (
      none_below (passes_data (stored f) f.records) (length f.records) (λ k lt. le-ltb _ _ (s.inside k lt)),
      (
        none_below (meets_earlier f.records) (length f.records) (λ k lt. none_below (λ j. is_near (get_or f.records j 0) (get_or f.records k 0)) k (λ j before. s.apart j k before lt)),
        (
          none_below (targets_past (image_size f) f.body f.records) (length f.records) (λ k lt. le-ltb _ _ (s.targets k lt)),
          tt,
        ),
      ),
    )

pub no_fault : (f : Values) → Spells f → flat_fault (spell f) ≡ None
unfolding flat_fault
no_fault f s = rw (header_clear f s, values_back f s) (records_clear f s)

-- ---- what bytes without a fault say has a text

pub spells_read : (y : List ℕ) → reloc_count y < 2 ^ 32 → IsHeader y → values_fault (flat_values y) ≡ None → Spells (flat_values y)
unfolding flat_values record_fault passes_data meets_earlier targets_past
spells_read y small h none =
    let f = flat_values y in
    let rows : AreClear (record_rows (stored f) (image_size f) f.body f.records) = rows_clear (record_rows (stored f) (image_size f) f.body f.records) none in
    let count : length f.records ≡ reloc_count y = length-map-range_with_len (record_at y) 0 (reloc_count y) in
    record {
      body = omega (arith, length-take (data_end y - 64) (drop 64 y), length-drop 64 y, h.fits, h.text, h.in_order);
      size = omega (arith, h.size, h.text, h.in_order, h.bss);
      text = omega (arith, h.aligned, h.text);
      entry_aligned = h.entry_aligned;
      entry_from = h.entry_from;
      entry_to = omega (arith, h.entry_to, h.text, h.in_order);
      stack = h.stack;
      flags = h.known;
      count = omega (arith, count, small);
      inside = λ k lt. ltb-false _ _ (any_below_none (passes_data (stored f) f.records) (length f.records) k rows.0 lt);
      apart = λ j k before lt. any_below_none (λ j. is_near (get_or f.records j 0) (get_or f.records k 0)) k j (any_below_none (meets_earlier f.records) (length f.records) k rows.1.0 lt) before;
      targets = λ k lt. ltb-false _ _ (any_below_none (targets_past (image_size f) f.body f.records) (length f.records) k rows.1.1.0 lt);
    }

or_else_none : (a b : Option FlatFault) → or_else a b ≡ None → (a ≡ None) × (b ≡ None)
or_else_none None b none = (refl, none)
or_else_none (Some fault) b none = absurd cc

pub spells_of : (y : List ℕ) → reloc_count y < 2 ^ 32 → flat_fault y ≡ None → Spells (flat_values y)
unfolding flat_fault
spells_of y small none =
    let both = or_else_none (header_fault y) (values_fault (flat_values y)) none in
    spells_read y small (is_header y both.0) both.1

pub spells_bytes : (y : List ℕ) → IsBytes y → flat_fault y ≡ None → Spells (flat_values y)
spells_bytes y bytes none = spells_of y (big_at_fits y 32 bytes) none

pub spells_given : (f : Values) → flat_fault (spell f) ≡ None → flat_values (spell f) ≡ f → Spells f
spells_given f none back = subst Spells back (spells_of (spell f) (count_fits f) none)

-- the two conditions of `Flat::of`, from the plain ones
pub ram_fault : (f : Values) → Spells f → (g : Values) → g ≡ f → flat_fault (spell g) ≡ None
ram_fault f s g same = rw same (no_fault f s)

pub ram_back : (f : Values) → Spells f → (g : Values) → g ≡ f → flat_values (spell g) ≡ g
ram_back f s g same = rw same (values_back f s)

pub ram_values_are : (f : Values) (entry text data_len bss stack : ℕ) (body records : List ℕ) → f.flags ≡ 1 → entry ≡ f.entry → text ≡ f.text → data_len ≡ f.data_len → bss ≡ f.bss → stack ≡ f.stack → body ≡ f.body → records ≡ f.records
    → ram_values entry text data_len bss stack body records ≡ f
ram_values_are f entry text data_len bss stack body records ram e t d b s y r = same_values (ram_values entry text data_len bss stack body records) f e t d b s (sym ram) y r

-- ---- what the reader makes of its fields

pub read_fault : (y : List ℕ) (end whole : ℕ) (records : List ℕ) → header_fault y ≡ None → end ≡ data_end y → whole ≡ bss_end y → records ≡ map (record_at y) (range_with_len 0 (reloc_count y))
    → flat_fault y ≡ record_fault (length (take (end - 64) (drop 64 y))) (whole - 64) (take (end - 64) (drop 64 y)) records
unfolding flat_fault flat_values
read_fault y end whole records clear ends wholes table =
    let h = is_header y clear in
    let size : (data_start y - 64) + (data_end y - data_start y) + (bss_end y - data_end y) ≡ bss_end y - 64 = omega (arith, h.text, h.in_order, h.bss) in
    let len : (data_start y - 64) + (data_end y - data_start y) ≡ length (take (data_end y - 64) (drop 64 y)) = omega (arith, length-take (data_end y - 64) (drop 64 y), length-drop 64 y, h.fits, h.text, h.in_order) in
    rw (clear, ends, wholes, table, size, len) refl

pub read_values : (y : List ℕ) (start end whole : ℕ) (f : Values) → start ≡ data_start y → end ≡ data_end y → whole ≡ bss_end y
    → f.entry ≡ entry y → f.text ≡ start - 64 → f.data_len ≡ end - start → f.bss ≡ whole - end → f.stack ≡ stack_size y → f.flags ≡ flags y
    → f.body ≡ take (end - 64) (drop 64 y) → f.records ≡ map (record_at y) (range_with_len 0 (reloc_count y)) → f ≡ flat_values y
unfolding flat_values
read_values y start end whole f starts ends wholes e t d b s l body records =
    same_values f (flat_values y) e (rw (← starts) t) (rw (← starts, ← ends) d) (rw (← ends, ← wholes) b) s l (rw (← ends) body) records

-- text and data are the first bytes of a file, behind its header
pub behind_start : (y : List ℕ) (n : ℕ) → 64 ≤ n → behind_header (take n y) ≡ take (n - 64) (drop 64 y)
behind_start y n long =
    let whole : n ≡ 64 + (n - 64) = omega arith in
    ap (λ k. drop 64 (take k y)) whole ∙ drop-take 64 (n - 64) y

-- what has values has room for a header
pub header_fits : (f : Values) (file : List ℕ) → Spells f → f.body ≡ behind_header file → 64 ≤ length file
header_fits f file s body =
    let len = ap length body in
    omega (arith, s.entry_from, s.entry_to, s.body, len, length-drop 64 file)
