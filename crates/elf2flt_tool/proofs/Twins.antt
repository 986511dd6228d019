-- Two files that say the same have the same layout, the same linked bytes and the same records, so the same flat file.
use Rattle.std.proofs.Common.{◌≡◌, ℕ, zero, suc, ◌+◌, ◌-◌, ◌*◌, ◌/◌, ◌%◌, ◌^◌, ◌<◌, ◌≤◌, ◌⊎◌, Bool, true, false, not, ◌==◌, List, filter, slice_index, None, refl, sym, ap, ◌∙◌, arith, inl, inr}
use Rattle.std.specs.List.{range_with_len}
use Rattle.std.specs.Int.Bits.{bit_and}
use Rattle.std.proofs.lemmas.Bool.{cases_Bool, cases_lt, and_parts, and_from}
use Rattle.byte_words.specs.Numbers.{IsBytes}
use Rattle.byte_words.specs.Patches.{spans}
use Rattle.bflt_format.specs.Values.{Values, stored}
use Rattle.bflt_format.specs.Spelling.{spell}
use Rattle.bflt_format.proofs.Rising.{has}
use Rattle.bflt_format.proofs.Links as links
use Rattle.elf32_reader.specs.Header.{count_of}
use Rattle.elf32_reader.specs.Sections.{section}
use Rattle.elf32_reader.specs.Faults.{elf_fault}
use Rattle.flat_layout.specs.Extremes.{least_below, greatest_below}
use Rattle.flat_layout.specs.Numbering.{is_laid_out, has_bytes, is_written, end_of, lowest, highest, raised_start, distance, start_of}
use Rattle.flat_layout.specs.Layout.{layout, off, stored_end, written_from, text_of}
use Rattle.flat_layout.proofs.Bounds.{greatest_at, greatest_le, least_le_none, least_at}
use Rattle.flat_layout.proofs.Facts.{clear_numbers}
use Rattle.elf2flt_tool.specs.Image.{section_patch, bare, word_of}
use Rattle.elf2flt_tool.specs.Word.{records}
use Rattle.elf2flt_tool.specs.Converted.{converted, flat}
use Rattle.elf2flt_tool.specs.Same.{IsTwin, HasSections, HaveSameSections, SaysSame}
use Rattle.elf2flt_tool.specs.Laws.{SameWordsLaw}
use Rattle.elf2flt_tool.proofs.Laid.{IsLaid, is_laid}
use Rattle.elf2flt_tool.proofs.Bare.{IsOf, is_of, bare_of, bare_none}
use Rattle.elf2flt_tool.proofs.Recorded.{IsClear, is_clear}
use Rattle.elf2flt_tool.proofs.Listed.{target_at, places_of}
use Rattle.elf2flt_tool.proofs.Ascending.{begins_has}
use Rattle.elf2flt_tool.proofs.Spelled.{body_is, words_of_flat}

-- ---- the least and the greatest over indices that have partners

least_ge : (takes : ℕ → Bool) (f : ℕ → ℕ) (none n b : ℕ) → b ≤ none → ((k : ℕ) → k < n → takes k ≡ true → b ≤ f k) → b ≤ least_below takes f none n
unfolding least_below
least_ge takes f none zero b le each = le
least_ge takes f none (suc n) b le each =
    let before = least_ge takes f none n b le (λ k lt on. each k (omega arith) on) in
    elim (cases_Bool (takes n)) [
      | inl on ↦ let here = each n (omega arith) on in rw on (omega arith)
      | inr out ↦ rw out before
    ]

-- an index below m that the test takes, with the value v
record HasPartner (takes : ℕ → Bool) (f : ℕ → ℕ) (m v : ℕ) : Type 0 where
  index : ℕ
  below : index < m
  taken : takes index ≡ true
  value : f index ≡ v

abbrev Partners : (ℕ → Bool) → (ℕ → ℕ) → ℕ → (ℕ → Bool) → (ℕ → ℕ) → ℕ → Type 0
Partners p f n q g m = (k : ℕ) → k < n → p k ≡ true → HasPartner q g m (f k)

least_le : (p q : ℕ → Bool) (f g : ℕ → ℕ) (none n m : ℕ) → Partners p f n q g m → least_below q g none m ≤ least_below p f none n
least_le p q f g none n m partners =
    least_ge p f none n (least_below q g none m) (least_le_none q g none m) (λ k lt on.
    let x = partners k lt on in
    let value = x.value in
    let least = least_at q g none m x.index x.below x.taken in
    omega arith)

least_same : (p q : ℕ → Bool) (f g : ℕ → ℕ) (none n m : ℕ) → Partners p f n q g m → Partners q g m p f n → least_below p f none n ≡ least_below q g none m
least_same p q f g none n m there back =
    let one = least_le p q f g none n m there in
    let other = least_le q p g f none m n back in
    omega arith

greatest_under : (p q : ℕ → Bool) (f g : ℕ → ℕ) (n m : ℕ) → Partners p f n q g m → greatest_below p f n ≤ greatest_below q g m
greatest_under p q f g n m partners =
    greatest_le p f n (greatest_below q g m) (λ k lt on.
    let x = partners k lt on in
    let value = x.value in
    let greatest = greatest_at q g m x.index x.below x.taken in
    omega arith)

greatest_same : (p q : ℕ → Bool) (f g : ℕ → ℕ) (n m : ℕ) → Partners p f n q g m → Partners q g m p f n → greatest_below p f n ≡ greatest_below q g m
greatest_same p q f g n m there back =
    let one = greatest_under p q f g n m there in
    let other = greatest_under q p g f m n back in
    omega arith

-- ---- the layout

written_same : (e f : List ℕ) (i j : ℕ) → IsTwin e i f j → is_written (section e i) ≡ true → is_written (section f j) ≡ true
written_same e f i j twin on =
    and_from _ _ twin.laid (ap (λ flags. not (bit_and flags 1 == 0)) twin.flags ∙ (and_parts _ _ on).1)

bytes_same : (e f : List ℕ) (i j : ℕ) → IsTwin e i f j → has_bytes (section e i) ≡ true → has_bytes (section f j) ≡ true
bytes_same e f i j twin on = and_from _ _ twin.laid (twin.stored ∙ (and_parts _ _ on).1)

laid_parts : (e : List ℕ) (g : ℕ → ℕ) (f : List ℕ) (h : ℕ → ℕ) → HasSections e f → ((i j : ℕ) → IsTwin e i f j → h j ≡ g i)
    → Partners (λ i. is_laid_out (section e i)) g (count_of e) (λ j. is_laid_out (section f j)) h (count_of f)
laid_parts e g f h sections same k lt on = let x = sections k lt on in record { index = x.index; below = x.is.below; taken = x.is.laid; value = same k x.index x.is }

bytes_parts : (e : List ℕ) (g : ℕ → ℕ) (f : List ℕ) (h : ℕ → ℕ) → HasSections e f → ((i j : ℕ) → IsTwin e i f j → h j ≡ g i)
    → Partners (λ i. has_bytes (section e i)) g (count_of e) (λ j. has_bytes (section f j)) h (count_of f)
bytes_parts e g f h sections same k lt on =
    let x = sections k lt (and_parts _ _ on).0 in
    record { index = x.index; below = x.is.below; taken = bytes_same e f k x.index x.is on; value = same k x.index x.is }

written_parts : (e : List ℕ) (g : ℕ → ℕ) (f : List ℕ) (h : ℕ → ℕ) → HasSections e f → ((i j : ℕ) → IsTwin e i f j → h j ≡ g i)
    → Partners (λ i. is_written (section e i)) g (count_of e) (λ j. is_written (section f j)) h (count_of f)
written_parts e g f h sections same k lt on =
    let x = sections k lt (and_parts _ _ on).0 in
    record { index = x.index; below = x.is.below; taken = written_same e f k x.index x.is on; value = same k x.index x.is }

lowest_same : (e f : List ℕ) → HaveSameSections e f → lowest e ≡ lowest f
unfolding lowest
lowest_same e f s = least_same _ _ _ _ (2 ^ 32) (count_of e) (count_of f) (laid_parts e _ f _ s.there (λ i j twin. twin.addr)) (laid_parts f _ e _ s.back (λ i j twin. twin.addr))

end_same : (e f : List ℕ) (i j : ℕ) → IsTwin e i f j → end_of (section f j) ≡ end_of (section e i)
end_same e f i j twin = let addr = twin.addr in let size = twin.size in omega arith

highest_same : (e f : List ℕ) → HaveSameSections e f → highest e ≡ highest f
unfolding highest
highest_same e f s = greatest_same _ _ _ _ (count_of e) (count_of f) (laid_parts e _ f _ s.there (end_same e f)) (laid_parts f _ e _ s.back (end_same f e))

raised_same : (e f : List ℕ) → HaveSameSections e f → raised_start e ≡ raised_start f
unfolding raised_start
raised_same e f s = ap (λ low. (low + 63) / 64 * 64) (lowest_same e f s)

distance_same : (e f : List ℕ) (a b : ℕ) → HaveSameSections e f → a ≡ b → distance e a ≡ distance f b
unfolding distance
distance_same e f a b s same = let raised = raised_same e f s in omega arith

pub turned : (e f : List ℕ) → HaveSameSections e f → HaveSameSections f e
turned e f s = record { entry = sym s.entry; there = s.back; back = s.there }

stored_same : (e f : List ℕ) → HaveSameSections e f → stored_end e ≡ stored_end f
unfolding stored_end
stored_same e f s =
    greatest_same _ _ _ _ (count_of e) (count_of f)
    (bytes_parts e _ f _ s.there (λ i j twin. distance_same f e _ _ (turned e f s) (end_same e f i j twin)))
    (bytes_parts f _ e _ s.back (λ i j twin. distance_same e f _ _ s (end_same f e i j twin)))

written_from_same : (e f : List ℕ) → HaveSameSections e f → written_from e ≡ written_from f
unfolding written_from
written_from_same e f s =
    least_same _ _ _ _ (stored_end e) (count_of e) (count_of f)
    (written_parts e _ f _ s.there (λ i j twin. distance_same f e _ _ (turned e f s) twin.addr))
    (written_parts f _ e _ s.back (λ i j twin. distance_same e f _ _ s twin.addr))
    ∙ ap (λ end. least_below (λ i. is_written (section f i)) (λ i. distance f (section f i).addr) end (count_of f)) (stored_same e f s)

pub layout_same : (e f : List ℕ) → HaveSameSections e f → layout e ≡ layout f
unfolding layout text_of start_of
layout_same e f s =
    let raised = raised_same e f s in
    let written = written_from_same e f s in
    let end = stored_same e f s in
    let top = distance_same e f (highest e) (highest f) s (highest_same e f s) in
    let entry = s.entry in
    λ i. record {
      v0 = (raised i + 2 ^ 32 - 64) % 2 ^ 32;
      text = written i / 32 * 32;
      data_len = end i - written i / 32 * 32;
      bss = top i - end i;
      entry = (entry i + 2 ^ 32 - (raised i + 2 ^ 32 - 64) % 2 ^ 32) % 2 ^ 32;
    }

-- ---- the linked bytes

record Met (p : ℕ → Bool) (n : ℕ) : Type 0 where
  index : ℕ
  below : index < n
  passes : p index ≡ true

look : (p : ℕ → Bool) (n : ℕ) → Met p n ⊎ ((k : ℕ) → k < n → p k ≡ false)
look p zero = inr (λ k lt. absurd (omega arith))
look p (suc n) = elim (look p n) [
  | inl met ↦ inl (record { index = met.index; below = let lt = met.below in omega arith; passes = met.passes })
  | inr none ↦ elim (cases_Bool (p n)) [
    | inl on ↦ inl (record { index = n; below = omega arith; passes = on })
    | inr out ↦ inr (λ k lt. elim (cases_lt k n) [ inl before ↦ none k before | inr from ↦ let same : n ≡ k = omega arith in ap p (sym same) ∙ out ])
  ]
]

-- the same byte of the twin
twin_of : (e f : List ℕ) (i j n : ℕ) → layout e ≡ layout f → IsTwin e i f j → IsOf e i n → IsOf f j n
twin_of e f i j n laid twin here =
    let place : off (layout e) (section e i).addr ≡ off (layout f) (section f j).addr = (λ k. off (laid k) (sym twin.addr k)) in
    let size = twin.size in
    let from = here.from in
    let to = here.to in
    record { bytes = bytes_same e f i j twin here.bytes; from = omega arith; to = omega arith }

byte_of_twin : (e f : List ℕ) (i j n : ℕ) → elf_fault e ≡ None → elf_fault f ≡ None → IsLaid e → IsLaid f → layout e ≡ layout f → i < count_of e → IsTwin e i f j → IsOf e i n → bare e n ≡ bare f n
byte_of_twin e f i j n e_clear f_clear e_laid f_laid laid below twin here =
    bare_of e i n e_clear e_laid below here
    ∙ (λ k. slice_index (sym (twin.content (and_parts _ _ here.bytes).1) k) (n - off (laid k) (sym twin.addr k)))
    ∙ sym (bare_of f j n f_clear f_laid twin.below (twin_of e f i j n laid twin here))

pub bare_at : (e f : List ℕ) (n : ℕ) → IsClear e → IsClear f → HaveSameSections e f → bare e n ≡ bare f n
bare_at e f n e_clear f_clear s =
    let laid = layout_same e f s in
    let e_laid = is_laid e (clear_numbers e e_clear.laid) in
    let f_laid = is_laid f (clear_numbers f f_clear.laid) in
    elim (look (λ i. spans (section_patch e i) n) (count_of e)) [
      | inl met ↦
          let here = is_of e met.index n met.passes in
          let x = s.there met.index met.below (and_parts _ _ here.bytes).0 in
          byte_of_twin e f met.index x.index n e_clear.elf f_clear.elf e_laid f_laid laid met.below x.is here
      | inr none ↦ elim (look (λ j. spans (section_patch f j) n) (count_of f)) [
        | inl met ↦
            let here = is_of f met.index n met.passes in
            let x = s.back met.index met.below (and_parts _ _ here.bytes).0 in
            sym (byte_of_twin f e met.index x.index n f_clear.elf e_clear.elf f_laid e_laid (sym laid) met.below x.is here)
        | inr nowhere ↦ bare_none e n none ∙ sym (bare_none f n nowhere)
      ]
    ]

-- ---- the flat file

members : (e f : List ℕ) → SaysSame e f → (x : ℕ) → has (places_of e) x ≡ has (places_of f) x
members e f s x = sym (begins_has e x) ∙ s.words x ∙ begins_has f x

records_same : (e f : List ℕ) → SaysSame e f → records e ≡ records f
unfolding records
records_same e f s =
    let laid = layout_same e f s.sections in
    λ i. filter (λ n. s.words n i) (range_with_len 0 ((laid i).text + (laid i).data_len))

stored_values : (e : List ℕ) (stack : ℕ) → stored (converted e stack) ≡ (layout e).text + (layout e).data_len
unfolding converted
stored_values e stack = refl

body_same : (e f : List ℕ) (stack : ℕ) → IsBytes e → IsBytes f → IsClear e → IsClear f → SaysSame e f → (converted e stack).body ≡ (converted f stack).body
body_same e f stack e_bytes f_bytes e_clear f_clear s =
    let laid = layout_same e f s.sections in
    let bytes : bare e ≡ bare f = (λ k n. bare_at e f n e_clear f_clear s.sections k) in
    let end : stored (converted e stack) ≡ stored (converted f stack) = stored_values e stack ∙ ap (λ l. l.text + l.data_len) laid ∙ sym (stored_values f stack) in
    body_is e stack e_bytes e_clear
    ∙ (λ k. links.body_of (λ p. off (laid k) (word_of (bytes k) p)) (places_of e) (bytes k) (end k))
    ∙ links.same_body (target_at f) (places_of f) (places_of e) (bare f) (stored (converted f stack)) (words_of_flat f stack f_bytes f_clear) (members e f s)
    ∙ sym (body_is f stack f_bytes f_clear)

same_values : (v w : Values) → v.entry ≡ w.entry → v.text ≡ w.text → v.data_len ≡ w.data_len → v.bss ≡ w.bss → v.stack ≡ w.stack → v.flags ≡ w.flags → v.body ≡ w.body → v.records ≡ w.records → v ≡ w
same_values v w e t d b s l y r = λ i. record { entry = e i; text = t i; data_len = d i; bss = b i; stack = s i; flags = l i; body = y i; records = r i }

converted_same : (e f : List ℕ) (stack : ℕ) → IsBytes e → IsBytes f → IsClear e → IsClear f → SaysSame e f → converted e stack ≡ converted f stack
unfolding converted
converted_same e f stack e_bytes f_bytes e_clear f_clear s =
    let laid = layout_same e f s.sections in
    same_values (converted e stack) (converted f stack) (ap (λ l. 64 + l.entry) laid) (ap (λ l. l.text) laid) (ap (λ l. l.data_len) laid) (ap (λ l. l.bss) laid) refl refl
    (body_same e f stack e_bytes f_bytes e_clear f_clear s) (records_same e f s)

pub same_words_law : SameWordsLaw
unfolding flat
same_words_law e f stack e_bytes f_bytes e_none f_none s = ap spell (converted_same e f stack e_bytes f_bytes (is_clear e e_none) (is_clear f f_none) s)
