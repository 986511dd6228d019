-- The header of a file without a fault, as Linux reads it, and the bytes that it reads of the file.
use Rattle.std.proofs.Common.{◌≡◌, ℕ, ◌+◌, ◌-◌, ◌*◌, ◌%◌, ◌^◌, ◌<◌, ◌≤◌, true, false, not, ◌&&◌, ◌||◌, ◌==◌, List, [], ◌∷◌, length, take, drop, get_or, Some, None, refl, ap, ◌∙◌, arith, inl, inr}
use Rattle.std.proofs.lemmas.Bool.{cases_lt, lt-leb, or_cases, eqb-true, le-ltb, lt-ltb}
use Rattle.std.proofs.lemmas.List.{length-take, length-drop, get_or-take, get_or-drop}
use Rattle.byte_words.specs.Numbers.{number_at}
use Rattle.byte_words.specs.Patches.{Patch, painted}
use Rattle.byte_words.proofs.Painting.{spans_within, spans_below, patched_on, patched_off}
use Rattle.bflt_format.specs.Numbers.{big_at}
use Rattle.bflt_format.specs.Header.{data_start, data_end, bss_end, reloc_count, flags}
use Rattle.bflt_format.specs.Fault.{is_known, header_rows, header_fault, IsHeader}
use Rattle.bflt_format.proofs.Headers.{AreClear, rows_clear}
use Rattle.bflt_format.proofs.BigWords.{big_at_is}
use Rattle.linux_loader.specs.Numbers.{has_bit, word}
use Rattle.linux_loader.specs.Loader.{data_len, bss_len, stack_len, full_data, is_large, is_insane, is_packed, is_refused, is_told, run_len, data_place, text_patch, data_patch, read_in, text_len, reloc_limit, calc_reloc, record_place}
use Rattle.linux_loader.specs.Laws.{IsPlaced, IsForLinux}

-- the numbers of the header, in the file and in memory
pub record IsReady (y : List ℕ) (args k : ℕ) : Type 0 where
  pub header : IsHeader y
  pub data_size : data_len y ≡ data_end y - data_start y
  pub bss : bss_len y ≡ bss_end y - data_end y
  pub stack : stack_len y args < 2 ^ 28
  pub full : full_data y ≡ data_end y - data_start y + 4 * reloc_count y
  pub few : full_data y < 2 ^ 28
  pub text : text_len y ≡ data_start y - 64
  pub limit : reloc_limit y ≡ bss_end y - 64
  pub place : data_place y k ≡ k + data_start y
  pub read_room : k + (data_end y + 4 * reloc_count y) ≤ k + run_len y args
  pub image_room : k + bss_end y ≤ k + run_len y args
  pub end : k + run_len y args ≤ 2 ^ 32

pub is_ready : (y : List ℕ) (args k : ℕ) → IsHeader y → data_end y - data_start y + 4 * reloc_count y < 2 ^ 28 → IsPlaced y args k → IsReady y args k
unfolding run_len data_place reloc_limit
is_ready y args k h few placed =
    let start = h.text in
    let ordered = h.in_order in
    let ends = h.bss in
    let size = h.size in
    let stacked = h.stack in
    let fit = placed.args_fit in
    let sized : data_len y ≡ data_end y - data_start y = omega arith in
    let bss : bss_len y ≡ bss_end y - data_end y = omega arith in
    let text : text_len y ≡ data_start y - 64 = omega arith in
    record {
      header = h;
      data_size = sized;
      bss = bss;
      stack = omega arith;
      full = omega arith;
      few = omega arith;
      text = text;
      limit = omega arith;
      place = omega (arith, h.aligned, placed.page);
      read_room = omega arith;
      image_room = omega arith;
      end = placed.end;
    }

-- ---- the header

not_large : (n : ℕ) → n < 2 ^ 28 → is_large n ≡ false
not_large n small = lt-leb _ _ small

sane : (y : List ℕ) (args k : ℕ) → IsReady y args k → is_insane y args ≡ false
unfolding is_insane
sane y args k r =
    let h = r.header in
    let start : data_start y < 2 ^ 28 = omega (arith, h.in_order, h.bss, h.size) in
    let size : data_len y < 2 ^ 28 = omega (arith, r.data_size, h.bss, h.size) in
    let bss : bss_len y < 2 ^ 28 = omega (arith, r.bss, h.size) in
    let count : reloc_count y < 2 ^ 28 = omega (arith, r.full, r.few) in
    rw (not_large _ start, not_large _ size, not_large _ bss, not_large _ r.stack, not_large _ count, not_large _ r.few) refl

packed : (y : List ℕ) → is_known (flags y) ≡ true → is_packed y ≡ false
unfolding is_packed
packed y known = elim (or_cases (flags y == 1) (flags y == 17) known) [
  | inl ram ↦ ap (λ n. has_bit 2 n || has_bit 3 n) (eqb-true _ _ ram)
  | inr ktrace ↦ ap (λ n. has_bit 2 n || has_bit 3 n) (eqb-true _ _ ktrace)
]

pub told : (y : List ℕ) → is_known (flags y) ≡ true → is_told y ≡ true
unfolding is_told
told y known = elim (or_cases (flags y == 1) (flags y == 17) known) [
  | inl ram ↦ ap (λ n. has_bit 0 n && not (has_bit 1 n)) (eqb-true _ _ ram)
  | inr ktrace ↦ ap (λ n. has_bit 0 n && not (has_bit 1 n)) (eqb-true _ _ ktrace)
]

pub not_refused : (y : List ℕ) (args k : ℕ) → header_fault y ≡ None → IsReady y args k → is_refused y args ≡ false
unfolding is_refused header_fault
not_refused y args k none r =
    let rows : AreClear (header_rows y) = rows_clear (header_rows y) none in
    let insane = sane y args k r in
    let zipped = packed y r.header.known in
    rw (rows.1.0, rows.1.1.0, insane, zipped) refl

-- ---- what is read

two_parts : (y : List ℕ) (start full k j : ℕ) → start + full ≤ length y → j < start + full
    → painted (record { at = k; bytes = take start y } ∷ record { at = k + start; bytes = take full (drop start y) } ∷ []) (λ a. 0) (k + j) ≡ get_or y j 0
two_parts y start full k j fits lt =
    let first : Patch = record { at = k; bytes = take start y } in
    let second : Patch = record { at = k + start; bytes = take full (drop start y) } in
    elim (cases_lt j start) [
      | inl text ↦
          let back : (k + j) - k ≡ j = omega arith in
          patched_off second _ (k + j) (spans_below second (k + j) (omega arith))
          ∙ patched_on first _ (k + j) (spans_within first (k + j) (record { from = omega arith; to = omega (arith, length-take start y) }))
          ∙ ap (λ i. get_or (take start y) i 0) back
          ∙ get_or-take start y j 0 text
      | inr past ↦
          let back : (k + j) - (k + start) ≡ j - start = omega arith in
          let there : start + (j - start) ≡ j = omega arith in
          let inside : j - start < full = omega arith in
          patched_on second _ (k + j) (spans_within second (k + j) (record { from = omega arith; to = omega (arith, length-take full (drop start y), length-drop start y) }))
          ∙ ap (λ i. get_or (take full (drop start y)) i 0) back
          ∙ get_or-take full (drop start y) (j - start) 0 inside
          ∙ get_or-drop start y (j - start) 0
          ∙ ap (λ i. get_or y i 0) there
    ]

-- the file's bytes up to the end of the records stand in memory from k on
pub read_byte : (y : List ℕ) (args k j : ℕ) → IsReady y args k → IsForLinux y → j < data_end y + 4 * reloc_count y → read_in y k (k + j) ≡ get_or y j 0
unfolding read_in text_patch data_patch
read_byte y args k j r for lt =
    let h = r.header in
    let ordered = h.in_order in
    let is_full = r.full in
    let fits : data_start y + full_data y ≤ length y = elim (cases_lt 0 (reloc_count y)) [
      | inl some ↦ omega (arith, for.records some, (h.table some).1)
      | inr none ↦ omega (arith, h.fits)
    ] in
    rw r.place (two_parts y (data_start y) (full_data y) k j fits (omega arith))

-- four equal bytes are one word
pub word_is : (m : ℕ → ℕ) (a : ℕ) (y : List ℕ) (b : ℕ) → ((i : ℕ) → i < 4 → m (a + i) ≡ get_or y (b + i) 0) → word m a ≡ big_at y b
unfolding word number_at
word_is m a y b same =
    let bytes = m a ∷ m (a + 1) ∷ m (a + 2) ∷ m (a + 3) ∷ [] in
    let zeroth : m a ≡ get_or y b 0 = ap m (let e : a ≡ a + 0 = omega arith in e) ∙ same 0 (omega arith) ∙ ap (λ k. get_or y k 0) (let e : b + 0 ≡ b = omega arith in e) in
    let whole : word m a ≡ big_at bytes 0 = refl in
    omega (arith, whole, big_at_is bytes 0, big_at_is y b, zeroth, same 1 (omega arith), same 2 (omega arith), same 3 (omega arith))

-- ---- addresses

pub calc_small : (y : List ℕ) (args k n : ℕ) → IsReady y args k → n ≤ bss_end y - 64 → calc_reloc y k n ≡ Some ((k + 64 + n) % 2 ^ 32)
unfolding calc_reloc
calc_small y args k n r le =
    let within : n ≤ reloc_limit y = omega (arith, r.limit) in
    elim (cases_lt n (text_len y)) [
      | inl text ↦
          let same : n + (k + 64) ≡ k + 64 + n = omega arith in
          rw (le-ltb _ _ within, lt-ltb _ _ text) (ap (λ s. Some (s % 2 ^ 32)) same)
      | inr past ↦
          let same : ((n + (2 ^ 32 - text_len y)) % 2 ^ 32 + data_place y k) % 2 ^ 32 ≡ (k + 64 + n) % 2 ^ 32 = omega (arith, r.text, r.place, r.header.text, r.header.size) in
          rw (le-ltb _ _ within, le-ltb _ _ past) (ap Some same)
    ]

pub record_place_is : (y : List ℕ) (args k n : ℕ) → IsReady y args k → IsForLinux y → n < reloc_count y → record_place y k n ≡ k + (data_end y + 4 * n)
unfolding record_place
record_place_is y args k n r for lt =
    let some : 0 < reloc_count y = omega arith in
    omega (arith, for.records some, r.place, r.read_room, r.end, r.header.in_order, r.header.bss, r.header.size)
