-- The law.
use Rattle.std.proofs.Common.{◌≡◌, ℕ, suc, ◌+◌, ◌-◌, ◌*◌, ◌^◌, ◌<◌, ◌≤◌, true, false, eqb, leb, ltb, List, [], ◌∷◌, length, map, take, get_or, Option, Some, None, refl, sym, ap, subst, ◌∙◌, arith, inl, inr}
use Rattle.std.specs.List.{list_any}
use Rattle.std.specs.Option.{unwrap_or}
use Rattle.std.proofs.lemmas.Bool.{cases_lt, and_from, or_cases, false_from_ne_true, eqb-true, ne_eqb, ltb-true, and_parts, le-leb, lt-leb, lt-ltb, le-ltb}
use Rattle.std.proofs.lemmas.List.{get_or_past, get_or_default, take_all}
use Rattle.std.proofs.lemmas.Map.Keys.{IsDistinct-from_apart}
use Rattle.std.proofs.lemmas.Map.Steps.{length-le_from_distinct_below}
use Rattle.byte_words.specs.Patches.{painted, from_base}
use Rattle.bflt_format.specs.declared.fault.FlatFault.{FlatFault}
use Rattle.bflt_format.specs.Values.{Values, stored, image_size}
use Rattle.bflt_format.specs.Header.{entry, data_start, data_end, reloc_count, flat_values}
use Rattle.bflt_format.specs.Fault.{is_near, header_fault, values_fault, or_else, flat_fault}
use Rattle.bflt_format.specs.Spelling.{Spells}
use Rattle.bflt_format.specs.Image.{link, flat_image}
use Rattle.bflt_format.proofs.Headers.{is_header}
use Rattle.bflt_format.proofs.Links.{word_none}
use Rattle.bflt_format.proofs.Overlap.{covers}
use Rattle.bflt_format.proofs.Rising.{StandsIn, stands_in}
use Rattle.bflt_format.proofs.Spelled.{spells_bytes}
use Rattle.linux_loader.specs.Loader.{run_len, data_place, data_len, cleared, process_of, memory_after, is_refused, is_told, linux, Loaded}
use Rattle.linux_loader.specs.Laws.{IsPlaced, IsForLinux, LoadsAs, FlatFilesLoad}
use Rattle.linux_loader.proofs.Reading.{IsReady, is_ready, not_refused, told}
use Rattle.linux_loader.proofs.Linking.{Says, says, count_is, link_off, Reached, reached}

-- ---- records whose words are apart are few

found_at : (xs : List ℕ) (q : ℕ) → list_any (eqb q) xs ≡ true → StandsIn xs q
found_at [] q e = absurd cc
found_at (x ∷ xs) q e = elim (or_cases (eqb q x) (list_any (eqb q) xs) e) [
  | inl here ↦ record { at = 0; below = omega arith; is = sym (eqb-true q x here) }
  | inr later ↦ let rest = found_at xs q later in record { at = suc rest.at; below = omega (arith, rest.below); is = rest.is }
]

near_itself : (p q : ℕ) → p ≡ q → is_near p q ≡ true
unfolding is_near
near_itself p q same =
    let first : p < q + 4 = omega arith in
    let second : q < p + 4 = omega arith in
    and_from _ _ (lt-ltb _ _ first) (lt-ltb _ _ second)

records_few : (f : Values) → Spells f → length f.records ≤ stored f
records_few f s =
    length-le_from_distinct_below f.records (stored f)
    (IsDistinct-from_apart eqb f.records (λ i j d before lt.
    let same_i = get_or_default f.records i d 0 (omega arith) in
    let same_j = get_or_default f.records j d 0 lt in
    ne_eqb _ _ (λ same. let near = near_itself (get_or f.records i 0) (get_or f.records j 0) (sym same_i ∙ same ∙ same_j) in let apart = s.apart i j before lt in cc)))
    (λ q there. let stands = found_at f.records q there in let is = stands.is in let inside = s.inside stands.at stands.below in omega arith)

-- ---- the image

image_in : (f : Values) (b j : ℕ) → j < image_size f → flat_image f b (b + j) ≡ Some (painted (map (link f.body b) f.records) (λ i. get_or f.body i 0) j)
unfolding flat_image from_base
image_in f b j lt =
    let from : b ≤ b + j = omega arith in
    let to : b + j < b + image_size f = omega arith in
    let place : (b + j) - b ≡ j = omega arith in
    rw (le-leb _ _ from, lt-ltb _ _ to) (ap (λ i. Some (painted (map (link f.body b) f.records) (λ n. get_or f.body n 0) i)) place)

image_out : (f : Values) (b j : ℕ) → image_size f ≤ j → flat_image f b (b + j) ≡ None
unfolding flat_image from_base
image_out f b j le =
    let from : b ≤ b + j = omega arith in
    let to : b + image_size f ≤ b + j = omega arith in
    rw (le-leb _ _ from, le-ltb _ _ to) refl

-- behind the data there are zeros
zero_byte : (f : Values) → Spells f → (b j : ℕ) → stored f ≤ j → painted (map (link f.body b) f.records) (λ i. get_or f.body i 0) j ≡ 0
zero_byte f s b j le =
    word_none (link f.body b) f.records (λ i. get_or f.body i 0) j (λ p there.
    let stands = stands_in f.records p there in
    let is = stands.is in
    let inside = s.inside stands.at stands.below in
    let past : p + 4 ≤ j = omega arith in
    link_off f.body b p j (false_from_ne_true (covers p j) (λ on. absurd (let to = ltb-true j (p + 4) (and_parts (leb p j) (ltb j (p + 4)) on).1 in omega arith))))
    ∙ get_or_past f.body j 0 (omega (arith, s.body))

-- ---- what is left

kept_byte : (from to : ℕ) (m : ℕ → ℕ) (a : ℕ) → a < from → cleared from to m a ≡ m a
unfolding cleared
kept_byte from to m a lt = rw (lt-leb _ _ lt) refl

cleared_byte : (from to : ℕ) (m : ℕ → ℕ) (a : ℕ) → from ≤ a → a < to → cleared from to m a ≡ 0
unfolding cleared
cleared_byte from to m a low high = rw (le-leb _ _ low, lt-ltb _ _ high) refl

take_whole : (xs : List ℕ) (n : ℕ) → n ≡ length xs → take n xs ≡ xs
take_whole xs n is = take_all n xs (omega arith)

left_byte : (y : List ℕ) (args k j : ℕ) (f : Values) → IsReady y args k → Says y f → Spells f → (x : Reached y k f (reloc_count y)) → k + 64 + j < k + run_len y args
    → cleared (data_place y k + data_len y) (k + run_len y args) x.memory (k + 64 + j) ≡ unwrap_or (flat_image f (k + 64) (k + 64 + j)) 0
left_byte y args k j f r s spells x below =
    let end : data_place y k + data_len y ≡ k + 64 + stored f = omega (arith, r.place, r.data_size, s.stored, r.header.text, r.header.in_order) in
    elim (cases_lt j (stored f)) [
      | inl lt ↦
          let whole = take_whole f.records (reloc_count y) (sym (count_is y f s)) in
          kept_byte _ _ x.memory (k + 64 + j) (omega arith)
          ∙ x.body j lt
          ∙ ap (λ rs. painted (map (link f.body (k + 64)) rs) (λ i. get_or f.body i 0) j) whole
          ∙ sym (ap (λ byte. unwrap_or byte 0) (image_in f (k + 64) j (omega arith)))
      | inr past ↦
          cleared_byte _ _ x.memory (k + 64 + j) (omega arith) below
          ∙ sym (elim (cases_lt j (image_size f)) [
            | inl within ↦ ap (λ byte. unwrap_or byte 0) (image_in f (k + 64) j within) ∙ zero_byte f spells (k + 64) j past
            | inr outside ↦ ap (λ byte. unwrap_or byte 0) (image_out f (k + 64) j outside)
          ])
    ]

loaded : (y : List ℕ) (args k : ℕ) (m : ℕ → ℕ) → is_refused y args ≡ false → is_told y ≡ true → memory_after y k (reloc_count y) ≡ Some m → linux y args k ≡ Loaded (process_of y args k m)
unfolding linux
loaded y args k m taken tells is = rw (taken, tells, is) refl

header_none : (y : List ℕ) → flat_fault y ≡ None → header_fault y ≡ None
unfolding flat_fault
header_none y none = left_none (header_fault y) (values_fault (flat_values y)) none
  where
    left_none : (a b : Option FlatFault) → or_else a b ≡ None → a ≡ None
    left_none None b none = refl
    left_none (Some fault) b none = absurd cc

-- of a file whose values can be said
pub flat_loads : (y : List ℕ) (args k : ℕ) → Spells (flat_values y) → flat_fault y ≡ None → IsForLinux y → IsPlaced y args k → LoadsAs y args k (flat_image (flat_values y) (k + 64)) (k + entry y)
flat_loads y args k spells none for placed =
    let f = flat_values y in
    let clear = header_none y none in
    let h = is_header y clear in
    let s = says y h in
    let few : data_end y - data_start y + 4 * reloc_count y < 2 ^ 28 = omega (arith, records_few f spells, count_is y f s, s.stored, h.bss, h.size, h.text, h.in_order) in
    let ready = is_ready y args k h few placed in
    let x = reached y args k f (reloc_count y) ready for s spells (omega arith) in
    let small = for.entry in
    record {
      process = process_of y args k x.memory;
      loaded = loaded y args k x.memory (not_refused y args k clear ready) (told y h.known) x.is;
      bytes = λ a low high.
          let there : k + 64 + (a - (k + 64)) ≡ a = omega arith in
          subst (λ n. cleared (data_place y k + data_len y) (k + run_len y args) x.memory n ≡ unwrap_or (flat_image f (k + 64) n) 0) there
          (left_byte y args k (a - (k + 64)) f ready s spells x (omega arith));
      entry = omega (arith, h.entry_to, ready.image_room, ready.end, h.bss);
    }

pub flat_files_load : FlatFilesLoad
flat_files_load y args k bytes none for placed = flat_loads y args k (spells_bytes y bytes none) none for placed
