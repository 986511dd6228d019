-- What the slots say, after a write.
use Rattle.std.proofs.Common.{◌≡◌, ℕ, ◌+◌, ◌-◌, ◌*◌, ◌/◌, ◌%◌, ◌^◌, ◌<◌, ◌≤◌, ◌⊎◌, inl, inr, zero, suc, List, [], ◌∷◌, length, length-set, refl, sym, ap, subst, ◌∙◌, arith}
use Rattle.std.specs.Prelude.{Option, Some, true, slice_get, slice_index, slice_set, replicate}
use Rattle.std.proofs.lemmas.Bool.{cases_lt}
use Rattle.std.proofs.lemmas.List.{length-replicate, get_or-replicate, get_or-set_same}
use Rattle.std.proofs.lemmas.Option.{slice_get_within, get_or_from_slice_get, slice_get-get_or}
use Rattle.rv32im_table.specs.declared.instr.Instr.{Instr}
use Rattle.rv32im_table.specs.declared.instr.Instr.TheVariants.{Fence}
use Rattle.rv32im_table.specs.Instr.{FieldsFit}
use Rattle.rv32im_table.specs.Table.{decoded}
use Rattle.byte_words.specs.ByteMap.{little}
use Rattle.byte_words.specs.Patches.{laid}
use Rattle.byte_words.proofs.Laid.{length-laid, laid_before, laid_past}
use Rattle.phys_mem.specs.Memory.{IsMemory, Within, place}
use Rattle.phys_mem.specs.declared.slots.Slot.{Slot}
use Rattle.phys_mem.specs.Slots.{slot_of, Says, AreSlots, IsDecoded, Loses, IsBeside, LosesAll, SameBeside, Forgets}

-- ---- words that the range leaves

-- no word that a slot names has a byte in the range
abbrev pub Clean : (mem : List ℕ) → (from to : ℕ) → List Slot → Type 0
Clean mem from to slots = (i : ℕ) (s : Slot) → slice_get slots i ≡ Some s → Within mem s.at 4 → (s.at + 4 ≤ from) ⊎ (to ≤ s.at)

-- four bytes that are the same spell the same
four_same : (old new : List ℕ) (at : ℕ) → ((k : ℕ) → at ≤ k → k < at + 4 → slice_index new k ≡ slice_index old k) → little new at 4 ≡ little old at 4
four_same old new at same = rw (same at (omega arith) (omega arith), same (at + 1) (omega arith) (omega arith), same (at + 1 + 1) (omega arith) (omega arith), same (at + 1 + 1 + 1) (omega arith) (omega arith)) refl

word_same : (from to : ℕ) (old new : List ℕ) (at : ℕ) → 2 ^ 31 ≤ at → SameBeside (place from) (place to) old new → (at + 4 ≤ from) ⊎ (to ≤ at) → little new (place at) 4 ≡ little old (place at) 4
word_same from to old new at above b (inl before) = four_same old new (place at) (λ k low high. b.before k (omega arith))
word_same from to old new at above b (inr behind) = four_same old new (place at) (λ k low high. b.behind k (omega arith))

pub clean_kept : (from to : ℕ) (old new : List ℕ) (slots : List Slot) → SameBeside (place from) (place to) old new → AreSlots old slots → Clean old from to slots → AreSlots new slots
clean_kept from to old new slots b are clean = record {
  count = are.count;
  say = λ i s is fits.
      let inside : Within old s.at 4 = (fits.0, omega (arith, b.length, fits.1)) in
      let said = are.say i s is inside in
      record {
        whole = said.whole;
        index = said.index;
        instr = ap decoded (word_same from to old new s.at fits.0 b (clean i s is inside)) ∙ said.instr;
        fields = said.fields;
      };
}

-- nothing is written
pub none_kept : (at : ℕ) (old new : List ℕ) (slots : List Slot) → SameBeside at at old new → AreSlots old slots → AreSlots new slots
none_kept at old new slots b are = record {
  count = are.count;
  say = λ i s is fits.
      let inside : Within old s.at 4 = (fits.0, omega (arith, b.length, fits.1)) in
      let said = are.say i s is inside in
      record {
        whole = said.whole;
        index = said.index;
        instr = ap decoded (four_same old new (place s.at) (λ k low high. each k)) ∙ said.instr;
        fields = said.fields;
      };
}
  where
    each : (k : ℕ) → slice_index new k ≡ slice_index old k
    each k = elim (cases_lt k at) [
      | inl before ↦ b.before k before
      | inr behind ↦ b.behind k (omega arith)
    ]

-- ---- a word that is forgotten

pub loses_kept : (at : ℕ) (mem : List ℕ) (old new : List Slot) → length mem < 2 ^ 31 → Loses at old new → AreSlots mem old → AreSlots mem new
loses_kept at mem old new small l are = record {
  count = l.count ∙ are.count;
  say = λ i s is fits. elim (l.kept i s is) [
    | inl there ↦ are.say i s there fits
    | inr empty ↦ absurd (omega (arith, empty, fits.1))
  ];
}

pub loses_clean_still : (at : ℕ) (mem : List ℕ) (from to : ℕ) (old new : List Slot) → length mem < 2 ^ 31 → Loses at old new → Clean mem from to old → Clean mem from to new
loses_clean_still at mem from to old new small l clean i s is fits = elim (l.kept i s is) [
  | inl there ↦ clean i s there fits
  | inr empty ↦ absurd (omega (arith, empty, fits.1))
]

pub loses_clean : (at : ℕ) (mem : List ℕ) (old new : List Slot) → length mem < 2 ^ 31 → at % 4 ≡ 0 → Loses at old new → AreSlots mem old → Clean mem at (at + 4) new
loses_clean at mem old new small whole l are i s is fits =
    let said = (loses_kept at mem old new small l are).say i s is fits in
    elim (cases_lt s.at at) [
      | inl before ↦ inl (omega (arith, said.whole))
      | inr behind ↦ elim (cases_lt at s.at) [
        | inl after ↦ inr (omega (arith, said.whole))
        | inr same ↦
            let e : s.at ≡ at = omega arith in
            let here : slice_get new (slot_of at) ≡ Some s = ap (λ k. slice_get new (slot_of k)) (sym e) ∙ ap (slice_get new) said.index ∙ is in
            absurd (l.gone s here e)
      ]
    ]

-- a range within a word that is clean, and one over two such words
pub one_word : (at len : ℕ) (old new : List Slot) → 0 < len → at % 4 + len ≤ 4 → Loses (at - at % 4) old new → Forgets at (at + len) old new
one_word at len old new some few l mem now small b are =
    let word = at - at % 4 in
    let clean = loses_clean word mem old new small (omega arith) l are in
    clean_kept at (at + len) mem now new b (loses_kept word mem old new small l are) (λ i s is fits. elim (clean i s is fits) [
      | inl before ↦ inl (omega arith)
      | inr behind ↦ inr (omega arith)
    ])

pub two_words : (at len : ℕ) (old mid new : List Slot) → len ≤ 4 → 4 < at % 4 + len → Loses (at - at % 4) old mid → Loses (at - at % 4 + 4) mid new → Forgets at (at + len) old new
two_words at len old mid new few wide l m mem now small b are =
    let word = at - at % 4 in
    let kept = loses_kept word mem old mid small l are in
    let first = loses_clean_still (word + 4) mem word (word + 4) mid new small m (loses_clean word mem old mid small (omega arith) l are) in
    let second = loses_clean (word + 4) mem mid new small (omega arith) m kept in
    clean_kept at (at + len) mem now new b (loses_kept (word + 4) mem mid new small m kept) (λ i s is fits. elim (first i s is fits) [
      | inl before ↦ inl (omega arith)
      | inr behind ↦ elim (second i s is fits) [
        | inl between ↦ absurd (omega arith)
        | inr past ↦ inr (omega arith)
      ]
    ])

-- ---- the words of a range

loses_all_kept : (first words n : ℕ) (mem : List ℕ) (old new : List Slot) → length mem < 2 ^ 31 → LosesAll first words n old new → AreSlots mem old → AreSlots mem new
loses_all_kept first words n mem old new small l are = record {
  count = l.count ∙ are.count;
  say = λ i s is fits. elim (l.kept i s is) [
    | inl there ↦ are.say i s there fits
    | inr empty ↦ absurd (omega (arith, empty, fits.1))
  ];
}

-- the slots of all words were visited
pub all_words : (at len words n : ℕ) (old new : List Slot) → 0 < len → words ≡ (at + len - 1) / 4 - at / 4 + 1 → (n ≡ words) ⊎ (16384 ≤ n)
    → LosesAll (at / 4) words n old new → Forgets at (at + len) old new
all_words at len words n old new some are_words visited l mem now small b are =
    let kept = loses_all_kept (at / 4) words n mem old new small l are in
    clean_kept at (at + len) mem now new b kept (λ i s is fits.
    let said = kept.say i s is fits in
    elim (cases_lt (s.at / 4) (at / 4)) [
      | inl before ↦ inl (omega (arith, said.whole))
      | inr from ↦ elim (cases_lt (s.at / 4) (at / 4 + words)) [
        | inr past ↦ inr (omega (arith, said.whole))
        | inl inside ↦
            let k = (s.at / 4 - at / 4) % 16384 in
            let below : k < n = elim visited [
              | inl all ↦ omega arith
              | inr round ↦ omega arith
            ] in
            let e : (at / 4 + k) % 16384 ≡ i = omega (arith, said.index) in
            let here : slice_get new ((at / 4 + k) % 16384) ≡ Some s = ap (slice_get new) e ∙ is in
            absurd (outside s fits small from inside (l.gone k s below here))
      ]
    ])
  where
    outside : (s : Slot) → Within mem s.at 4 → length mem < 2 ^ 31 → at / 4 ≤ s.at / 4 → s.at / 4 < at / 4 + words → IsBeside (at / 4) words s → ⊥
    outside s fits small from inside (inl empty) = omega (arith, empty, fits.1)
    outside s fits small from inside (inr (inl before)) = omega arith
    outside s fits small from inside (inr (inr past)) = omega arith

-- ---- what is written

some_same : {A : Type 0} (y x : A) → Some y ≡ Some x → y ≡ x
some_same y x is = cc

in_set : {A : Type 0} (xs : List A) (at i : ℕ) (y x : A) → slice_get (slice_set xs at y) i ≡ Some x → ((i ≡ at) × (y ≡ x)) ⊎ (slice_get xs i ≡ Some x)
in_set [] at i y x is = inr is
in_set (z ∷ xs) zero zero y x is = inl (refl, some_same y x is)
in_set (z ∷ xs) zero (suc i) y x is = inr is
in_set (z ∷ xs) (suc at) zero y x is = inr is
in_set (z ∷ xs) (suc at) (suc i) y x is = elim (in_set xs at i y x is) [
  | inl (here, same) ↦ inl (ap suc here, same)
  | inr there ↦ inr there
]

pub laid_beside : (mem : List ℕ) (at : ℕ) (bytes : List ℕ) → at + length bytes ≤ length mem → SameBeside at (at + length bytes) mem (laid mem at bytes)
laid_beside mem at bytes fits = record {
  length = length-laid mem at bytes fits;
  before = laid_before mem at bytes fits;
  behind = laid_past mem at bytes fits;
}

-- a word that was decoded is kept in its slot
pub decoded_kept : (mem : List ℕ) (slots : List Slot) (at : ℕ) (instr : Instr) → at % 4 ≡ 0 → decoded (little mem (place at) 4) ≡ Some instr → FieldsFit instr
    → AreSlots mem slots → AreSlots mem (slice_set slots (slot_of at) (record { at = at; spare = 0; instr = instr }))
decoded_kept mem slots at instr whole is fields are = record {
  count = length-set slots (slot_of at) (record { at = at; spare = 0; instr = instr }) ∙ are.count;
  say = λ i s there fits. elim (in_set slots (slot_of at) i (record { at = at; spare = 0; instr = instr }) s there) [
    | inl (here, same) ↦ subst (Says mem i) same (record { whole = whole; index = sym here; instr = is; fields = fields })
    | inr other ↦ are.say i s other fits
  ];
}

-- a word that isn't kept stands in a slot that has no place
pub apart_kept : (mem : List ℕ) (slots : List Slot) (at : ℕ) (instr : Instr) → length mem < 2 ^ 31 → AreSlots mem slots → AreSlots mem (slice_set slots at (record { at = 2 ^ 32 - 1; spare = 0; instr = instr }))
apart_kept mem slots at instr small are = record {
  count = length-set slots at (record { at = 2 ^ 32 - 1; spare = 0; instr = instr }) ∙ are.count;
  say = λ i s there fits. elim (in_set slots at i (record { at = 2 ^ 32 - 1; spare = 0; instr = instr }) s there) [
    | inl (here, same) ↦ absurd (omega (arith, ap (λ (x : Slot). x.at) same, fits.1))
    | inr other ↦ are.say i s other fits
  ];
}

-- a range that lies in memory lies in its array
pub in_array : (bytes mem : List ℕ) (at p len : ℕ) → bytes ≡ mem → p ≡ place at → Within mem at len → p + len ≤ length bytes
in_array bytes mem at p len same is within =
    let long : length bytes ≡ length mem = ap (length {A = ℕ}) same in
    omega (arith, long, is, within.0, within.1)

-- what is written, with the slots that forgot it
pub set_kept : (mem : List ℕ) (at p len : ℕ) (bytes : List ℕ) (old new : List Slot) → p ≡ place at → 2 ^ 31 ≤ at → length bytes ≡ len → p + len ≤ length mem → IsMemory mem → AreSlots mem old
    → Forgets at (at + len) old new → IsMemory (laid mem p bytes) × AreSlots (laid mem p bytes) new
set_kept mem at p len bytes old new is_place above is_len inside is are forgets =
    let fits : p + length bytes ≤ length mem = omega (arith, is_len) in
    let end : p + length bytes ≡ place (at + len) = omega (arith, is_len, is_place) in
    let long = length-laid mem p bytes fits in
    let beside : SameBeside (place at) (place (at + len)) mem (laid mem p bytes) =
    subst (λ n. SameBeside n (place (at + len)) mem (laid mem p bytes)) is_place (subst (λ n. SameBeside p n mem (laid mem p bytes)) end (laid_beside mem p bytes fits)) in (
      record { whole = long ∙ is.whole ∙ ap (λ n. 4096 * (n / 4096)) (sym long); some = subst (λ n. 1 ≤ n / 4096) (sym long) is.some; most = subst (λ n. n / 4096 ≤ 16384) (sym long) is.most },
      forgets mem (laid mem p bytes) (omega (arith, is.whole, is.most)) beside are,
    )

-- all zero, with empty slots
pub new_kept : (pages : ℕ) (mem : List ℕ) (slots : List Slot) → 1 ≤ pages → pages ≤ 16384 → mem ≡ replicate (4096 * pages) 0
    → slots ≡ replicate 16384 (record { at = 2 ^ 32 - 1; spare = 0; instr = Fence }) → IsMemory mem × AreSlots mem slots
new_kept pages mem slots some most zeros are =
    let long = ap (length {A = ℕ}) zeros ∙ length-replicate (4096 * pages) 0 in (
      record { whole = omega (arith, long); some = omega (arith, long); most = omega (arith, long) },
      record {
        count = ap (length {A = Slot}) are ∙ length-replicate {A = Slot} 16384 (record { at = 2 ^ 32 - 1; spare = 0; instr = Fence });
        say = λ i s there fits. absurd (omega (arith, long, fits.1, nowhere i s (ap (λ l. slice_get l i) (sym are) ∙ there)));
      },
    )
  where
    nowhere : (i : ℕ) (s : Slot) → slice_get (replicate 16384 (record { at = 2 ^ 32 - 1; spare = 0; instr = Fence })) i ≡ Some s → s.at ≡ 2 ^ 32 - 1
    nowhere i s there =
        let nothing : Slot = record { at = 2 ^ 32 - 1; spare = 0; instr = Fence } in
        let within = slice_get_within (replicate 16384 nothing) i s there in
        let long = length-replicate 16384 nothing in
        let at = get_or_from_slice_get (replicate 16384 nothing) i s nothing there in
        ap (λ (x : Slot). x.at) (sym at ∙ get_or-replicate 16384 i nothing nothing (omega (arith, within, long)))

-- a word that was written into a slot is kept there
pub is_kept : (slots : List Slot) (i : ℕ) (s : Slot) (at : ℕ) → i < length slots → s.at ≡ at → (t : Slot) × (slice_get (slice_set slots i s) i ≡ Some t) × (t.at ≡ at)
is_kept slots i s at within is =
    (s, slice_get-get_or (slice_set slots i s) i s (omega (arith, length-set slots i s)) ∙ ap (λ (x : Slot). Some x) (get_or-set_same slots i s s within), is)

-- an instruction that was written into a slot stands there
pub is_decoded : (found : Option Instr) (slots : List Slot) (i : ℕ) (s : Slot) (instr : Instr) → i < length slots → s.instr ≡ instr → found ≡ Some instr → FieldsFit instr
    → IsDecoded found (slice_set slots i s) i true
is_decoded found slots i s instr within is_instr is fields =
    let there : slice_get (slice_set slots i s) i ≡ Some s = slice_get-get_or (slice_set slots i s) i s (omega (arith, length-set slots i s)) ∙ ap (λ (x : Slot). Some x) (get_or-set_same slots i s s within) in
    rw (is) (s, there, is_instr, fields)
