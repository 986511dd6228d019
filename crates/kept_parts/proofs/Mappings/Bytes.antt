-- The bytes of a space with one mapping more, and of the others, where bytes were laid over memory.
use Rattle.std.proofs.Common.{◌≡◌, ℕ, ◌+◌, ◌-◌, ◌*◌, ◌<◌, ◌≤◌, ◌⊎◌, inl, inr, Bool, true, false, List, [], ◌∷◌, ◌++◌, length, get_or, arith, refl, sym, ap, subst, ◌∙◌}
use Rattle.std.specs.Prelude.{Option, Some, None, slice_get, if◌then◌else◌, ◌||◌, ◌==◌}
use Rattle.std.proofs.lemmas.Bool.{cases_lt, false≢true}
use Rattle.std.proofs.lemmas.Bool.Decides.{nat_tests}
use Rattle.std.proofs.lemmas.Grind.{same_number_lists}
use Rattle.std.proofs.lemmas.List.Folds.{list_any-append}
use Rattle.byte_words.specs.ByteMap.{Bytes, with_bytes}
use Rattle.byte_words.specs.Patches.{laid}
use Rattle.byte_words.proofs.Laid.{length-laid, laid_before, laid_inside, laid_past}
use Rattle.byte_words.proofs.ByteArrays.{byte_of-laid}
use Rattle.page_runs.specs.Pages.{in_run}
use Rattle.nommu_regions.specs.Regions.{AreFree}
use Rattle.nommu_regions.proofs.Held.{held_by}
use Rattle.mmap_rules.specs.declared.mapping.Mapping.{Mapping}
use Rattle.mmap_rules.specs.Space.{memory_base, in_range, own_in}
use Rattle.mmap_rules.specs.Held.{Held, page_address}
use Rattle.region_watch.specs.Private.{only, physical}
use Rattle.kept_parts.specs.Kept.{Kept}
use Rattle.kept_parts.specs.Regular.{Regular}
use Rattle.kept_parts.specs.Stands.{private_bytes}
use Rattle.call_bytes.proofs.Places.{any_at}
use Rattle.kept_parts.proofs.Common.SpacesApart.{page_of, page_there, has_held}

-- ---- bytes in a map

-- beside the range
abbrev pub Beside : ℕ → ℕ → ℕ → Type 0
Beside at len a = (a < at) ⊎ (at + len ≤ a)

pub with_inside : (x y : Bytes) (at : ℕ) (bytes : List ℕ) (a : ℕ) → at ≤ a → a < at + length bytes → with_bytes x at bytes a ≡ with_bytes y at bytes a
with_inside x y at [] a low high = absurd (omega (arith, low, high))
with_inside x y at (b ∷ bytes) a low high = elim (cases_lt at a) [
  | inl later ↦ ap (λ (v : Option ℕ). if a == at then Some b else v) (with_inside x y (at + 1) bytes a (omega (arith, later)) (omega (arith, high)))
  | inr here ↦
      let same : (a == at) ≡ true = grind (arith, nat_tests, low, here) in
      ap (λ (t : Bool). if t then Some b else with_bytes x (at + 1) bytes a) same
      ∙ sym (ap (λ (t : Bool). if t then Some b else with_bytes y (at + 1) bytes a) same)
]

pub with_beside : (x : Bytes) (at : ℕ) (bytes : List ℕ) (a : ℕ) → Beside at (length bytes) a → with_bytes x at bytes a ≡ x a
with_beside x at [] a beside = refl
with_beside x at (b ∷ bytes) a beside =
    let other : (a == at) ≡ false = elim beside [
      | inl low ↦ grind (arith, nat_tests, low)
      | inr high ↦ (let past : at < a = omega (arith, high) in grind (arith, nat_tests, past))
    ] in
    let next : Beside (at + 1) (length bytes) a = elim beside [
      | inl low ↦ inl (omega (arith, low))
      | inr high ↦ inr (omega (arith, high))
    ] in
    ap (λ (t : Bool). if t then Some b else with_bytes x (at + 1) bytes a) other ∙ with_beside x (at + 1) bytes a next

-- ---- a space with one mapping more

if_inside : (own : Bool) (x : Option ℕ) → (if own || (true || false) then x else None) ≡ x
if_inside true x = refl
if_inside false x = refl

if_beside : (own : Bool) (x : Option ℕ) → (if own || (false || false) then x else None) ≡ (if own then x else None)
if_beside true x = refl
if_beside false x = refl

only_added : (maps : List Mapping) (m : Mapping) (mem : Bytes) (bytes : List ℕ) → length bytes ≡ m.range.size → (a : ℕ) →
    only (own_in (maps ++ m ∷ [])) (with_bytes mem m.range.from bytes) a ≡ with_bytes (only (own_in maps) mem) m.range.from bytes a
unfolding only own_in
only_added maps m mem bytes len a =
    let now : Option ℕ = with_bytes mem m.range.from bytes a in
    ap (λ (t : Bool). if t then now else None) (list_any-append (λ (n : Mapping). in_range n.range a) maps (m ∷ []))
    ∙ by_range (own_in maps a) (in_range m.range a) refl
  where
    by_range : (own : Bool) (within : Bool) → in_range m.range a ≡ within →
        (if own_in maps a || (in_range m.range a || false) then with_bytes mem m.range.from bytes a else None)
        ≡ with_bytes (only (own_in maps) mem) m.range.from bytes a
    by_range own true is =
        let low : m.range.from ≤ a = grind (arith, nat_tests, is) in
        let high : a < m.range.from + m.range.size = grind (arith, nat_tests, is) in
        ap (λ (t : Bool). if own_in maps a || (t || false) then with_bytes mem m.range.from bytes a else None) is
        ∙ if_inside (own_in maps a) (with_bytes mem m.range.from bytes a)
        ∙ with_inside mem (only (own_in maps) mem) m.range.from bytes a low (omega (arith, high, len))
    by_range own false is =
        let beside : Beside m.range.from (length bytes) a = elim (cases_lt a m.range.from) [
          | inl low ↦ inl low
          | inr from ↦ (let past : m.range.from + m.range.size ≤ a = grind (arith, nat_tests, is, from) in inr (omega (arith, past, len)))
        ] in
        ap (λ (t : Bool). if own_in maps a || (t || false) then with_bytes mem m.range.from bytes a else None) is
        ∙ if_beside (own_in maps a) (with_bytes mem m.range.from bytes a)
        ∙ ap (λ (v : Option ℕ). if own_in maps a then v else None) (with_beside mem m.range.from bytes a beside)
        ∙ sym (with_beside (only (own_in maps) mem) m.range.from bytes a beside)

-- bytes laid where its range begins
pub added : (mem : List ℕ) (h : Held) (m : Mapping) (page : ℕ) (bytes : List ℕ) → m.range.from ≡ page_address page → length bytes ≡ m.range.size →
    4096 * page + length bytes ≤ length mem →
    private_bytes (laid mem (4096 * page) bytes) (record h { maps = h.maps ++ m ∷ [] }) ≡ with_bytes (private_bytes mem h) m.range.from bytes
unfolding private_bytes
added mem h m page bytes from len fits =
    ap (only (own_in (h.maps ++ m ∷ [])))
    (byte_of-laid memory_base mem (4096 * page) bytes fits ∙ ap (λ (at : ℕ). with_bytes (physical mem) at bytes) (sym from))
    ∙ (λ i a. only_added h.maps m (physical mem) bytes len a i)

-- ---- the other spaces

kept : (own : Bool) (x y : Option ℕ) → (own ≡ true → x ≡ y) → (if own then x else None) ≡ (if own then y else None)
kept true x y same = same refl
kept false x y same = refl

module _ (k : Kept) (regular : Regular k) (page count : ℕ) (free : AreFree k.regions page count) where
  -- no byte of a live space lies in pages that are free
  beside_free : (j : ℕ) (o : Held) → slice_get k.spaces j ≡ Some (Some o) → (a : ℕ) → own_in o.maps a ≡ true →
      Beside (page_address page) (4096 * count) a
  unfolding own_in
  beside_free j o is a own =
      let m = any_at (λ (m : Mapping). in_range m.range a) o.maps own in
      let names = regular.names j m.place o m.item is m.there in
      let has = page_there k.regions m.item a names m.passes in
      let held = held_by k.regions m.item.first names.region (page_of a) names.there (has_held k regular j m.place o m.item (page_of a) is m.there names has) in
      elim (cases_lt a (page_address page)) [
        | inl low ↦ inl low
        | inr from ↦ (elim (cases_lt a (page_address page + 4096 * count)) [
          | inl within ↦ (
              let first : page ≤ page_of a = omega (arith, from) in
              let last : page_of a < page + count = omega (arith, from, within) in
              let run : in_run page count (page_of a) ≡ true = grind (arith, nat_tests, first, last) in
              absurd (false≢true (sym (free.free (page_of a) run) ∙ held)))
          | inr past ↦ inr past
        ])
      ]

  pub others_beside : (bytes : List ℕ) → length bytes ≡ 4096 * count → 4096 * page + length bytes ≤ length k.mem → (j : ℕ) (o : Held) →
      slice_get k.spaces j ≡ Some (Some o) → private_bytes (laid k.mem (4096 * page) bytes) o ≡ private_bytes k.mem o
  unfolding private_bytes only
  others_beside bytes len fits j o is =
      λ i a. kept (own_in o.maps a) (physical (laid k.mem (4096 * page) bytes) a) (physical k.mem a)
      (λ own. ap (λ (f : Bytes). f a) (byte_of-laid memory_base k.mem (4096 * page) bytes fits)
      ∙ with_beside (physical k.mem) (page_address page) bytes a
      (subst (λ (n : ℕ). Beside (page_address page) n a) (sym len) (beside_free j o is a own))) i

-- ---- bytes that stood there already

pub laid_same : (mem : List ℕ) (at : ℕ) (bytes : List ℕ) → at + length bytes ≤ length mem →
    ((i : ℕ) → i < length bytes → get_or bytes i 0 ≡ get_or mem (at + i) 0) → laid mem at bytes ≡ mem
laid_same mem at bytes fits same = same_number_lists (laid mem at bytes) mem (length-laid mem at bytes fits) (λ i _. byte i)
  where
    byte : (i : ℕ) → get_or (laid mem at bytes) i 0 ≡ get_or mem i 0
    byte i = elim (cases_lt i at) [
      | inl low ↦ laid_before mem at bytes fits i low
      | inr from ↦ (elim (cases_lt i (at + length bytes)) [
        | inl within ↦
            laid_inside mem at bytes fits i from within ∙ same (i - at) (omega (arith, from, within))
            ∙ ap (λ (n : ℕ). get_or mem n 0) (let e : at + (i - at) ≡ i = omega (arith, from) in e)
        | inr past ↦ laid_past mem at bytes fits i past
      ])
    ]
