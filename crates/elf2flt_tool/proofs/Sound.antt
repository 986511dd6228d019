-- What a relocation without a fault is known to be, and that the distance at an accepted entry stays the same.
use Rattle.std.proofs.Common.{if◌then◌else◌, ◌≡◌, ℕ, zero, suc, ◌<◌, inl, inr, Bool, true, false, ◌&&◌, ◌||◌, nat_eq, List, [], ◌∷◌, Option, Some, None, refl, sym, ap, ◌∙◌, arith}
use Rattle.std.specs.List.{AllByRecursion as Each}
use Rattle.std.specs.Option.{option_map, option_or}
use Rattle.std.proofs.lemmas.Bool.{cases_Bool, and_parts}
use Rattle.elf32_reader.specs.Relas.{rela_count}
use Rattle.byte_words.specs.Search.{first}
use Rattle.psabi_relocs.specs.declared.fault.RelocFault.{RelocFault}
use Rattle.psabi_relocs.specs.declared.fault.RelocFault.TheVariants as faults
use Rattle.psabi_relocs.specs.declared.class.Class.{Class}
use Rattle.psabi_relocs.specs.declared.class.Class.TheVariants.{Moves, Fixed, Weak, Undefined, Bad}
use Rattle.psabi_relocs.specs.declared.reloc.Reloc.{Reloc}
use Rattle.psabi_relocs.specs.declared.row.Row.{Row}
use Rattle.psabi_relocs.specs.declared.row.Row.TheVariants.{Mark, Absolute, Relative, Call, GotHi20, Low}
use Rattle.psabi_relocs.specs.Search.{first_below}
use Rattle.psabi_relocs.specs.Class.{is_moving}
use Rattle.psabi_relocs.specs.Row.{is_unknown, is_mark, is_got_hi20, is_absolute, is_relative, is_high, is_low}
use Rattle.psabi_relocs.specs.Reloc.{reloc}
use Rattle.psabi_relocs.specs.Pair.{is_high_at, high_of}
use Rattle.psabi_relocs.specs.Slot.{slot_of}
use Rattle.psabi_relocs.specs.Field.{Ends, own_ends, slot_ends, high_ends, pair_ends, ends_of, is_mismatch}
use Rattle.psabi_relocs.specs.Fault.{is_bad, is_undefined, is_weak, is_fixed, is_place_outside, is_lone_low, is_unpaired, first_fault, reloc_fault}
use Rattle.elf2flt_tool.proofs.Raised.{IsSteady}

-- no row of the fault table holds
pub record IsSound (e : List ℕ) (i : ℕ) (r : Reloc) : Type 0 where
  pub bad : is_bad r.class ≡ false
  pub undefined : is_undefined r.class ≡ false
  pub place : is_place_outside e i r ≡ false
  pub absolute : (is_absolute r.row && is_moving r.class) ≡ false
  pub weak : (is_relative r.row && is_weak r.class) ≡ false
  pub fixed : (is_relative r.row && is_fixed r.class) ≡ false
  pub lone : is_lone_low e i r ≡ false
  pub unpaired : is_unpaired e i r ≡ false
  pub mismatch : is_mismatch e i r ≡ false

-- the rows of the fault table
abbrev rows : List ℕ → ℕ → Reloc → List (Bool × RelocFault)
rows e i r =
    (is_unknown r.row, faults.UnknownType)
    ∷ (is_bad r.class, faults.BadSymbol)
    ∷ (is_undefined r.class, faults.Undefined)
    ∷ (is_place_outside e i r, faults.PlaceOutside)
    ∷ (is_absolute r.row && is_moving r.class, faults.AbsoluteCode)
    ∷ (is_relative r.row && is_weak r.class, faults.WeakPcrel)
    ∷ (is_relative r.row && is_fixed r.class, faults.AbsPcrel)
    ∷ (is_lone_low e i r, faults.LoneLow)
    ∷ (is_unpaired e i r, faults.Unpaired)
    ∷ (is_mismatch e i r, faults.FieldMismatch)
    ∷ []

none_first : {F : Type 0} (rows : List (Bool × F)) → first rows ≡ None → Each (λ row. row.0 ≡ false) rows
none_first [] none = tt
none_first (row ∷ rows) none = elim (cases_Bool row.0) [
  | inl holds ↦ absurd (let some = rw holds at none in cc)
  | inr fails ↦ (fails, none_first rows (rw fails at none))
]

pub is_sound : (e : List ℕ) (i : ℕ) (r : Reloc) → first_fault e i r ≡ None → IsSound e i r
unfolding first_fault
is_sound e i r none =
    let all = none_first (rows e i r) none in
    let place = all.1.1.1 in
    let fixed = place.1.1.1 in
    record {
      bad = all.1.0;
      undefined = all.1.1.0;
      place = place.0;
      absolute = place.1.0;
      weak = place.1.1.0;
      fixed = fixed.0;
      lone = fixed.1.0;
      unpaired = fixed.1.1.0;
      mismatch = fixed.1.1.1.0;
    }

pub sound_entry : (e : List ℕ) (i j : ℕ) → reloc_fault e i j ≡ None → is_mark (reloc e i j).row ≡ false → IsSound e i (reloc e i j)
unfolding reloc_fault
sound_entry e i j none plain = is_sound e i (reloc e i j) (rw plain at none)

moving : (c : Class) → is_bad c ≡ false → is_undefined c ≡ false → is_weak c ≡ false → is_fixed c ≡ false → is_moving c ≡ true
moving Moves bad undefined weak fixed = refl
moving Fixed bad undefined weak fixed = absurd (cc)
moving Weak bad undefined weak fixed = absurd (cc)
moving Undefined bad undefined weak fixed = absurd (cc)
moving Bad bad undefined weak fixed = absurd (cc)

-- the symbol of a distance moves
pub relative_moves : (e : List ℕ) (i : ℕ) (r : Reloc) → IsSound e i r → is_relative r.row ≡ true → is_moving r.class ≡ true
relative_moves e i r sound is = moving r.class sound.bad sound.undefined (rw is at sound.weak) (rw is at sound.fixed)

pub record Found (p : ℕ → Bool) (n j : ℕ) : Type 0 where
  pub below : j < n
  pub passes : p j ≡ true

found_more : (p : ℕ → Bool) (n j : ℕ) (earlier : Option ℕ) (b : Bool) → ((k : ℕ) → earlier ≡ Some k → Found p n k) → (b ≡ p n)
    → option_or earlier (if b then Some n else None) ≡ Some j → Found p (suc n) j
found_more p n j (Some k) b before is some =
    let found = before k refl in
    let same : k ≡ j = cc in
    let low = found.below in
    record { below = omega arith; passes = ap p (sym same) ∙ found.passes }
found_more p n j None true before is some = let same : n ≡ j = cc in record { below = omega arith; passes = ap p (sym same) ∙ sym is }
found_more p n j None false before is some = absurd (cc)

-- what the first index is
pub found : (p : ℕ → Bool) (n j : ℕ) → first_below p n ≡ Some j → Found p n j
unfolding first_below
found p zero j some = absurd (cc)
found p (suc n) j some = found_more p n j (first_below p n) (p n) (λ k is. found p n k is) refl some

pub record Mapped {X Y : Type 0} (f : X → Y) (x : Option X) (y : Y) : Type 0 where
  pub from : X
  pub is : x ≡ Some from
  pub to : f from ≡ y

pub mapped : {X Y : Type 0} (f : X → Y) (x : Option X) (y : Y) → option_map f x ≡ Some y → Mapped f x y
mapped f None y some = absurd (cc)
mapped f (Some a) y some = record { from = a; is = refl; to = cc }

-- G and P move together, and so do a moving S and P
pub high_moves : (e : List ℕ) (i : ℕ) (r : Reloc) (o : Ends) → (is_got_hi20 r.row ≡ false → is_moving r.class ≡ true) → high_ends e i r ≡ Some o → o.moves ≡ true
unfolding high_ends
high_moves e i r o moves some = elim (cases_Bool (is_got_hi20 r.row)) [
  | inl is ↦ let m = mapped (slot_ends r.place) (slot_of e i r.place) o (rw is at some) in ap (λ o. o.moves) (sym m.to)
  | inr other ↦ let own : own_ends r ≡ o = (let s = rw other at some in cc) in ap (λ o. o.moves) (sym own) ∙ moves other
]

high_or_got : (row : Row) → is_high row ≡ true → is_got_hi20 row ≡ false → is_relative row ≡ true
high_or_got GotHi20 high plain = absurd (cc)
high_or_got (Relative shape) high plain = refl
high_or_got _ high plain = absurd (cc)

high_no_mark : (row : Row) → is_high row ≡ true → is_mark row ≡ false
high_no_mark Mark high = absurd (cc)
high_no_mark _ high = refl

is_high_row : (q : ℕ) (r : Reloc) → is_high_at q r ≡ true → is_high r.row ≡ true
unfolding is_high_at
is_high_row q r is = (and_parts (is_high r.row) (nat_eq r.place q) is).0

-- no entry of section i has a fault
abbrev pub AllSound : List ℕ → ℕ → Type 0
AllSound e i = (j : ℕ) → j < rela_count e i → reloc_fault e i j ≡ None

high_row_moves : (e : List ℕ) (i j : ℕ) (o : Ends) → reloc_fault e i j ≡ None → is_high (reloc e i j).row ≡ true → high_ends e i (reloc e i j) ≡ Some o → o.moves ≡ true
high_row_moves e i j o none high some =
    high_moves e i (reloc e i j) o (λ plain. relative_moves e i (reloc e i j) (sound_entry e i j none (high_no_mark _ high)) (high_or_got _ high plain)) some

pair_moves : (e : List ℕ) (i q : ℕ) (o : Ends) → AllSound e i → (pair : Option ℕ) → high_of e i q ≡ pair → pair_ends e i pair ≡ Some o → o.moves ≡ true
unfolding high_of
pair_moves e i q o all None is some = absurd (cc)
pair_moves e i q o all (Some j) is some =
    let high = found (λ j. is_high_at q (reloc e i j)) (rela_count e i) j is in
    high_row_moves e i j o (all j high.below) (is_high_row q (reloc e i j) high.passes) some

-- which rows compute a distance
abbrev pub has_distance : Row → Bool
has_distance row = is_relative row || is_got_hi20 row || is_low row

distance_row : (row : Row) → has_distance row ≡ true → is_low row ≡ false → is_got_hi20 row ≡ false → is_relative row ≡ true
distance_row (Relative shape) d low got = refl
distance_row Call d low got = refl
distance_row _ d low got = absurd (cc)

-- the distance of an accepted entry is between what moves together
pub ends_move : (e : List ℕ) (i : ℕ) (r : Reloc) (o : Ends) → AllSound e i → IsSound e i r → has_distance r.row ≡ true → ends_of e i r ≡ Some o → o.moves ≡ true
unfolding ends_of
ends_move e i r o all sound distance some = elim (cases_Bool (is_low r.row)) [
  | inl low ↦ pair_moves e i r.value o all (high_of e i r.value) refl (rw low at some)
  | inr other ↦ high_moves e i r o (λ plain. relative_moves e i r sound (distance_row r.row distance other plain)) (rw other at some)
]

pub steady : (row : Row) (r : Reloc) (o : Ends) → (is_absolute row && is_moving r.class) ≡ false → (has_distance row ≡ true → o.moves ≡ true) → IsSteady row r o
steady (Absolute shape) r o still moves = still
steady (Relative shape) r o still moves = moves refl
steady Call r o still moves = moves refl
steady GotHi20 r o still moves = moves refl
steady (Low shape) r o still moves = moves refl
steady _ r o still moves = tt
