-- What is known of an entry that a search has found.
use Rattle.std.proofs.Common.{◌≡◌, ℕ, ◌<◌, List, Bool, true, false, Option, None, Some, if◌then◌else◌, refl, ap, ◌∙◌}
use Rattle.std.specs.Option.{option_map}
use Rattle.std.proofs.lemmas.Bool.{and_parts, eqb-true}
use Rattle.elf32_reader.specs.Relas.{rela_count}
use Rattle.psabi_relocs.specs.declared.reloc.Reloc.{Reloc}
use Rattle.psabi_relocs.specs.declared.high.HighPart.{HighPart}
use Rattle.psabi_relocs.specs.declared.high.HighPart.TheVariants.{Distance, Slot}
use Rattle.psabi_relocs.specs.Row.{is_got_hi20, is_low}
use Rattle.psabi_relocs.specs.Reloc.{reloc, target_section}
use Rattle.psabi_relocs.specs.Bytes.{holds}
use Rattle.psabi_relocs.specs.Pair.{is_high_at, high_of, own_high, names, low_of}
use Rattle.psabi_relocs.specs.Slot.{slot_of}
use Rattle.psabi_relocs.specs.Field.{own_ends, slot_ends, high_ends, pair_ends, relative}
use Rattle.psabi_relocs.specs.Firsts.{high_part}
use Rattle.psabi_relocs.proofs.IndexSearches.{first_below_passes}

-- a low part that was found is an entry
pub low_of_below : (e : List ℕ) (i q j : ℕ) → low_of e i q ≡ Some j → j < rela_count e i
unfolding low_of
low_of_below e i q j found = (first_below_passes _ _ j found).0

-- the word of a low part that names an address is there
pub low_of_holds : (e : List ℕ) (i q j : ℕ) → low_of e i q ≡ Some j → holds (target_section e i) (reloc e i j).place 4 ≡ true
unfolding low_of names
low_of_holds e i q j found = (and_parts _ _ (first_below_passes _ _ j found).1).1

-- the distance of the low parts that name the address q, by what is kept of their high part
abbrev pub distance_by : List ℕ → ℕ → ℕ → Option HighPart → Option ℕ
distance_by e i q None = None
distance_by e i q (Some (Distance d)) = Some d
distance_by e i q (Some Slot) = option_map (λ g. relative 0 (slot_ends q g)) (slot_of e i q)

map-map : (q : ℕ) (o : Option ℕ) → option_map (λ g. relative 0 (slot_ends q g)) o ≡ option_map (relative 0) (option_map (slot_ends q) o)
map-map q None = refl
map-map q (Some g) = refl

distance_by_part : (e : List ℕ) (i q : ℕ) (r : Reloc) → r.place ≡ q → distance_by e i q (Some (high_part r)) ≡ option_map (relative 0) (high_ends e i r)
unfolding high_ends
distance_by_part e i q r at = by (is_got_hi20 r.row)
  where
    by : (b : Bool) → distance_by e i q (Some (if b then Slot else Distance (relative 0 (own_ends r))))
        ≡ option_map (relative 0) (if b then option_map (slot_ends r.place) (slot_of e i r.place) else Some (own_ends r))
    by true = rw at (map-map q (slot_of e i q))
    by false = refl

-- it is that of the high part itself
pub distance_of_pair : (e : List ℕ) (i q : ℕ) (o : Option ℕ) → high_of e i q ≡ o
    → distance_by e i q (option_map (λ j. high_part (reloc e i j)) o) ≡ option_map (relative 0) (pair_ends e i o)
unfolding high_of is_high_at
distance_of_pair e i q None found = refl
distance_of_pair e i q (Some j) found = distance_by_part e i q (reloc e i j) (eqb-true _ _ (and_parts _ _ (first_below_passes _ _ j found).1).1)

-- the same by what is kept of the pair of a low part
pub pair_kept : (e : List ℕ) (i : ℕ) (r : Reloc) (h : Option HighPart) → is_low r.row ≡ true → h ≡ option_map (λ j. high_part (reloc e i j)) (own_high e i r)
    → distance_by e i r.value h ≡ option_map (relative 0) (pair_ends e i (high_of e i r.value))
pair_kept e i r h low is =
    let own : own_high e i r ≡ high_of e i r.value = rw low refl in
    ap (distance_by e i r.value) (is ∙ ap (option_map (λ j. high_part (reloc e i j))) own) ∙ distance_of_pair e i r.value (high_of e i r.value) refl
