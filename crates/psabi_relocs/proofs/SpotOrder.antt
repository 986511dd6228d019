-- What the numbers of spots say.
use Rattle.std.proofs.Common.{◌≡◌, ℕ, ◌+◌, ◌^◌, ◌<◌, ◌≤◌, ◌==◌, nat_lt, Bool, true, ◌&&◌, ◌||◌, inl, inr, arith}
use Rattle.std.proofs.lemmas.Bool.{or_cases, or_left, or_right, and_parts, and_from, cases_lt, ltb-true, lt-ltb, eqb-true, eq-eqb}
use Rattle.psabi_relocs.specs.declared.around.Spot.{Spot}
use Rattle.psabi_relocs.specs.Spots.{place_order, order_of}

-- the numbers of a spot that is one of a file's
pub record FitsSpot (s : Spot) : Type 0 where
  pub value : s.value < 2 ^ 32
  pub kind : s.kind < 4
  pub index : s.index < 2 ^ 32

-- r is told rather than s
abbrev is_later : Spot → Spot → Bool
is_later r s = s.kind == r.kind && nat_lt r.index s.index

abbrev is_greater : Spot → Spot → Bool
is_greater r s = nat_lt s.kind r.kind || is_later r s

abbrev pub is_nearer_spot : Spot → Spot → Bool
is_nearer_spot r s = nat_lt s.value r.value || (s.value == r.value && is_greater r s)

pub under_place : (s : Spot) (x p : ℕ) → FitsSpot s → s.section ≡ x → s.value ≤ p → order_of s < place_order x (p + 1)
under_place s x p fits here low = let k = fits.kind in let i = fits.index in omega arith

pub section_under : (s : Spot) (x p : ℕ) → p < 2 ^ 32 → order_of s < place_order x (p + 1) → s.section ≤ x
section_under s x p small under = omega arith

pub value_under : (s : Spot) (x p : ℕ) → s.section ≡ x → order_of s < place_order x (p + 1) → s.value ≤ p
value_under s x p here under = omega arith

pub section_apart : (s r : Spot) → FitsSpot s → s.section < r.section → order_of s < order_of r
section_apart s r fits less = let v = fits.value in let k = fits.kind in let i = fits.index in omega arith

-- which is told goes by these numbers
pub nearer_above : (s r : Spot) → FitsSpot s → FitsSpot r → s.section ≡ r.section → is_nearer_spot r s ≡ true → order_of s < order_of r
nearer_above s r fits other same is =
    let v = fits.value in let k = fits.kind in let i = fits.index in
    let w = other.value in let l = other.kind in let j = other.index in
    elim (or_cases (nat_lt s.value r.value) (s.value == r.value && is_greater r s) is) [
      | inl value ↦ (let less = ltb-true s.value r.value value in omega arith)
      | inr rest ↦ (
          let parts = and_parts (s.value == r.value) (is_greater r s) rest in
          let equal = eqb-true s.value r.value parts.0 in
          elim (or_cases (nat_lt s.kind r.kind) (is_later r s) parts.1) [
            | inl kind ↦ (let less = ltb-true s.kind r.kind kind in omega arith)
            | inr last ↦ (
                let both = and_parts (s.kind == r.kind) (nat_lt r.index s.index) last in
                let alike = eqb-true s.kind r.kind both.0 in
                let less = ltb-true r.index s.index both.1 in
                omega arith)
          ])
    ]

pub above_nearer : (s r : Spot) → FitsSpot s → FitsSpot r → s.section ≡ r.section → order_of s < order_of r → is_nearer_spot r s ≡ true
above_nearer s r fits other same above =
    let v = fits.value in let k = fits.kind in let i = fits.index in
    let w = other.value in let l = other.kind in let j = other.index in
    elim (cases_lt s.value r.value) [
      | inl less ↦ or_left _ _ (lt-ltb _ _ less)
      | inr more ↦ (
          let equal : s.value ≡ r.value = omega arith in
          or_right _ _ (and_from _ _ (eq-eqb _ _ equal) (elim (cases_lt s.kind r.kind) [
            | inl less ↦ or_left _ _ (lt-ltb _ _ less)
            | inr most ↦ (
                let alike : s.kind ≡ r.kind = omega arith in
                or_right _ _ (and_from _ _ (eq-eqb _ _ alike) (lt-ltb _ _ (omega arith))))
          ])))
    ]

-- and two spots of one section with one number are of one symbol
pub same_index : (s r : Spot) → FitsSpot s → FitsSpot r → order_of s ≡ order_of r → s.index ≡ r.index
same_index s r fits other same =
    let v = fits.value in let k = fits.kind in let i = fits.index in
    let w = other.value in let l = other.kind in let j = other.index in
    omega arith
