-- What a cut needs, and the list in which what is left of a mapping stands in its place.
use Rattle.std.proofs.Common.{◌≡◌, ℕ, zero, suc, ◌+◌, ◌*◌, ◌%◌, ◌^◌, ◌<◌, ◌≤◌, Bool, true, List, [], ◌∷◌, ◌++◌, length, take, drop, Some, refl, sym, ap, ◌∙◌, arith, add-one, append_assoc, length-append, get_or}
use Rattle.std.specs.Prelude.{slice_get}
use Rattle.std.specs.List.{remove, sum_by}
use Rattle.std.proofs.lemmas.Option.{slice_get_read}
use Rattle.mmap_rules.specs.declared.mapping.Mapping.{Mapping}
use Rattle.mmap_rules.specs.Owners.{IsShaped}
use Rattle.mmap_rules.specs.Held.{AreMappings, places_of}
use Rattle.mmap_rules.specs.Mappings.{can_lose, part_of, left_of}
use Rattle.mmap_rules.proofs.Mapped.{mapped_cut, places_at_least, places_cut}
use Rattle.mmap_rules.proofs.Parts.{Cuts, both, left_mapped, left_places}

-- ---- the list

take_front : {X : Type 0} (k : ℕ) (xs b d : List X) → k ≤ length xs → take k (take k xs ++ b ++ d) ≡ take k xs
take_front zero xs b d within = refl
take_front (suc k) [] b d within = absurd (omega arith)
take_front {X} (suc k) (x ∷ xs) b d within = ap (λ (ys : List X). x ∷ ys) (take_front k xs b d (omega arith))

drop_front : {X : Type 0} (k : ℕ) (xs b d : List X) → k ≤ length xs → drop k (take k xs ++ b ++ d) ≡ b ++ d
drop_front zero xs b d within = refl
drop_front (suc k) [] b d within = absurd (omega arith)
drop_front (suc k) (x ∷ xs) b d within = drop_front k xs b d (omega arith)

take_removed : {X : Type 0} (k : ℕ) (xs : List X) → take k (remove xs k) ≡ take k xs
take_removed zero xs = refl
take_removed (suc k) [] = refl
take_removed {X} (suc k) (x ∷ xs) = ap (λ (ys : List X). x ∷ ys) (take_removed k xs)

drop_removed : {X : Type 0} (k : ℕ) (xs : List X) → drop k (remove xs k) ≡ drop (suc k) xs
drop_removed zero xs = refl
drop_removed (suc k) [] = refl
drop_removed (suc k) (x ∷ xs) = drop_removed k xs

pub removed_length : {X : Type 0} (k : ℕ) (xs : List X) → k < length xs → length (remove xs k) + 1 ≡ length xs
removed_length k [] within = absurd (omega arith)
removed_length zero (x ∷ xs) within = omega arith
removed_length (suc k) (x ∷ xs) within = let rest = removed_length k xs (omega arith) in omega (arith, rest)

pub inserted : {X : Type 0} (k : ℕ) (xs part : List X) → length (take k xs ++ part ++ drop k xs) ≡ length xs + length part
inserted k xs part = omega (arith, length-append (take k xs ++ part) (drop k xs), length-append (take k xs) part, whole k xs)
  where
    whole : {X : Type 0} (k : ℕ) (xs : List X) → length (take k xs) + length (drop k xs) ≡ length xs
    whole zero xs = omega arith
    whole (suc k) [] = omega arith
    whole (suc k) (x ∷ xs) = let rest = whole k xs in omega (arith, rest)

-- two parts come to the place of an item that went, the later one first
pub two_parts : {X : Type 0} (k : ℕ) (xs ys zs front back : List X) → k < length xs
    → ys ≡ take k (remove xs k) ++ back ++ drop k (remove xs k)
    → zs ≡ take k ys ++ front ++ drop k ys
    → zs ≡ take k xs ++ (front ++ back) ++ drop (k + 1) xs
two_parts {X} k xs ys zs front back within is_ys is_zs =
    let some : k ≤ length (remove xs k) = omega (arith, removed_length k xs within) in
    let first : take k ys ≡ take k xs = ap (take k) is_ys ∙ (take_front k (remove xs k) back (drop k (remove xs k)) some ∙ take_removed k xs) in
    let rest : drop k ys ≡ back ++ drop (k + 1) xs = ap (drop k) is_ys ∙ (drop_front k (remove xs k) back (drop k (remove xs k)) some
    ∙ ap (λ (l : List X). back ++ l) (drop_removed k xs ∙ ap (λ n. drop n xs) (sym (add-one k)))) in
    is_zs ∙ (ap (λ (l : List X). l ++ front ++ drop k ys) first ∙ (ap (λ (l : List X). take k xs ++ front ++ l) rest ∙ joined (take k xs) front back (drop (k + 1) xs)))
  where
    joined : {X : Type 0} (a b c d : List X) → a ++ b ++ (c ++ d) ≡ a ++ (b ++ c) ++ d
    joined {X} a b c d = sym (append_assoc (a ++ b) c d) ∙ ap (λ (l : List X). l ++ d) (append_assoc a b c)

-- ---- the mapping that is cut

pub cuts : (pages : ℕ) (maps : List Mapping) (k : ℕ) (m : Mapping) (addr n : ℕ) → AreMappings pages maps → slice_get maps k ≡ Some m
    → addr % 4096 ≡ 0 → 0 < n → can_lose addr (4096 * n) m ≡ true → Cuts pages m addr (4096 * n)
cuts pages maps k m addr n are there begins some can = record {
  mapping = are k m there;
  can = can;
  begins = begins;
  some = omega (arith, some);
  whole = omega arith;
}

-- the range that goes
pub cut_shaped : (pages : ℕ) (m : Mapping) (addr n : ℕ) (writes anonymous : Bool) → Cuts pages m addr (4096 * n)
    → IsShaped pages (record { from = addr; size = 4096 * n; writes = writes; anonymous = anonymous })
cut_shaped pages m addr n writes anonymous c =
    let b = both pages m addr (4096 * n) c in
    let low = b.before.above in
    let up = b.before.up in
    let high = b.behind.up in
    let inside = b.behind.inside in
    let begins = c.begins in
    let some = c.some in
    record { some = some; above = omega arith; inside = omega arith; whole = omega arith }

-- where the parts stand, in numbers
pub record Stand (pages : ℕ) (m : Mapping) (addr size : ℕ) : Type 0 where
  pub above : 2 ^ 31 ≤ m.range.from
  pub before : m.range.from ≤ addr
  pub behind : addr + size ≤ m.range.from + m.range.size
  pub inside : m.range.from + m.range.size ≤ 2 ^ 31 + 4096 * pages

pub stand : (pages : ℕ) (m : Mapping) (addr size : ℕ) → Cuts pages m addr size → Stand pages m addr size
stand pages m addr size c =
    let b = both pages m addr size c in
    record { above = b.before.above; before = b.before.up; behind = b.behind.up; inside = b.behind.inside }

-- the list has room for both parts, which need no more places than the mapping
pub room_for_parts : (pages : ℕ) (maps : List Mapping) (k : ℕ) (m : Mapping) (addr size : ℕ) → AreMappings pages maps → slice_get maps k ≡ Some m → Cuts pages m addr size
    → length (remove maps k) + (length (part_of m m.range.from addr) + length (part_of m (addr + size) (m.range.from + m.range.size))) ≤ sum_by places_of maps
room_for_parts pages maps k m addr size are there c =
    let left = left_of m addr size in
    let all = places_cut maps left k m there (left_places pages m addr size c) in
    let many = places_at_least pages (take k maps ++ left ++ drop (k + 1) maps) (mapped_cut pages maps left k are (left_mapped pages m addr size c)) in
    let first = length-append (take k maps ++ left) (drop (k + 1) maps) in
    let second = length-append (take k maps) left in
    let parts = length-append (part_of m m.range.from addr) (part_of m (addr + size) (m.range.from + m.range.size)) in
    let removed = length-append (take k maps) (drop (suc k) maps) in
    let same : length (drop (k + 1) maps) ≡ length (drop (suc k) maps) = ap (λ n. length (drop n maps)) (add-one k) in
    omega (arith, all, many, first, second, parts, removed, same)

-- the item that was taken off the list is such a mapping
pub record CutAt (pages : ℕ) (maps : List Mapping) (k : ℕ) (m : Mapping) (addr size : ℕ) : Type 0 where
  pub there : slice_get maps k ≡ Some m
  pub cuts : Cuts pages m addr size
  pub stand : Stand pages m addr size

pub cut_at : (pages : ℕ) (maps : List Mapping) (k : ℕ) (m : Mapping) (addr n : ℕ) → AreMappings pages maps → k < length maps → m ≡ get_or maps k m
    → addr % 4096 ≡ 0 → 0 < n → ((x : Mapping) → slice_get maps k ≡ Some x → can_lose addr (4096 * n) x ≡ true) → CutAt pages maps k m addr (4096 * n)
cut_at pages maps k m addr n are within value begins some can =
    let there : slice_get maps k ≡ Some m = slice_get_read maps (length maps) k m refl within value in
    let c = cuts pages maps k m addr n are there begins some (can m there) in
    record { there = there; cuts = c; stand = stand pages m addr (4096 * n) c }
