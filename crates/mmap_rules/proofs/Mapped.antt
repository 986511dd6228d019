-- Mappings of a list that changes: each is one, and how many places they may need.
use Rattle.std.proofs.Common.{◌≡◌, ℕ, suc, ◌+◌, ◌<◌, ◌≤◌, inl, inr, Bool, true, List, [], ◌∷◌, ◌++◌, length, take, drop, Some, refl, subst, arith}
use Rattle.std.specs.Prelude.{slice_get}
use Rattle.std.specs.List.{remove, sum_by}
use Rattle.std.proofs.lemmas.Bool.{cases_Bool, false≢true}
use Rattle.std.proofs.lemmas.Option.{none-some}
use Rattle.std.proofs.lemmas.List.Sums.{sum_by-cons, sum_by_push}
use Rattle.nommu_regions.specs.declared.region.Source.{Source}
use Rattle.nommu_regions.specs.declared.region.Source.TheVariants.{Own}
use Rattle.mmap_rules.specs.declared.mapping.Mapping.{Mapping}
use Rattle.mmap_rules.specs.Held.{IsMapping, AreMappings, places_of, block_mapping}
use Rattle.mmap_rules.specs.Mappings.{run_mapping, part_mapping}
use Rattle.mmap_rules.proofs.Lists.{each_one, each_append, each_cut, sum_cut}
use Rattle.mmap_rules.proofs.TableLess.{is_removed}

-- ---- one mapping

-- a program's block
pub block_is : (pages first count : ℕ) → 0 < count → first + count ≤ pages → IsMapping pages (block_mapping first count)
block_is pages first count some inside = record {
  shaped = record { some = omega arith; above = omega arith; inside = omega arith; whole = omega arith };
  from = omega arith;
  to = omega arith;
  writes = λ asked. refl;
  copied = λ copy. absurd (false≢true copy);
  whole = λ anonymous. absurd (false≢true anonymous);
}

-- all of a run
pub run_is : (pages first count : ℕ) (writes anonymous : Bool) (source : Source) → 0 < count → first + count ≤ pages → (writes ≡ true → source ≡ Own) → (anonymous ≡ true → source ≡ Own)
    → IsMapping pages (run_mapping first count writes anonymous source)
run_is pages first count writes anonymous source some inside written whole = record {
  shaped = record { some = omega arith; above = omega arith; inside = omega arith; whole = omega arith };
  from = omega arith;
  to = omega arith;
  writes = written;
  copied = λ copy. omega arith;
  whole = λ is. (whole is, refl, refl);
}

-- pages of a copy
pub part_is : (pages first held skip count : ℕ) (source : Source) → 0 < count → skip + count ≤ held → first + held ≤ pages
    → IsMapping pages (part_mapping first held source skip count)
part_is pages first held skip count source some less inside = record {
  shaped = record { some = omega arith; above = omega arith; inside = omega arith; whole = omega arith };
  from = omega arith;
  to = omega arith;
  writes = λ is. absurd (false≢true is);
  copied = λ copy. omega arith;
  whole = λ is. absurd (false≢true is);
}

-- ---- a list of mappings

pub mapped_one : (pages : ℕ) (m : Mapping) → IsMapping pages m → AreMappings pages (m ∷ [])
mapped_one pages m is = each_one (IsMapping pages) m is

pub mapped_more : (pages : ℕ) (maps : List Mapping) (m : Mapping) → AreMappings pages maps → IsMapping pages m → AreMappings pages (maps ++ m ∷ [])
mapped_more pages maps m are is = each_append (IsMapping pages) maps (m ∷ []) are (each_one (IsMapping pages) m is)

pub mapped_cut : (pages : ℕ) (maps left : List Mapping) (k : ℕ) → AreMappings pages maps → AreMappings pages left → AreMappings pages (take k maps ++ left ++ drop (k + 1) maps)
mapped_cut pages maps left k are parts = each_cut (IsMapping pages) k maps left are parts

pub mapped_less : (pages : ℕ) (maps : List Mapping) (k : ℕ) → AreMappings pages maps → AreMappings pages (remove maps k)
mapped_less pages maps k are = subst (AreMappings pages) (is_removed maps k) (mapped_cut pages maps [] k are (λ j m is. absurd (none-some m is)))

-- ---- places

-- a mapping has a page, and so a place
pub place_at_least : (pages : ℕ) (m : Mapping) → IsMapping pages m → 1 ≤ places_of m
place_at_least pages m is =
    elim (cases_Bool m.range.anonymous) [
      | inl whole ↦ (
          let size = (is.whole whole).2 in
          let some = is.shaped.some in
          let least : 1 ≤ m.pages = omega (arith, size, some) in
          rw whole least)
      | inr other ↦ rw other (omega arith)
    ]

pub places_at_least : (pages : ℕ) (maps : List Mapping) → AreMappings pages maps → length maps ≤ sum_by places_of maps
places_at_least pages [] are = omega arith
places_at_least pages (m ∷ maps) are =
    let one = place_at_least pages m (are 0 m refl) in
    let rest = places_at_least pages maps (λ j. are (suc j)) in
    let sum = sum_by-cons places_of m maps in
    omega (arith, one, rest, sum)

pub places_more : (maps : List Mapping) (m : Mapping) → sum_by places_of (maps ++ m ∷ []) ≡ sum_by places_of maps + places_of m
places_more maps m = sum_by_push places_of maps m

pub places_cut : (maps left : List Mapping) (k : ℕ) (m : Mapping) → slice_get maps k ≡ Some m → sum_by places_of left ≤ places_of m
    → sum_by places_of (take k maps ++ left ++ drop (k + 1) maps) ≤ sum_by places_of maps
places_cut maps left k m at_k less = let cut = sum_cut places_of k maps left m at_k in omega (arith, cut, less)

pub places_less : (maps : List Mapping) (k : ℕ) (m : Mapping) → slice_get maps k ≡ Some m → sum_by places_of (remove maps k) ≤ sum_by places_of maps
places_less maps k m at_k = subst (λ (ms : List Mapping). sum_by places_of ms ≤ sum_by places_of maps) (is_removed maps k) (places_cut maps [] k m at_k (omega arith))
