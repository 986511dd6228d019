-- What `map` chooses is what is mapped.
use Rattle.std.proofs.Common.{◌≡◌, ℕ, ◌+◌, ◌-◌, ◌*◌, ◌≤◌, Bool, true, false, List, replicate, refl, sym, ap, arith}
use Rattle.std.specs.Prelude.{Option, Some, None, slice_get, option_map}
use Rattle.std.proofs.lemmas.Bool.{false≢true}
use Rattle.std.proofs.lemmas.Bool.Decides.{nat_tests}
use Rattle.std.proofs.lemmas.Option.{none-some, same_Some}
use Rattle.page_runs.specs.declared.place.Kind.{Kind}
use Rattle.nommu_regions.specs.declared.region.Region.{Region}
use Rattle.nommu_regions.specs.declared.region.Source.{Source}
use Rattle.nommu_regions.specs.declared.region.Source.TheVariants.{Own, Copy}
use Rattle.nommu_regions.specs.Regions.{copy_of, copy_covers, covers, is_copy}
use Rattle.nommu_regions.specs.Ids.{Numbered, start_of}
use Rattle.mmap_rules.specs.declared.want.Want.{Want}
use Rattle.mmap_rules.specs.declared.want.Want.TheVariants.{Anon, File}
use Rattle.mmap_rules.specs.declared.pages.Part.{Part}
use Rattle.mmap_rules.specs.Mappings.{copied_from, filled, file_pages, CopyHas}
use Rattle.mmap_rules.specs.Chosen.{part_at, part_for, new_run, bytes_copied}
use Rattle.mmap_rules.specs.MapState.{MapState, in_fresh_run, in_copy, in_copy_or_new, mapped}

pub mapped_part : (s : MapState) (kind : Kind) (bytes : List ℕ) (want : Want) (p : Part) → part_for s.regions want ≡ Some p →
    mapped s kind bytes want ≡ in_copy s p.first p.pages (slice_get s.regions p.copy)
unfolding mapped
mapped_part s kind bytes (Anon pages) p is = absurd (none-some p is)
mapped_part s kind bytes (File pages first true id change) p is = absurd (none-some p is)
mapped_part s kind bytes (File pages first false id change) p is = at (copy_of s.regions id change first pages) is
  where
    at : (o : Option ℕ) → option_map (λ copy. record { copy = copy; first = first; pages = pages }) o ≡ Some p →
        in_copy_or_new s kind bytes pages first id change o ≡ in_copy s p.first p.pages (slice_get s.regions p.copy)
    at None none = absurd (none-some p none)
    at (Some copy) some = ap (λ (q : Part). in_copy s q.first q.pages (slice_get s.regions q.copy)) (same_Some _ _ some)

-- a copy that was found under an id
pub part_is : (rs : Numbered) (want : Want) (pages first : ℕ) (write : Bool) (id change copy : ℕ) → option_map (start_of rs) (Some copy) ≡ copy_of rs.regions id change first pages
    → want ≡ File pages first write id change → write ≡ false
    → Some (part_at rs (record { copy = copy; first = first; pages = pages })) ≡ part_for rs.regions want
part_is rs want pages first write id change copy lowest is reads =
    rw (is, reads) (ap (option_map {U = Part} (λ (found : ℕ). record { copy = found; first = first; pages = pages })) lowest)

pub mapped_new : (s : MapState) (kind : Kind) (bytes : List ℕ) (want : Want) → part_for s.regions want ≡ None →
    mapped s kind bytes want ≡ in_fresh_run s kind (new_run want).pages (new_run want).writes (new_run want).anonymous (new_run want).source
    (filled (4096 * (new_run want).pages) (bytes_copied bytes want))
unfolding mapped file_pages
mapped_new s kind bytes (Anon pages) is =
    ap (λ (n : ℕ). in_fresh_run s kind pages true true Own (replicate n 0)) (let whole : 4096 * pages ≡ 4096 * pages - 0 = omega arith in whole)
mapped_new s kind bytes (File pages first true id change) is = refl
mapped_new s kind bytes (File pages first false id change) is = at (copy_of s.regions id change first pages) is
  where
    at : (o : Option ℕ) → option_map {U = Part} (λ copy. record { copy = copy; first = first; pages = pages }) o ≡ None →
        in_copy_or_new s kind bytes pages first id change o ≡ in_fresh_run s kind pages false false (Copy id change first) (file_pages bytes first pages)
    at None none = refl
    at (Some copy) some = absurd (none-some _ (sym some))

-- a copy that is found has the pages
pub copy_has : (rs : List Region) (id file change first pages : ℕ) (r : Region) → slice_get rs id ≡ Some r → covers file change first pages r ≡ true →
    CopyHas rs id first pages
copy_has rs id file change first pages r there has = record {
  region = r;
  there = there;
  live = grind (arith, nat_tests);
  copy = by_source.0;
  from = by_source.1;
  to = by_source.2;
}
  where
    at : (s : Source) → copy_covers file change first pages s r.pages ≡ true →
        (is_copy s ≡ true) × (copied_from s ≤ first) × (first + pages ≤ copied_from s + r.pages)
    at Own never = absurd (false≢true never)
    at (Copy f c from) found = (refl, grind (arith, nat_tests), grind (arith, nat_tests))

    by_source : (is_copy r.source ≡ true) × (copied_from r.source ≤ first) × (first + pages ≤ copied_from r.source + r.pages)
    by_source = at r.source (grind (arith, nat_tests))
