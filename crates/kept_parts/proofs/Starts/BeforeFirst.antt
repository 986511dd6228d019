-- The parts before the first program.
use Rattle.std.proofs.Common.{◌≡◌, ℕ, zero, suc, ◌*◌, ◌≤◌, length, replicate, List, [], arith, refl, sym, ap, ◌∙◌}
use Rattle.std.proofs.lemmas.List.{length-replicate}
use Rattle.std.proofs.lemmas.Option.{same_Some, none-some}
use Rattle.std.specs.Prelude.{Some, slice_get, true}
use Rattle.std.proofs.lemmas.Bool.Decides.{nat_tests}
use Rattle.nommu_regions.specs.declared.region.Region.{Region}
use Rattle.nommu_regions.specs.declared.region.Source.TheVariants.{Own}
use Rattle.nommu_regions.specs.Regions.{holds, AreRegions}
use Rattle.mmap_rules.specs.declared.page_owner.PageOwner.{PageOwner}
use Rattle.vfork_exec.specs.Keyed.{find}
use Rattle.call_log.specs.Notes.{Note}
use Rattle.mem_files.specs.Inodes.{Inodes}
use Rattle.fd_tables.specs.Files.{OpenFiles}
use Rattle.kept_parts.specs.Kept.{Kept, nothing_yet}
use Rattle.machine_world.specs.Families.{sharing, IsChain}
use Rattle.machine_world.specs.Ages.{AreChanged, most_at_boot}
use Rattle.kept_parts.specs.Reach.{whole_table}
use Rattle.kept_parts.specs.Regular.{Regular, IsRegular}
use Rattle.kept_parts.proofs.Copies.BehindChanges.{copies_begin}

get-replicate : (n i : ℕ) (v r : Region) → slice_get (replicate n v) i ≡ Some r → r ≡ v
get-replicate zero i v r is = absurd (none-some r is)
get-replicate (suc n) zero v r is = sym (same_Some _ _ is)
get-replicate (suc n) (suc i) v r is = get-replicate n i v r is

no_use : (n i : ℕ) (v r : Region) → v.uses ≡ 0 → slice_get (replicate n v) i ≡ Some r → r.uses ≡ 0
no_use n i v r gone is = omega (arith, ap (λ (q : Region). q.uses) (get-replicate n i v r is))

no_page : (n i : ℕ) (v r : Region) (p : ℕ) → v.uses ≡ 0 → slice_get (replicate n v) i ≡ Some r → holds r p ≡ true → ⊥
no_page n i v r p gone is has = let uses = no_use n i v r gone is in grind (arith, nat_tests, uses)

no_regions : (n : ℕ) (v : Region) → v.uses ≡ 0 → AreRegions (replicate n v)
no_regions n v gone = record {
  begins = λ id r is live. absurd (omega (arith, no_use n id v r gone is));
  some = λ id r is live. absurd (omega (arith, no_use n id v r gone is));
  inside = λ id r is live. absurd (omega (arith, no_use n id v r gone is));
  apart = λ i j r s p is it has. absurd (no_page n i v r p gone is has);
}

-- no space has a process
no_chain : (i : ℕ) → IsChain (sharing i [])
unfolding sharing
no_chain i = tt

-- whatever stands in the log and on the console
begins_with : (pages : ℕ) (tree : Inodes) (files : OpenFiles) (keep : ℕ) (notes : List Note) (console : List ℕ) → 1 ≤ pages → pages ≤ 16384 →
    Regular (record (nothing_yet pages tree files keep) { notes = notes; console = console })
unfolding find
begins_with pages tree files keep notes console some most =
    let v : Region = record { first = 0; pages = 0; source = Own; uses = 0 } in
    let len : length (replicate pages v) ≡ pages = length-replicate pages v in
    let bytes = length-replicate {A = ℕ} (4096 * pages) 0 in
    record {
      memory = rw (len, bytes) refl;
      some = omega arith;
      most = omega arith;
      regions = no_regions pages v refl;
      uses = λ id r is. no_use pages id v r refl is;
      one_use = λ id r is own. omega (arith, no_use pages id v r refl is);
      names = λ i j h m there. absurd (none-some _ there);
      pages = λ i h there. absurd (none-some _ there);
      runs = λ pid e is. absurd (none-some _ is);
      chains = λ i. no_chain i;
      falls = tt;
      few = omega arith;
      pids = omega arith;
      loads = omega arith;
    }

pub sound_begins : (k : Kept) (pages : ℕ) (tree : Inodes) (files : OpenFiles) (keep : ℕ) → 1 ≤ pages → pages ≤ 16384 → AreChanged most_at_boot tree → k ≡ nothing_yet pages tree files keep → IsRegular k
sound_begins k pages tree files keep some most changed is =
    rw is (begins_with pages tree files keep [] [] some most, copies_begin pages (replicate (4096 * pages) 0) tree changed)

-- the table is of this memory
pub whole_begins : (pages : ℕ) (regions : List Region) (table : List PageOwner) → regions ≡ replicate pages (record { first = 0; pages = 0; source = Own; uses = 0 }) → table ≡ whole_table pages
    → table ≡ whole_table (length regions)
whole_begins pages regions table fresh is =
    let r : Region = record { first = 0; pages = 0; source = Own; uses = 0 } in
    is ∙ ap whole_table (sym (ap (length {A = Region}) fresh ∙ length-replicate pages r))
