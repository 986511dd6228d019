-- What a munmap leaves as it was: how many pages memory has, and what bounds the uses of regions.
use Rattle.std.proofs.Common.{◌≡◌, ℕ, ◌+◌, ◌-◌, ◌*◌, ◌/◌, ◌≤◌, inl, inr, List, [], ◌∷◌, length, length-set, Option, Some, None, refl, sym, ap, subst, ◌∙◌, arith}
use Rattle.std.specs.Prelude.{slice_get, slice_set, ◌==◌, Result, Ok, Err, ⊤}
use Rattle.std.proofs.lemmas.Bool.{cases_Bool}
use Rattle.nommu_regions.specs.declared.region.Region.{Region}
use Rattle.nommu_regions.specs.Regions.{with_uses_of, before, behind, is_left, with_behind, cut_out, with_cut}
use Rattle.nommu_regions.proofs.Held.{after_set}
use Rattle.call_log.specs.declared.errno.Errno.{Errno}
use Rattle.mmap_rules.specs.declared.mapping.Mapping.{Mapping}
use Rattle.mmap_rules.specs.Held.{Held}
use Rattle.mmap_rules.specs.Want.{pages_for}
use Rattle.mmap_rules.specs.Mappings.{page_at, Hit, hit}
use Rattle.mmap_rules.specs.MapState.{Freed, freed, given_back, after_hit, unmapped, Unmaps}

-- ---- uses

-- no region has more uses than so many
abbrev pub MostUses : ℕ → List Region → Type 0
MostUses most rs = (id : ℕ) (r : Region) → slice_get rs id ≡ Some r → r.uses ≤ most

most_set : (most : ℕ) (rs : List Region) (at : ℕ) (v : Region) → MostUses most rs → v.uses ≤ most → MostUses most (slice_set rs at v)
most_set most rs at v all few id r there = elim (after_set rs at id v r there) [
  | inl here ↦ (let uses = ap (λ (x : Region). x.uses) here.1 in omega (arith, uses, few))
  | inr other ↦ all id r other.1
]

uses_dropped : (most : ℕ) (rs : List Region) (id : ℕ) (o : Option Region) → o ≡ slice_get rs id → MostUses most rs → MostUses most (with_uses_of rs id (λ uses. uses - 1) o)
uses_dropped most rs id None is all = all
uses_dropped most rs id (Some r) is all = most_set most rs id (record r { uses = r.uses - 1 }) all (let old = all id r (sym is) in omega (arith, old))

few_before : (r : Region) (from : ℕ) → (before r from).uses ≤ r.uses
few_before r from = elim (cases_Bool (from == r.first)) [
  | inl none ↦ rw none (omega arith)
  | inr some ↦ rw some (omega arith)
]

most_behind : (most : ℕ) (rs : List Region) (r : Region) (from : ℕ) → MostUses most rs → r.uses ≤ most → MostUses most (with_behind rs r from)
most_behind most rs r from all few = elim (cases_Bool (is_left r from)) [
  | inl left ↦ rw left (most_set most rs from (behind r from) all few)
  | inr none ↦ rw none all
]

uses_cut : (most : ℕ) (rs : List Region) (id from count : ℕ) (o : Option Region) → o ≡ slice_get rs id → MostUses most rs → MostUses most (cut_out rs id o from count)
uses_cut most rs id from count None is all = all
uses_cut most rs id from count (Some r) is all =
    let old = all id r (sym is) in
    let less = few_before r from in
    most_behind most (slice_set rs id (before r from)) r (from + count) (most_set most rs id (before r from) all (omega (arith, old, less))) old

given_back_uses : (most : ℕ) (rs : List Region) (at : ℕ) (m : Mapping) (left : List Mapping) (addr size : ℕ) → MostUses most rs
    → MostUses most (given_back rs (record { at = at; mapping = m; left = left }) addr size)
unfolding with_cut
given_back_uses most rs at m [] addr size all = uses_dropped most rs m.first (slice_get rs m.first) refl all
given_back_uses most rs at m (n ∷ left) addr size all = uses_cut most rs m.first (page_at addr) (size / 4096) (slice_get rs m.first) refl all

hit_uses : (most : ℕ) (h : Held) (rs : List Region) (addr size : ℕ) (o : Option Hit) (new : Freed) (result : Result ⊤ Errno) → MostUses most rs
    → Unmaps (after_hit h rs addr size o) (freed h rs) new result → MostUses most new.regions
hit_uses most h rs addr size None new (Ok done) all never = absurd never
hit_uses most h rs addr size None new (Err errno) all is = subst (λ (f : Freed). MostUses most f.regions) (sym is.1) all
hit_uses most h rs addr size (Some hit) new (Err errno) all never = absurd never
hit_uses most h rs addr size (Some hit) new (Ok done) all is =
    subst (λ (f : Freed). MostUses most f.regions) (sym is) (given_back_uses most rs hit.at hit.mapping hit.left addr size all)

pub uses_left : (most : ℕ) (h : Held) (rs : List Region) (addr len : ℕ) (new : Freed) (result : Result ⊤ Errno) → MostUses most rs
    → Unmaps (unmapped h rs addr len) (freed h rs) new result → MostUses most new.regions
unfolding unmapped
uses_left most h rs addr len new result all is = hit_uses most h rs addr (4096 * pages_for len) (hit h.maps addr len) new result all is

-- ---- pages

length_behind : (rs : List Region) (r : Region) (from : ℕ) → length (with_behind rs r from) ≡ length rs
length_behind rs r from = elim (cases_Bool (is_left r from)) [
  | inl left ↦ rw left (length-set rs from (behind r from))
  | inr none ↦ rw none refl
]

length_cut : (rs : List Region) (id from count : ℕ) (o : Option Region) → length (cut_out rs id o from count) ≡ length rs
length_cut rs id from count None = refl
length_cut rs id from count (Some r) = length_behind (slice_set rs id (before r from)) r (from + count) ∙ length-set rs id (before r from)

length_dropped : (rs : List Region) (id : ℕ) (o : Option Region) → length (with_uses_of rs id (λ uses. uses - 1) o) ≡ length rs
length_dropped rs id None = refl
length_dropped rs id (Some r) = length-set rs id (record r { uses = r.uses - 1 })

given_back_length : (rs : List Region) (at : ℕ) (m : Mapping) (left : List Mapping) (addr size : ℕ)
    → length (given_back rs (record { at = at; mapping = m; left = left }) addr size) ≡ length rs
unfolding with_cut
given_back_length rs at m [] addr size = length_dropped rs m.first (slice_get rs m.first)
given_back_length rs at m (n ∷ left) addr size = length_cut rs m.first (page_at addr) (size / 4096) (slice_get rs m.first)

abbrev pub SamePages : Held → List Region → Freed → Type 0
SamePages h rs f = (f.held.pages ≡ h.pages) × (length f.regions ≡ length rs)

hit_pages : (h : Held) (rs : List Region) (addr size : ℕ) (o : Option Hit) (new : Freed) (result : Result ⊤ Errno)
    → Unmaps (after_hit h rs addr size o) (freed h rs) new result → SamePages h rs new
hit_pages h rs addr size None new (Ok done) never = absurd never
hit_pages h rs addr size None new (Err errno) is = subst (λ (f : Freed). SamePages h rs f) (sym is.1) (refl, refl)
hit_pages h rs addr size (Some hit) new (Err errno) never = absurd never
hit_pages h rs addr size (Some hit) new (Ok done) is =
    subst (λ (f : Freed). SamePages h rs f) (sym is) (refl, given_back_length rs hit.at hit.mapping hit.left addr size)

pub pages_left : (h : Held) (rs : List Region) (addr len : ℕ) (new : Freed) (result : Result ⊤ Errno) → Unmaps (unmapped h rs addr len) (freed h rs) new result → SamePages h rs new
unfolding unmapped
pages_left h rs addr len new result is = hit_pages h rs addr (4096 * pages_for len) (hit h.maps addr len) new result is
