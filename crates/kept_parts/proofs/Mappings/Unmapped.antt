-- What munmap leaves of a space: the mappings that the world's row says, and the bytes that are left.
use Rattle.std.proofs.Common.{◌≡◌, ℕ, ◌+◌, ◌*◌, ◌<◌, ◌≤◌, inl, inr, Bool, true, false, cond, List, [], ◌++◌, length, take, drop, Option, Some, None, refl, sym, ap, subst, ◌∙◌, arith}
use Rattle.std.specs.Prelude.{slice_get, Ok}
use Rattle.std.proofs.lemmas.Option.{same_Some, none-some}
use Rattle.std.proofs.lemmas.Bool.Decides.{nat_tests}
use Rattle.byte_words.specs.ByteMap.{Bytes}
use Rattle.nommu_regions.specs.declared.region.Region.{Region}
use Rattle.mmap_rules.specs.declared.mapping.Mapping.{Mapping}
use Rattle.mmap_rules.specs.Space.{in_range, own_in}
use Rattle.mmap_rules.specs.Held.{Held, AreMappings}
use Rattle.mmap_rules.specs.Want.{pages_for}
use Rattle.mmap_rules.specs.Mappings.{left_of, Hit, hit, without_hit}
use Rattle.mmap_rules.specs.MapState.{Freed, freed, after_hit, unmapped, Unmaps}
use Rattle.mmap_rules.proofs.Lists.{each_cut}
use Rattle.mmap_rules.proofs.TableLess.{is_removed}
use Rattle.mmap_rules.proofs.Parts.{WholePages, run_of, both, each_left}
use Rattle.mmap_rules.proofs.Cuts.{cuts}
use Rattle.mmap_rules.proofs.NamesAll.{what_went}
use Rattle.mmap_rules.proofs.KeepsLess.{SamePages, pages_left}
use Rattle.region_watch.specs.Private.{only, physical}
use Rattle.machine_world.specs.MapCalls.{over_maps}
use Rattle.kept_parts.specs.Kept.{Kept}
use Rattle.kept_parts.specs.Stands.{private_bytes, private_of, OthersSame}
use Rattle.call_bytes.proofs.Places.{any_at, at_any}

-- ---- what is hit

none_hit : (h : Held) (rs : List Region) (addr size : ℕ) (o : Option Hit) → after_hit h rs addr size o ≡ None → o ≡ None
none_hit h rs addr size None none = refl
none_hit h rs addr size (Some x) none = absurd (none-some _ (sym none))

-- where nothing is left nothing was hit
pub unmap_refused : (h : Held) (rs : List Region) (addr len : ℕ) → unmapped h rs addr len ≡ None → hit h.maps addr len ≡ None
unfolding unmapped
unmap_refused h rs addr len none = none_hit h rs addr (4096 * pages_for len) (hit h.maps addr len) none

-- a hit, and what it leaves of the space
pub record IsHit (h : Held) (addr len : ℕ) (f : Freed) : Type 0 where
  pub what : Hit
  pub found : hit h.maps addr len ≡ Some what
  pub held : f.held ≡ record h { maps = without_hit h.maps what }

by_hit : (h : Held) (rs : List Region) (addr len : ℕ) (f : Freed) (o : Option Hit) → hit h.maps addr len ≡ o
    → after_hit h rs addr (4096 * pages_for len) o ≡ Some f → IsHit h addr len f
by_hit h rs addr len f None none is = absurd (none-some f is)
by_hit h rs addr len f (Some what) found is =
    record { what = what; found = found; held = ap (λ (x : Freed). x.held) (sym (same_Some _ _ is)) }

is_hit : (h : Held) (rs : List Region) (addr len : ℕ) (f : Freed) → unmapped h rs addr len ≡ Some f → IsHit h addr len f
unfolding unmapped
is_hit h rs addr len f is = by_hit h rs addr len f (hit h.maps addr len) refl is

-- ---- the own bytes

-- what is own where other mappings stand in place of one was own, if their bytes were
own_cut : (maps part : List Mapping) (k a : ℕ)
    → ((j : ℕ) (m : Mapping) → slice_get part j ≡ Some m → in_range m.range a ≡ true → own_in maps a ≡ true)
    → own_in (take k maps ++ part ++ drop (k + 1) maps) a ≡ true → own_in maps a ≡ true
unfolding own_in
own_cut maps part k a parts own =
    let p = any_at (λ (m : Mapping). in_range m.range a) (take k maps ++ part ++ drop (k + 1) maps) own in
    each_cut (λ (m : Mapping). in_range m.range a ≡ true → own_in maps a ≡ true) k maps part
    (λ j m there has. at_any (λ (n : Mapping). in_range n.range a) maps j m there has) parts p.place p.item p.there p.passes

own_at : (maps : List Mapping) (k a : ℕ) (m : Mapping) → slice_get maps k ≡ Some m → in_range m.range a ≡ true → own_in maps a ≡ true
unfolding own_in
own_at maps k a m there has = at_any (λ (n : Mapping). in_range n.range a) maps k m there has

-- a part of a mapping
part_within : (pages : ℕ) (m : Mapping) (from to a : ℕ) → WholePages pages from to → m.range.from ≤ from → to ≤ m.range.from + m.range.size
    → in_range (run_of m from to).range a ≡ true → in_range m.range a ≡ true
part_within pages m from to a w low high has =
    let above = w.above in
    let up = w.up in
    let begins = w.begins in
    let ends = w.ends in
    let first : (run_of m from to).range.from ≡ from = omega arith in
    let last : (run_of m from to).range.from + (run_of m from to).range.size ≡ to = omega arith in
    let over : (run_of m from to).range.from ≤ a = grind (arith, nat_tests, has) in
    let under : a < (run_of m from to).range.from + (run_of m from to).range.size = grind (arith, nat_tests, has) in
    let least : m.range.from ≤ a = omega arith in
    let most : a < m.range.from + m.range.size = omega arith in
    grind (arith, nat_tests, least, most)

-- what munmap leaves own was own
own_left : (h : Held) (rs : List Region) (addr len : ℕ) (f : Freed) → AreMappings h.pages h.maps → unmapped h rs addr len ≡ Some f
    → (a : ℕ) → own_in f.held.maps a ≡ true → own_in h.maps a ≡ true
own_left h rs addr len f shaped is a own = elim (what_went h rs addr len f is) [
  | inl w ↦ own_cut h.maps [] w.at a (λ j m none. absurd (none-some m none))
      (subst (λ (maps : List Mapping). own_in maps a ≡ true) (w.maps ∙ sym (is_removed h.maps w.at)) own)
  | inr w ↦ (
      let n = pages_for len in
      let c = cuts h.pages h.maps w.at w.mapping addr n shaped w.there w.begins w.some w.can in
      let b = both h.pages w.mapping addr (4096 * n) c in
      let low = b.before.up in
      let high = b.behind.up in
      own_cut h.maps (left_of w.mapping addr (4096 * n)) w.at a
      (λ j m there has. own_at h.maps w.at a w.mapping w.there
      (each_left (λ (x : Mapping). in_range x.range a ≡ true → in_range w.mapping.range a ≡ true) w.mapping addr (4096 * n)
      (λ other. part_within h.pages w.mapping w.mapping.range.from addr a b.before (omega arith) (omega arith))
      (λ other. part_within h.pages w.mapping (addr + 4096 * n) (w.mapping.range.from + w.mapping.range.size) a b.behind (omega arith) (omega arith))
      j m there has))
      (subst (λ (maps : List Mapping). own_in maps a ≡ true) w.maps own))
]

only_within : (p q : ℕ → Bool) (m : Bytes) → ((a : ℕ) → p a ≡ true → q a ≡ true) → only p m ≡ only p (only q m)
unfolding only
only_within p q m within = λ i a. stays (p a) (q a) (m a) (within a) i
  where
    stays : (own was : Bool) (x : Option ℕ) → (own ≡ true → was ≡ true) → (cond own x None) ≡ (cond own (cond was x None) None)
    stays true true x within = refl
    stays true false x within = absurd (let e : false ≡ true = within refl in cc)
    stays false was x within = refl

-- ---- what is left

bytes_left : (mem : List ℕ) (h : Held) (maps : List Mapping) → ((a : ℕ) → own_in maps a ≡ true → own_in h.maps a ≡ true)
    → private_of mem (record h { maps = maps }) ≡ over_maps (private_of mem h) maps
unfolding private_bytes
bytes_left mem h maps within =
    ap (λ (m : Bytes). record { maps = maps; brk = h.brk; brk_low = h.brk_low; brk_high = h.brk_high; bytes = m })
    (only_within (own_in maps) (own_in h.maps) (physical mem) within)

-- a space and the regions after a munmap in the world's space of a number
pub record Unmapped (k : Kept) (number : ℕ) (h : Held) (addr len : ℕ) (f : Freed) : Type 0 where
  pub what : Hit
  pub found : hit h.maps addr len ≡ Some what
  pub held : f.held ≡ record h { maps = without_hit h.maps what }
  pub space : private_of k.mem f.held ≡ over_maps (private_of k.mem h) (without_hit h.maps what)
  pub others : OthersSame k number k.mem
  pub pages : length f.regions ≡ length k.regions

-- memory has as many pages as it had
pub same_pages : (h : Held) (rs : List Region) (addr len : ℕ) (f : Freed) → unmapped h rs addr len ≡ Some f → SamePages h rs f
same_pages h rs addr len f is =
    let answer : Unmaps (unmapped h rs addr len) (freed h rs) f (Ok (tt {0})) = rw is refl in
    pages_left h rs addr len f (Ok (tt {0})) answer

pub unmap_agrees : (k : Kept) (number : ℕ) (h : Held) (addr len : ℕ) → AreMappings h.pages h.maps
    → (f : Freed) → unmapped h k.regions addr len ≡ Some f → Unmapped k number h addr len f
unmap_agrees k number h addr len shaped f is =
    let found = is_hit h k.regions addr len f is in
    let maps = without_hit h.maps found.what in
    let same : f.held.maps ≡ maps = ap (λ (x : Held). x.maps) found.held in
    let within : (a : ℕ) → own_in maps a ≡ true → own_in h.maps a ≡ true =
    λ a own. own_left h k.regions addr len f shaped is a (subst (λ (l : List Mapping). own_in l a ≡ true) (sym same) own) in
    record {
      what = found.what;
      found = found.found;
      held = found.held;
      space = ap (private_of k.mem) found.held ∙ bytes_left k.mem h maps within;
      others = λ j o other there. refl;
      pages = (same_pages h k.regions addr len f is).1;
    }
