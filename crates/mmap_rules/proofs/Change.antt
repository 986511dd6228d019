-- What `map` changes: a fresh run, or a copy with one use more.
use Rattle.std.proofs.Common.{◌≡◌, ℕ, zero, ◌+◌, ◌-◌, ◌*◌, ◌<◌, ◌≤◌, ◌⊎◌, inl, inr, Bool, true, false, List, [], ◌∷◌, ◌++◌, length, refl, sym, ap, ◌∙◌, arith}
use Rattle.std.specs.Prelude.{Option, Some, None, slice_get, slice_set, replicate}
use Rattle.std.proofs.lemmas.Bool.{false≢true}
use Rattle.std.proofs.lemmas.Bool.Decides.{nat_tests}
use Rattle.std.proofs.lemmas.Option.{none-some, same_Some}
use Rattle.std.proofs.lemmas.List.{length-replicate}
use Rattle.byte_words.specs.Patches.{laid}
use Rattle.page_runs.specs.declared.place.Kind.{Kind}
use Rattle.page_runs.specs.Place.{place, first_of}
use Rattle.nommu_regions.specs.declared.region.Region.{Region}
use Rattle.nommu_regions.specs.declared.region.Source.{Source}
use Rattle.nommu_regions.specs.declared.region.Source.TheVariants.{Own, Copy}
use Rattle.nommu_regions.specs.Regions.{AreRegions, AreFree, free_of, is_copy, copy_of, copy_covers, covers}
use Rattle.nommu_regions.proofs.Copies.{copy_lives, copy_covers_them}
use Rattle.mmap_rules.specs.declared.want.Want.{Want}
use Rattle.mmap_rules.specs.declared.want.Want.TheVariants.{Anon, File}
use Rattle.mmap_rules.specs.Held.{page_address}
use Rattle.mmap_rules.specs.Want.{AsksPages}
use Rattle.mmap_rules.specs.Mappings.{run_mapping, part_mapping, copied_from, file_pages}
use Rattle.mmap_rules.specs.MapState.{MapState, Mapped, in_fresh_run, in_copy, in_copy_or_new, mapped}
use Rattle.mmap_rules.specs.Copies.{pages_of}
use Rattle.mmap_rules.proofs.Chosen.{copy_has}
use Rattle.mmap_rules.proofs.Fresh.{fresh_free}
use Rattle.mmap_rules.proofs.FilePages.{length-file_pages}
use Rattle.mmap_rules.proofs.NamesMore.{used}

-- the bytes that are wanted, where the file has these
abbrev pub asked_bytes : List ℕ → Want → List ℕ
asked_bytes bytes (Anon pages) = replicate (4096 * pages) 0
asked_bytes bytes (File pages first write id change) = file_pages bytes first pages

-- a copy that is made has the pages that are wanted
pub record Copied (given : List ℕ) (asked : Want) (count : ℕ) (of : Source) (content : List ℕ) : Type 0 where
  pub file : ℕ
  pub change : ℕ
  pub from : ℕ
  pub source : of ≡ Copy file change from
  pub bytes : content ≡ file_pages given from count
  pub want : asked ≡ File count from false file change

-- a run that was free, with its bytes
pub record FreshRun (s : MapState) (bytes : List ℕ) (want : Want) (m : Mapped) : Type 0 where
  pub first : ℕ
  pub count : ℕ
  pub writes : Bool
  pub anonymous : Bool
  pub source : Source
  pub content : List ℕ
  pub some : 0 < count
  pub free : AreFree s.regions first count
  pub len : length content ≡ 4096 * count
  pub written : writes ≡ true → source ≡ Own
  pub origin : (source ≡ Own) ⊎ Copied bytes want count source content
  pub wanted : (content ≡ asked_bytes bytes want) × (count ≡ pages_of want)
  pub addr : m.addr ≡ page_address first
  pub pages : m.map_state.held.pages ≡ s.held.pages
  pub memory : m.map_state.memory ≡ laid s.memory (4096 * first) content
  pub maps : m.map_state.held.maps ≡ s.held.maps ++ run_mapping first count writes anonymous source ∷ []
  pub regions : m.map_state.regions ≡ slice_set s.regions first (record { first = first; pages = count; source = source; uses = 1 })

-- what a copy's source says of the pages that it covers
pub record Covered (s : Source) (id change first pages held : ℕ) : Type 0 where
  pub start : ℕ
  pub is : s ≡ Copy id change start
  pub from : start ≤ first
  pub to : first + pages ≤ start + held

-- the pages that are wanted are those of a copy, from its page `skip` on
pub record Shares (r : Region) (asked : Want) (skip count : ℕ) : Type 0 where
  pub file : ℕ
  pub change : ℕ
  pub from : ℕ
  pub covered : Covered r.source file change from count r.pages
  pub skipped : skip ≡ from - covered.start
  pub want : asked ≡ File count from false file change

-- pages of a copy that is there, which has a use more
pub record OneMore (s : MapState) (want : Want) (m : Mapped) : Type 0 where
  pub region : Region
  pub skip : ℕ
  pub count : ℕ
  pub there : slice_get s.regions region.first ≡ Some region
  pub live : 0 < region.uses
  pub copy : is_copy region.source ≡ true
  pub fits : skip + count ≤ region.pages
  pub shares : Shares region want skip count
  pub addr : m.addr ≡ page_address (region.first + skip)
  pub pages : m.map_state.held.pages ≡ s.held.pages
  pub memory : m.map_state.memory ≡ s.memory
  pub maps : m.map_state.held.maps ≡ s.held.maps ++ part_mapping region.first region.pages region.source skip count ∷ []
  pub regions : m.map_state.regions ≡ slice_set s.regions region.first (used region)

in_run : (s : MapState) (bytes : List ℕ) (want : Want) (kind : Kind) (count : ℕ) (writes anonymous : Bool) (source : Source) (content : List ℕ) (m : Mapped)
    → 0 < count → length content ≡ 4096 * count → (writes ≡ true → source ≡ Own) → (source ≡ Own) ⊎ Copied bytes want count source content
    → content ≡ asked_bytes bytes want → count ≡ pages_of want
    → in_fresh_run s kind count writes anonymous source content ≡ Some m → FreshRun s bytes want m
in_run s bytes want kind count writes anonymous source content m some len written origin asked asked_pages is =
    at (first_of (free_of s.regions).runs (place kind (free_of s.regions).runs count)) refl
  where
    at : (o : Option ℕ) → first_of (free_of s.regions).runs (place kind (free_of s.regions).runs count) ≡ o → FreshRun s bytes want m
    at None none = absurd (none-some m (rw none at is))
    at (Some first) there =
        let same = same_Some _ _ (rw there at is) in
        record {
          first = first;
          count = count;
          writes = writes;
          anonymous = anonymous;
          source = source;
          content = content;
          some = some;
          free = fresh_free s.regions kind count first some there;
          len = len;
          written = written;
          origin = origin;
          wanted = (asked, asked_pages);
          addr = ap (λ (x : Mapped). x.addr) (sym same);
          pages = ap (λ (x : Mapped). x.map_state.held.pages) (sym same);
          memory = ap (λ (x : Mapped). x.map_state.memory) (sym same);
          maps = ap (λ (x : Mapped). x.map_state.held.maps) (sym same);
          regions = ap (λ (x : Mapped). x.map_state.regions) (sym same);
        }

pub covered : (s : Source) (id change first pages held : ℕ) → copy_covers id change first pages s held ≡ true → Covered s id change first pages held
covered Own id change first pages held never = absurd (false≢true never)
covered (Copy f c start) id change first pages held has =
    let file : f ≡ id = grind (arith, nat_tests, has) in
    let count : c ≡ change = grind (arith, nat_tests, has) in
    record {
      start = start;
      is = λ i. Copy (file i) (count i) start;
      from = grind (arith, nat_tests, has);
      to = grind (arith, nat_tests, has);
    }

fits_in : (first from start count held : ℕ) → from ≡ start → start ≤ first → first + count ≤ start + held → first - from + count ≤ held
fits_in first from start count held is low high = omega arith

more : (s : MapState) (id change first count at : ℕ) (r : Region) (m : Mapped) → AreRegions s.regions → slice_get s.regions at ≡ Some r
    → covers id change first count r ≡ true → in_copy s first count (slice_get s.regions at) ≡ Some m → OneMore s (File count first false id change) m
more s id change first count at r m are stands has is =
    let same = same_Some _ _ (rw stands at is) in
    let copy = copy_has s.regions at id change first count r stands has in
    let region : copy.region ≡ r = same_Some _ _ (sym copy.there ∙ stands) in
    let live : 0 < r.uses = grind (arith, nat_tests, has) in
    let begins : r.first ≡ at = are.begins at r stands live in
    let there : slice_get s.regions r.first ≡ Some r = ap (λ (k : ℕ). slice_get s.regions k) begins ∙ stands in
    let c = covered r.source id change first count r.pages (grind (arith, nat_tests, has)) in
    let start : copied_from r.source ≡ c.start = ap copied_from c.is in
    record {
      region = r;
      skip = first - copied_from r.source;
      count = count;
      there = there;
      live = live;
      copy = ap (λ (x : Region). is_copy x.source) (sym region) ∙ copy.copy;
      fits = fits_in first (copied_from r.source) c.start count r.pages start c.from c.to;
      shares = record { file = id; change = change; from = first; covered = c; skipped = ap (λ (k : ℕ). first - k) start; want = refl };
      addr = ap (λ (x : Mapped). x.addr) (sym same);
      pages = ap (λ (x : Mapped). x.map_state.held.pages) (sym same);
      memory = ap (λ (x : Mapped). x.map_state.memory) (sym same);
      maps = ap (λ (x : Mapped). x.map_state.held.maps) (sym same);
      regions = ap (λ (x : Mapped). x.map_state.regions) (sym same) ∙ rw there refl;
    }

-- one of the two
pub change : (s : MapState) (kind : Kind) (bytes : List ℕ) (want : Want) (m : Mapped) → AsksPages want → AreRegions s.regions → mapped s kind bytes want ≡ Some m
    → FreshRun s bytes want m ⊎ OneMore s want m
unfolding mapped
change s kind bytes (Anon pages) m asks are is =
    inl (in_run s bytes (Anon pages) kind pages true true Own (replicate (4096 * pages) 0) m asks (length-replicate (4096 * pages) zero)
    (λ _. refl) (inl refl) refl refl is)
change s kind bytes (File pages first true id count) m asks are is =
    inl (in_run s bytes (File pages first true id count) kind pages true false Own (file_pages bytes first pages) m asks
    (length-file_pages bytes first pages) (λ _. refl) (inl refl) refl refl is)
change s kind bytes (File pages first false id count) m asks are is = at (copy_of s.regions id count first pages) refl is
  where
    copied : Copied bytes (File pages first false id count) pages (Copy id count first) (file_pages bytes first pages)
    copied = record { file = id; change = count; from = first; source = refl; bytes = refl; want = refl }

    at : (o : Option ℕ) → o ≡ copy_of s.regions id count first pages → in_copy_or_new s kind bytes pages first id count o ≡ Some m
        → FreshRun s bytes (File pages first false id count) m ⊎ OneMore s (File pages first false id count) m
    at None none new =
        inl (in_run s bytes (File pages first false id count) kind pages false false (Copy id count first) (file_pages bytes first pages) m asks
        (length-file_pages bytes first pages) (λ never. absurd (false≢true never)) (inr copied) refl refl new)
    at (Some copy) found old =
        let live = copy_lives s.regions s.regions id count first pages copy refl found in
        let has = copy_covers_them s.regions s.regions id count first pages copy refl found copy live.region refl live.there in
        inr (more s id count first pages copy live.region m are live.there has old)
