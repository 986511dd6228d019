-- Where mmap2 puts a mapping, its bytes may lie: nothing has a byte in a fresh run, and all that share a copy have the file's bytes.
use Rattle.std.proofs.Common.{◌≡◌, ◌≢◌, ℕ, ◌+◌, ◌-◌, ◌*◌, ◌%◌, ◌^◌, ◌<◌, ◌≤◌, Bool, true, false, not, List, length, get_or, Option, Some, None, Ok, Err, refl, sym, ap, subst, ◌∙◌, arith}
use Rattle.std.specs.Prelude.{◌==◌, ◌||◌, ◌&&◌, nat_le, nat_lt, slice_get, option_map, if◌then◌else◌}
use Rattle.std.proofs.lemmas.Bool.Decides.{nat_tests}
use Rattle.std.proofs.lemmas.List.{length-replicate}
use Rattle.std.proofs.lemmas.Option.{slice_get_within}
use Rattle.std.proofs.lemmas.Bool.{and_parts}
use Rattle.call_log.specs.declared.errno.Errno.TheVariants.{Einval, Eoverflow}
use Rattle.call_log.specs.Flags.{has_flag}
use Rattle.page_runs.specs.Place.{place, first_of}
use Rattle.nommu_regions.specs.declared.region.Source.{Source}
use Rattle.nommu_regions.specs.declared.region.Source.TheVariants.{Own, Copy}
use Rattle.nommu_regions.specs.Regions.{copy_covers}
use Rattle.mem_files.specs.Inodes.{Inode, Inodes, content_in, bytes_of, bytes_in}
use Rattle.mmap_rules.specs.declared.mapping.Mapping.{Mapping}
use Rattle.mmap_rules.specs.declared.want.FileSide.{FileSide}
use Rattle.mmap_rules.specs.declared.want.FileSide.TheVariants as side
use Rattle.mmap_rules.specs.declared.want.Want.{Want}
use Rattle.mmap_rules.specs.declared.want.Want.TheVariants.{Anon, File}
use Rattle.mmap_rules.specs.Space.{Space, in_range, has_page, own_in, writable_in}
use Rattle.mmap_rules.specs.Held.{IsMapping, page_address}
use Rattle.mmap_rules.specs.Want.{pages_for, map_shared, map_private, map_fixed, map_anonymous, prot_write, of_side, shared_side, wanted_file, just_one, wanted}
use Rattle.mmap_rules.specs.Mappings.{copied_from}
use Rattle.mmap_rules.proofs.Lists.{Found, found_any}
use Rattle.mmap_rules.specs.Copies.{wanted_bytes, pages_of}
use Rattle.vfork_exec.specs.Keyed.{find}
use Rattle.flat_loader.specs.Alone.{memory_of, own_of, writable_of, may_lie}
use Rattle.machine_world.specs.World.{LiveSpace, World, id_of}
use Rattle.machine_world.specs.Free.{free_runs_in}
use Rattle.machine_world.specs.MapCalls.{all_maps, lowest, has_pages, shared, in_copy, own_run, in_free_run, or_own}
use Rattle.alone_laws.specs.Sound.{HoldsFile, HoldsSource, IsSound}
use Rattle.alone_laws.proofs.Frame.{ranges_of, owned, writable}
use Rattle.alone_laws.proofs.Wanted.{IsThere}
use Rattle.alone_laws.proofs.LaidBytes.{LiesOver, lies_all, page_byte, length-file_pages}
use Rattle.alone_laws.proofs.SharedPages.{In, in_all, from_all, same_run, page_of, in_page, lowest_passes, page_from, page_to, IsFree, fresh_run, not_held}
use Rattle.alone_laws.proofs.Lists.{eqb_isnt}

-- ---- what is asked for

module _ (len prot flags : ℕ) (seen : FileSide) where
  pub record AsksAnon (pages : ℕ) : Type 0 where
    pub some : len ≢ 0
    pub pages_are : pages ≡ pages_for len
    pub flag : has_flag flags map_anonymous ≡ true

  pub record AsksFile (pages : ℕ) (write : Bool) (id change : ℕ) : Type 0 where
    pub some : len ≢ 0
    pub pages_are : pages ≡ pages_for len
    pub flag : has_flag flags map_anonymous ≡ false
    pub writes : write ≡ has_flag prot prot_write
    pub is_file : seen ≡ side.File id change

  abbrev pub Asks : Want → Type 0
  Asks (Anon pages) = AsksAnon pages
  Asks (File pages first write id change) = AsksFile pages write id change

  by_side : (first : ℕ) (file_side : FileSide) (want : Want) → len ≢ 0 → has_flag flags map_anonymous ≡ false → seen ≡ file_side
      → of_side (pages_for len) first (has_flag prot prot_write) file_side ≡ Ok want → Asks want
  by_side first side.Closed want some flag is asks = absurd cc
  by_side first side.NotFile want some flag is asks = absurd cc
  by_side first side.NoRead want some flag is asks = absurd cc
  by_side first (side.File id change) want some flag is asks =
      let same : File (pages_for len) first (has_flag prot prot_write) id change ≡ want = cc in
      subst Asks same (record { some = some; pages_are = refl; flag = flag; writes = refl; is_file = is })

  by_shared : (file_side : FileSide) (want : Want) → shared_side file_side ≡ Ok want → Asks want
  by_shared side.Closed want asks = absurd cc
  by_shared side.NotFile want asks = absurd cc
  by_shared side.NoRead want asks = absurd cc
  by_shared (side.File id change) want asks = absurd cc

  by_file : (first : ℕ) (want : Want) (far shares : Bool) → len ≢ 0 → has_flag flags map_anonymous ≡ false
      → (if far then Err Eoverflow else if shares then shared_side seen else of_side (pages_for len) first (has_flag prot prot_write) seen) ≡ Ok want → Asks want
  by_file first want true shares some flag asks = absurd cc
  by_file first want false true some flag asks = by_shared seen want asks
  by_file first want false false some flag asks = by_side first seen want some flag refl asks

  pub asked : (addr first : ℕ) (want : Want) → wanted addr len prot flags first seen ≡ Ok want → Asks want
  unfolding wanted
  asked addr first want is =
      by (len == 0) (has_flag flags map_fixed || not (addr == 0)) (not (just_one (has_flag flags map_shared) (has_flag flags map_private))) (has_flag flags map_anonymous) refl refl is
    where
      by : (none fixed both anon : Bool) → (len == 0) ≡ none → has_flag flags map_anonymous ≡ anon
          → (if none then Err Einval else if fixed then Err Einval else if both then Err Einval
          else if anon then Ok (Anon (pages_for len)) else wanted_file (pages_for len) prot flags first seen) ≡ Ok want → Asks want
      by true fixed both anon len_is flag asks = absurd cc
      by false true both anon len_is flag asks = absurd cc
      by false false true anon len_is flag asks = absurd cc
      by false false false true len_is flag asks =
          let same : Anon (pages_for len) ≡ want = cc in
          subst Asks same (record { some = eqb_isnt len 0 len_is; pages_are = refl; flag = flag })
      by false false false false len_is flag asks = by_file first want (nat_lt (2 ^ 32) (first + pages_for len)) (has_flag flags map_shared) (eqb_isnt len 0 len_is) flag asks

-- ---- where it is put

abbrev pub writes_of : Want → Bool
writes_of (Anon pages) = true
writes_of (File pages first write id change) = write

abbrev pub anonymous_of : Want → Bool
anonymous_of (Anon pages) = true
anonymous_of (File pages first write id change) = false

-- a mapping of what is asked for, whose bytes may lie where it is
pub record Grant (nodes : Inodes) (s : Space) (want : Want) (m : Mapping) : Type 0 where
  pub size : m.range.size ≡ 4096 * pages_of want
  pub writes : m.range.writes ≡ writes_of want
  pub anonymous : m.range.anonymous ≡ anonymous_of want
  pub begins : m.range.from % 4096 ≡ 0
  pub above : 2 ^ 31 ≤ m.range.from
  pub below : m.range.from + m.range.size ≤ 2 ^ 31 + 4096 * 16384
  pub lies : may_lie (memory_of s) m.range.writes m.range.from (wanted_bytes nodes want) ≡ true

pub length-wanted_bytes : (nodes : Inodes) (want : Want) → length (wanted_bytes nodes want) ≡ 4096 * pages_of want
length-wanted_bytes nodes (Anon pages) = length-replicate {A = ℕ} (4096 * pages) 0
length-wanted_bytes nodes (File pages first write id change) = length-file_pages (bytes_of nodes id) first pages

own_some : (s : Space) (a : ℕ) → own_of (ranges_of s.maps) a ≡ true → Found Mapping (λ m. in_range m.range a) s.maps
unfolding own_in
own_some s a is = found_any (λ m. in_range m.range a) s.maps (sym (ap (λ (f : ℕ → Bool). f a) (owned s.maps)) ∙ is)

writable_some : (s : Space) (a : ℕ) → writable_of (ranges_of s.maps) a ≡ true → Found Mapping (λ m. m.range.writes && in_range m.range a) s.maps
unfolding writable_in
writable_some s a is = found_any (λ m. m.range.writes && in_range m.range a) s.maps (sym (ap (λ (f : ℕ → Bool). f a) (writable s.maps)) ∙ is)

module _ (w : World) (sound : IsSound w) (i : ℕ) (s : LiveSpace) (has : find id_of i w.spaces ≡ Some s) where
  is_mapping : (j : ℕ) (n : Mapping) → slice_get s.space.maps j ≡ Some n → IsMapping w.rest.pages n
  is_mapping j n there = (sound.spaces i s has).mappings j n there

  -- ---- in a fresh run

  module _ (want : Want) (page : ℕ) (free : IsFree w.rest.pages w.spaces page (pages_of want)) where
    fresh_lies : (writes : Bool) → may_lie (memory_of s.space) writes (page_address page) (wanted_bytes w.rest.tree want) ≡ true
    fresh_lies writes =
        lies_all (memory_of s.space) writes (page_address page) (wanted_bytes w.rest.tree want)
        (λ k b there own. absurd (nobody k (slice_get_within (wanted_bytes w.rest.tree want) k b there) own))
      where
        nobody : (k : ℕ) → k < length (wanted_bytes w.rest.tree want) → own_of (ranges_of s.space.maps) (page_address page + k) ≡ true → ⊥
        nobody k less own =
            let n = own_some s.space (page_address page + k) own in
            let len = length-wanted_bytes w.rest.tree want in
            let here = in_page w.rest.pages n.item (page_address page + k) (is_mapping n.at n.item n.there) n.passes in
            let not_here = not_held w.spaces (page_of (page_address page + k)) i s n.at n.item
            (free.free (page_of (page_address page + k)) (page_from page k) (page_to page (pages_of want) k (omega (arith, less, len)))) has n.there in
            let e : true ≡ false = sym here ∙ not_here in cc

    fresh_grant : (m : Mapping) → m.range.from ≡ page_address page → m.range.size ≡ 4096 * pages_of want → m.range.writes ≡ writes_of want
        → m.range.anonymous ≡ anonymous_of want → Grant w.rest.tree s.space want m
    fresh_grant m from size writes anonymous = record {
      size = size;
      writes = writes;
      anonymous = anonymous;
      begins = omega (arith, from);
      above = omega (arith, from);
      below = (let inside = free.inside in let most = sound.most in omega (arith, from, size, inside, most));
      lies = subst (λ a. may_lie (memory_of s.space) m.range.writes a (wanted_bytes w.rest.tree want) ≡ true) (sym from) (fresh_lies m.range.writes);
    }

  own_grant : (want : Want) (page : ℕ) → IsFree w.rest.pages w.spaces page (pages_of want) → Grant w.rest.tree s.space want (own_run want page)
  own_grant (Anon pages) page free = fresh_grant (Anon pages) page free (own_run (Anon pages) page) refl refl refl refl
  own_grant (File pages first true id change) page free = fresh_grant (File pages first true id change) page free (own_run (File pages first true id change) page) refl refl refl refl
  own_grant (File pages first false id change) page free = fresh_grant (File pages first false id change) page free (own_run (File pages first false id change) page) refl refl refl refl

  -- ---- in a copy that is there

  module _ (pages first id change : ℕ) (f : IsThere w.rest.tree id change) (c : Mapping) (one : In (all_maps w.spaces) c)
      (from : ℕ) (source : c.source ≡ Copy id change from) (low : from ≤ first) (high : first + pages ≤ from + c.pages) where
    abbrev start : ℕ
    start = page_address (c.first + (first - from))

    abbrev want : Want
    want = File pages first false id change

    abbrev bytes : List ℕ
    bytes = bytes_of w.rest.tree id

    -- its pages are in the run
    c_has : (k : ℕ) → k < 4096 * pages → has_page (page_of (start + k)) c ≡ true
    c_has k less =
        let above = page_from (c.first + (first - from)) k in
        let below = page_to (c.first + (first - from)) pages k less in
        let high_page : page_of (start + k) < c.first + c.pages = omega (arith, below, low, high) in
        let low_page : c.first ≤ page_of (start + k) = omega (arith, above) in
        has_it c.first c.pages (page_of (start + k)) low_page high_page
      where
        has_it : (a n page : ℕ) → a ≤ page → page < a + n → (nat_le a page && nat_lt page (a + n)) ≡ true
        has_it a n page h l = grind (arith, nat_tests)

    -- a mapping of the space that has a byte there is one of this copy
    pub record Shares (n : Mapping) : Type 0 where
      pub first_page : n.first ≡ c.first
      pub source_is : n.source ≡ Copy id change from

    shares : (k : ℕ) → k < 4096 * pages → (j : ℕ) (n : Mapping) → slice_get s.space.maps j ≡ Some n → in_range n.range (start + k) ≡ true → Shares n
    shares k less j n there inside =
        let all = in_all i w.spaces s j n has there in
        let here = in_page w.rest.pages n (start + k) (is_mapping j n there) inside in
        let same = same_run (all_maps w.spaces) all.at one.at n c sound.apart all.there one.there (page_of (start + k)) here (c_has k less) in
        record { first_page = same.first; source_is = same.source ∙ source }

    not_writable : (k : ℕ) → k < 4096 * pages → writable_of (ranges_of s.space.maps) (start + k) ≡ false
    not_writable k less = by (writable_of (ranges_of s.space.maps) (start + k)) refl
      where
        never : writable_of (ranges_of s.space.maps) (start + k) ≡ true → ⊥
        never is =
            let n = writable_some s.space (start + k) is in
            let both = and_parts n.item.range.writes (in_range n.item.range (start + k)) n.passes in
            let sh = shares k less n.at n.item n.there both.1 in
            let own : n.item.source ≡ Own = (is_mapping n.at n.item n.there).writes both.0 in
            let e : Own ≡ Copy id change from = sym own ∙ sh.source_is in cc

        by : (b : Bool) → writable_of (ranges_of s.space.maps) (start + k) ≡ b → b ≡ false
        by false is = refl
        by true is = absurd (never is)

    lies_over : (k b : ℕ) → slice_get (wanted_bytes w.rest.tree want) k ≡ Some b → own_of (ranges_of s.space.maps) (start + k) ≡ true
        → LiesOver (memory_of s.space) false (start + k) b
    lies_over k b there own =
        let within = slice_get_within (wanted_bytes w.rest.tree want) k b there in
        let len = length-wanted_bytes w.rest.tree want in
        let less : k < 4096 * pages = omega (arith, within, len) in
        let n = own_some s.space (start + k) own in
        let sh = shares k less n.at n.item n.there n.passes in
        let holds : HoldsFile s.space w.rest.tree n.item id change =
        subst (HoldsSource s.space w.rest.tree n.item) sh.source_is (sound.copies i s has n.at n.item n.there) in
        let content : bytes ≡ bytes_in f.node.content = ap (λ (o : Option Inode). bytes_in (content_in o)) f.there in
        let copied : copied_from n.item.source ≡ from = ap copied_from sh.source_is in
        let at : 4096 * copied_from n.item.source + (start + k - page_address n.item.first) ≡ 4096 * first + k = omega (arith, copied, sh.first_page, low) in
        record {
          reads = refl;
          others = not_writable k less;
          same =
              holds.same f.node (start + k) f.there (sym f.count) n.passes
              ∙ ap (λ (l : List ℕ). Some (get_or l (4096 * copied_from n.item.source + (start + k - page_address n.item.first)) 0)) (sym content)
              ∙ ap (λ (x : ℕ). Some (get_or bytes x 0)) at
              ∙ ap (λ (x : ℕ). Some x) (page_byte bytes first pages k b less there);
        }

    shared_grant : 0 < pages → Grant w.rest.tree s.space want (shared first pages c)
    shared_grant some =
        let has_it = from_all w.loads w.spaces one.at c sound.numbers one.there in
        let inside = (sound.spaces has_it.space.id has_it.space has_it.found).inside has_it.has.at c has_it.has.there in
        let most = sound.most in
        let skip : first - copied_from c.source ≡ first - from = ap (λ (x : Source). first - copied_from x) source in
        let start_is : page_address (c.first + (first - copied_from c.source)) ≡ start = ap (λ (x : ℕ). page_address (c.first + x)) skip in
        record {
          size = refl;
          writes = refl;
          anonymous = refl;
          begins = omega (arith, start_is);
          above = omega (arith, start_is);
          below = omega (arith, start_is, inside, most, low, high);
          lies = subst (λ a. may_lie (memory_of s.space) false a (wanted_bytes w.rest.tree want) ≡ true) (sym start_is)
              (lies_all (memory_of s.space) false start (wanted_bytes w.rest.tree want) lies_over);
        }

  -- ---- what mmap2 chooses

  module _ (len prot flags : ℕ) (seen : FileSide) (file_is : (id change : ℕ) → seen ≡ side.File id change → IsThere w.rest.tree id change) where
    some_pages : (want : Want) → Asks len prot flags seen want → 0 < pages_of want
    some_pages (Anon pages) asks = (let some = asks.some in let are = asks.pages_are in omega (arith, some, are))
    some_pages (File pages first write id change) asks = (let some = asks.some in let are = asks.pages_are in omega (arith, some, are))

    free_grant : (want : Want) (m : Mapping) → Asks len prot flags seen want → (o : Option ℕ)
        → first_of (free_runs_in w.rest.pages w.spaces) (place w.rest.kind (free_runs_in w.rest.pages w.spaces) (pages_of want)) ≡ o
        → option_map (own_run want) o ≡ Some m → Grant w.rest.tree s.space want m
    free_grant want m asks None at is = absurd cc
    free_grant want m asks (Some page) at is =
        let same : own_run want page ≡ m = cc in
        subst (Grant w.rest.tree s.space want) same
        (own_grant want page (fresh_run w.rest.pages w.spaces w.rest.kind (pages_of want) page (some_pages want asks) at))

    -- the copy has the pages
    pub record Covers (pages first id change : ℕ) (c : Mapping) : Type 0 where
      pub from : ℕ
      pub source : c.source ≡ Copy id change from
      pub low : from ≤ first
      pub high : first + pages ≤ from + c.pages

    covers : (pages first id change : ℕ) (c : Mapping) → has_pages id change first pages c ≡ true → Covers pages first id change c
    covers pages first id change c has_them = by c.source refl has_them
      where
        by : (x : Source) → c.source ≡ x → copy_covers id change first pages x c.pages ≡ true → Covers pages first id change c
        by Own is e = absurd cc
        by (Copy g k from) is e =
            let file_same : g ≡ id = grind (arith, nat_tests) in
            let count_same : k ≡ change = grind (arith, nat_tests) in
            record { from = from; source = is ∙ (λ j. Copy (file_same j) (count_same j) from); low = grind (arith, nat_tests); high = grind (arith, nat_tests) }

    copy_grant : (pages first id change : ℕ) (m : Mapping) → Asks len prot flags seen (File pages first false id change) → (o : Option Mapping)
        → lowest (has_pages id change first pages) (all_maps w.spaces) ≡ o → option_map (shared first pages) o ≡ Some m
        → Grant w.rest.tree s.space (File pages first false id change) m
    copy_grant pages first id change m asks None at is = absurd cc
    copy_grant pages first id change m asks (Some c) at is =
        let same : shared first pages c ≡ m = cc in
        let low = lowest_passes (has_pages id change first pages) (all_maps w.spaces) c at in
        let cov = covers pages first id change c low.passes in
        subst (Grant w.rest.tree s.space (File pages first false id change)) same
        (shared_grant pages first id change (file_is id change asks.is_file) c low.one cov.from cov.source cov.low cov.high (some_pages (File pages first false id change) asks))

    or_grant : (want : Want) (m : Mapping) → Asks len prot flags seen want → (o : Option Mapping) → in_copy w.spaces want ≡ o
        → or_own o (in_free_run w.rest.kind (free_runs_in w.rest.pages w.spaces) want) ≡ Some m → Grant w.rest.tree s.space want m
    or_grant want m asks None none is = free_grant want m asks _ refl is
    or_grant (Anon pages) m asks (Some n) some is = absurd cc
    or_grant (File pages first true id change) m asks (Some n) some is = absurd cc
    or_grant (File pages first false id change) m asks (Some n) some is = copy_grant pages first id change m asks _ refl (some ∙ is)

    pub granted : (want : Want) (m : Mapping) → Asks len prot flags seen want
        → or_own (in_copy w.spaces want) (in_free_run w.rest.kind (free_runs_in w.rest.pages w.spaces) want) ≡ Some m → Grant w.rest.tree s.space want m
    granted want m asks is = or_grant want m asks (in_copy w.spaces want) refl is
