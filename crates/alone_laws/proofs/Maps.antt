-- A space of a sound world behind mmap2.
use Rattle.std.proofs.Common.{◌≡◌, ℕ, zero, suc, ◌+◌, ◌-◌, ◌*◌, ◌<◌, ◌≤◌, Bool, true, false, List, [], ◌∷◌, ◌++◌, Option, Some, None, Ok, Err, refl, sym, ap, subst, ◌∙◌, arith}
use Rattle.std.specs.Prelude.{◌==◌, ◌&&◌, nat_le, Result, slice_get, option_map, if◌then◌else◌}
use Rattle.std.proofs.lemmas.Bool.{and_parts, eqb-true, leb-true, false≢true}
use Rattle.std.proofs.lemmas.Option.{none-some, same_Some}
use Rattle.std.proofs.lemmas.List.{length-replicate}
use Rattle.call_log.specs.declared.errno.Errno.{Errno}
use Rattle.page_runs.specs.Place.{place, first_of}
use Rattle.nommu_regions.specs.declared.region.Source.{Source}
use Rattle.nommu_regions.specs.declared.region.Source.TheVariants.{Own, Copy}
use Rattle.nommu_regions.specs.Regions.{is_copy, copy_covers}
use Rattle.mmap_rules.specs.declared.mapping.Mapping.{Mapping}
use Rattle.mmap_rules.specs.declared.want.Want.{Want}
use Rattle.mmap_rules.specs.declared.want.Want.TheVariants.{Anon, File}
use Rattle.mmap_rules.specs.Held.{page_address}
use Rattle.mmap_rules.specs.Want.{wanted}
use Rattle.mmap_rules.specs.Mappings.{copied_from, file_pages}
use Rattle.mmap_rules.proofs.Mapped.{run_is, part_is}
use Rattle.mmap_rules.specs.Copies.{wanted_bytes, pages_of}
use Rattle.mem_files.specs.Inodes.{Inodes, bytes_of}
use Rattle.vfork_exec.specs.Keyed.{Falls}
use Rattle.machine_world.specs.World.{id_of}
use Rattle.machine_world.specs.Free.{free_runs_in}
use Rattle.machine_world.specs.Asks.{Ask, arg, view_of, with_ok}
use Rattle.machine_world.specs.MapCalls.{all_maps, in_copy, with_mapping, lower, lowest, has_pages, shared, own_run, in_free_run, maps, or_own, mapped, file_side, mmap2_row}
use Rattle.alone_laws.specs.Sound.{ShareCopy, Apart, AreApart, HoldsSource}
use Rattle.alone_laws.proofs.Apart.{apart_copy}
use Rattle.alone_laws.proofs.LaidBytes.{length-file_pages}
use Rattle.alone_laws.proofs.Wanted.{IsThere, IsWanted, is_wanted}
use Rattle.alone_laws.proofs.MoreMaps.{file_laid, IsMore, fit_more}
use Rattle.alone_laws.proofs.SharedPages.{IsFree, fresh_run}
use Rattle.alone_laws.proofs.FreePages.{free_apart}
use Rattle.alone_laws.proofs.Spaces.{IsFit, InSpace}

-- ---- the lowest mapping that passes stands in the list

pub record Lowest (test : Mapping → Bool) (ms : List Mapping) (m : Mapping) : Type 0 where
  pub at : ℕ
  pub there : slice_get ms at ≡ Some m
  pub passes : test m ≡ true

lowest_there : (test : Mapping → Bool) (ms : List Mapping) (m : Mapping) → lowest test ms ≡ Some m → Lowest test ms m
lowest_there test [] m is = absurd (none-some m is)
lowest_there test (x ∷ ms) m is = by (test x) (lowest test ms) refl refl is (λ o. lowest_there test ms m o)
  where
    behind : Lowest test ms m → Lowest test (x ∷ ms) m
    behind l = record { at = suc l.at; there = l.there; passes = l.passes }

    here : test x ≡ true → x ≡ m → Lowest test (x ∷ ms) m
    here passes same = record { at = 0; there = ap (λ (y : Mapping). Some y) same; passes = ap test (sym same) ∙ passes }

    of_two : (b : Bool) (y : Mapping) → test x ≡ true → lowest test ms ≡ Some y → (if b then Some x else Some y) ≡ Some m → (lowest test ms ≡ Some m → Lowest test ms m) → Lowest test (x ∷ ms) m
    of_two true y passes least is more = here passes (same_Some x m is)
    of_two false y passes least is more = behind (more (least ∙ is))

    by : (b : Bool) (o : Option Mapping) → test x ≡ b → lowest test ms ≡ o → (if b then lower x o else o) ≡ Some m → (lowest test ms ≡ Some m → Lowest test ms m) → Lowest test (x ∷ ms) m
    by false o fails least is more = behind (more (least ∙ is))
    by true None passes least is more = here passes (same_Some x m is)
    by true (Some y) passes least is more = of_two (nat_le x.first y.first) y passes least is more

-- a copy that has pages of a file
record HasCopy (id change first pages : ℕ) (m : Mapping) : Type 0 where
  from : ℕ
  source : m.source ≡ Copy id change from
  least : from ≤ first
  most : first + pages ≤ from + m.pages

has_copy : (id change first pages : ℕ) (m : Mapping) → has_pages id change first pages m ≡ true → HasCopy id change first pages m
has_copy id change first pages m has = by m.source refl has
  where
    by : (source : Source) → m.source ≡ source → copy_covers id change first pages source m.pages ≡ true → HasCopy id change first pages m
    by Own is has = absurd (false≢true has)
    by (Copy f c from) is has =
        let ends = and_parts (f == id && c == change && nat_le from first) (nat_le (first + pages) (from + m.pages)) has in
        let begins = and_parts (f == id && c == change) (nat_le from first) ends.0 in
        let same = and_parts (f == id) (c == change) begins.0 in
        record {
          from = from;
          source = is ∙ (λ i. Copy (eqb-true f id same.0 i) (eqb-true c change same.1 i) from);
          least = leb-true from first begins.1;
          most = leb-true (first + pages) (from + m.pages) ends.1;
        }

-- ---- the mapping

module _ (a : Ask) (front back : List Mapping) (b : ℕ) (falls : Falls id_of b a.spaces) (are : all_maps a.spaces ≡ front ++ (a.space.maps ++ back))
    (inside : (j : ℕ) (m : Mapping) → slice_get (all_maps a.spaces) j ≡ Some m → m.first + m.pages ≤ a.rest.pages) (fit : IsFit a.rest.pages front back a.rest.tree a.space) where
  apart : AreApart (all_maps a.spaces)
  apart = subst AreApart (sym are) fit.apart

  abbrev nodes : Inodes
  nodes = a.rest.tree

  abbrev More : Want → Mapping → Type 0
  More want m = IsMore a.rest.pages (front ++ (a.space.maps ++ back)) a.space nodes m (wanted_bytes nodes want)

  apart_here : (m : Mapping) → ((j : ℕ) (n : Mapping) → slice_get (all_maps a.spaces) j ≡ Some n → Apart n m)
      → (j : ℕ) (n : Mapping) → slice_get (front ++ (a.space.maps ++ back)) j ≡ Some n → Apart n m
  apart_here m each = subst (λ (ms : List Mapping). (j : ℕ) (n : Mapping) → slice_get ms j ≡ Some n → Apart n m) are each

  -- a run of its own
  own_more : (want : Want) (page : ℕ) → IsWanted nodes want
      → first_of (free_runs_in a.rest.pages a.spaces) (place a.rest.kind (free_runs_in a.rest.pages a.spaces) (pages_of want)) ≡ Some page → More want (own_run want page)
  own_more (Anon pages) page some chosen =
      let free : IsFree a.rest.pages a.spaces page pages = fresh_run a.rest.pages a.spaces a.rest.kind pages page some chosen in
      record {
        mapping = run_is a.rest.pages page pages true true Own some free.inside (λ is. refl) (λ is. refl);
        inside = free.inside;
        apart = apart_here (own_run (Anon pages) page) (free_apart a.rest.pages b a.spaces page pages (own_run (Anon pages) page) falls free refl refl);
        long = length-replicate (4096 * pages) zero;
        holds = tt;
      }
  own_more (File pages first true id change) page known chosen =
      let free : IsFree a.rest.pages a.spaces page pages = fresh_run a.rest.pages a.spaces a.rest.kind pages page known.0 chosen in
      record {
        mapping = run_is a.rest.pages page pages true false Own known.0 free.inside (λ is. refl) (λ is. refl);
        inside = free.inside;
        apart = apart_here (own_run (File pages first true id change) page) (free_apart a.rest.pages b a.spaces page pages (own_run (File pages first true id change) page) falls free refl refl);
        long = length-file_pages (bytes_of nodes id) first pages;
        holds = tt;
      }
  own_more (File pages first false id change) page known chosen =
      let free : IsFree a.rest.pages a.spaces page pages = fresh_run a.rest.pages a.spaces a.rest.kind pages page known.0 chosen in
      record {
        mapping = run_is a.rest.pages page pages false false (Copy id change first) known.0 free.inside (λ is. absurd (false≢true is)) (λ is. absurd (false≢true is));
        inside = free.inside;
        apart = apart_here (own_run (File pages first false id change) page) (free_apart a.rest.pages b a.spaces page pages (own_run (File pages first false id change) page) falls free refl refl);
        long = length-file_pages (bytes_of nodes id) first pages;
        holds = file_laid a.space nodes (own_run (File pages first false id change) page) id change first first pages known.1 (omega arith) refl (omega arith) refl;
      }

  -- pages of a copy that is there
  copy_more : (id change first pages : ℕ) (c : Mapping) → 0 < pages → IsThere nodes id change → Lowest (has_pages id change first pages) (all_maps a.spaces) c
      → More (File pages first false id change) (shared first pages c)
  copy_more id change first pages c some there low =
      let has : HasCopy id change first pages c = has_copy id change first pages c low.passes in
      let from : copied_from c.source ≡ has.from = ap copied_from has.source in
      let least = has.least in
      let most = has.most in
      let within = inside low.at c low.there in
      let copy : is_copy c.source ≡ true = ap is_copy has.source in
      record {
        mapping = part_is a.rest.pages c.first c.pages (first - copied_from c.source) pages c.source some (omega arith) within;
        inside = within;
        apart = apart_here (shared first pages c)
            (λ j n is page on_n on_c. (
            let shares : ShareCopy n c = apart_copy (all_maps a.spaces) low.at c apart low.there copy j n is page on_n on_c in
            record { copy = shares.copy; first = shares.first; pages = shares.pages; source = shares.source }));
        long = length-file_pages (bytes_of nodes id) first pages;
        holds = subst (HoldsSource (with_mapping a.space (shared first pages c) (file_pages (bytes_of nodes id) first pages)) nodes (shared first pages c)) (sym has.source)
            (file_laid a.space nodes (shared first pages c) id change has.from first pages there has.least has.source
            (ap (λ (n : ℕ). page_address (c.first + (first - n))) from) refl);
      }

  -- ---- what is chosen

  abbrev own_choice : Want → Option Mapping
  own_choice want = in_free_run a.rest.kind (free_runs_in a.rest.pages a.spaces) want

  own_chosen : (want : Want) (m : Mapping) (o : Option ℕ) → IsWanted nodes want
      → first_of (free_runs_in a.rest.pages a.spaces) (place a.rest.kind (free_runs_in a.rest.pages a.spaces) (pages_of want)) ≡ o
      → option_map (own_run want) o ≡ Some m → More want m
  own_chosen want m None known chosen is = absurd (none-some m is)
  own_chosen want m (Some page) known chosen is = subst (More want) (same_Some (own_run want page) m is) (own_more want page known chosen)

  by_own : (want : Want) (m : Mapping) → IsWanted nodes want → own_choice want ≡ Some m → More want m
  by_own want m known is =
      own_chosen want m (first_of (free_runs_in a.rest.pages a.spaces) (place a.rest.kind (free_runs_in a.rest.pages a.spaces) (pages_of want))) known refl is

  by_copy : (pages first id change : ℕ) (m : Mapping) (o : Option Mapping) → IsWanted nodes (File pages first false id change)
      → lowest (has_pages id change first pages) (all_maps a.spaces) ≡ o
      → or_own (option_map (shared first pages) o) (own_choice (File pages first false id change)) ≡ Some m → More (File pages first false id change) m
  by_copy pages first id change m None known low is = by_own (File pages first false id change) m known is
  by_copy pages first id change m (Some c) known low is =
      subst (More (File pages first false id change)) (same_Some (shared first pages c) m is)
      (copy_more id change first pages c known.0 known.1 (lowest_there (has_pages id change first pages) (all_maps a.spaces) c low))

  pub chosen_more : (want : Want) (m : Mapping) → IsWanted nodes want → or_own (in_copy a.spaces want) (own_choice want) ≡ Some m → More want m
  chosen_more (Anon pages) m known is = by_own (Anon pages) m known is
  chosen_more (File pages first true id change) m known is = by_own (File pages first true id change) m known is
  chosen_more (File pages first false id change) m known is =
      by_copy pages first id change m (lowest (has_pages id change first pages) (all_maps a.spaces)) known refl is

  -- ---- the row

  fit_maps : (want : Want) (o : Option Mapping) → IsWanted nodes want → or_own (in_copy a.spaces want) (own_choice want) ≡ o
      → InSpace (IsFit a.rest.pages front back nodes) (maps a want o)
  fit_maps want None known is = fit
  fit_maps want (Some m) known is = fit_more a.rest.pages front back nodes a.space m (wanted_bytes nodes want) fit (chosen_more want m known is)

  fit_wanted : (o : Result Want Errno) → wanted (arg a 0) (arg a 1) (arg a 2) (arg a 3) (arg a 5) (file_side a) ≡ o
      → InSpace (IsFit a.rest.pages front back nodes) (with_ok a o (mapped a))
  fit_wanted (Ok want) is =
      fit_maps want (or_own (in_copy a.spaces want) (own_choice want))
      (is_wanted nodes (view_of a (arg a 4)) (arg a 0) (arg a 1) (arg a 2) (arg a 3) (arg a 5) want is) refl
  fit_wanted (Err errno) is = fit

  pub fit_mapped : InSpace (IsFit a.rest.pages front back nodes) (mmap2_row a)
  unfolding mmap2_row
  fit_mapped = fit_wanted (wanted (arg a 0) (arg a 1) (arg a 2) (arg a 3) (arg a 5) (file_side a)) refl
