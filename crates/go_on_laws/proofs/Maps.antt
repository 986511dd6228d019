-- mmap2, in a copy that is there and in a run of its own.
use Rattle.std.proofs.Common.{◌≡◌, ℕ, ◌+◌, ◌-◌, ◌*◌, ◌/◌, ◌^◌, ◌<◌, ◌≤◌, Bool, true, false, inl, inr, List, [], ◌∷◌, ◌++◌, length, map, Option, Some, None, Result, Ok, Err, refl, sym, ap, subst, ◌∙◌, arith}
use Rattle.std.specs.Prelude.{◌==◌, not, ◌||◌, ◌&&◌, nat_le, is_some, slice_get, option_map}
use Rattle.std.specs.List.{slice_index_or}
use Rattle.std.proofs.lemmas.Bool.{cases_Bool, cases_lt, and_parts, eqb-true, false≢true}
use Rattle.std.proofs.lemmas.Bool.Decides.{nat_tests}
use Rattle.std.proofs.lemmas.Option.{none-some, same_Some}
use Rattle.byte_words.specs.ByteMap.{Bytes}
use Rattle.page_runs.specs.Place.{place, first_of}
use Rattle.nommu_regions.specs.declared.region.Source.{Source}
use Rattle.nommu_regions.specs.declared.region.Source.TheVariants.{Own, Copy}
use Rattle.nommu_regions.specs.Regions.{is_copy, copy_covers}
use Rattle.call_log.specs.declared.errno.Errno.{Errno}
use Rattle.call_log.specs.declared.errno.Errno.TheVariants.{Enomem}
use Rattle.mmap_rules.specs.declared.mapping.Mapping.{Mapping}
use Rattle.mmap_rules.specs.declared.want.Want.{Want}
use Rattle.mmap_rules.specs.declared.want.Want.TheVariants.{Anon, File}
use Rattle.mmap_rules.specs.Space.{Space, in_range, own_in}
use Rattle.mmap_rules.specs.Held.{page_address}
use Rattle.mmap_rules.specs.Want.{wanted}
use Rattle.mmap_rules.specs.Mappings.{page_at}
use Rattle.mmap_rules.proofs.Lists.{each_append, each_one}
use Rattle.mmap_rules.specs.Copies.{wanted_bytes, pages_of}
use Rattle.region_watch.specs.Private.{only}
use Rattle.mem_files.specs.Inodes.{Inodes, inode_at}
use Rattle.vfork_exec.specs.Keyed.{find, change}
use Rattle.machine_world.specs.World.{Process, LiveSpace, World, id_of}
use Rattle.machine_world.specs.Free.{is_held, free_runs_in}
use Rattle.machine_world.specs.Asks.{Ask, arg, leaves, with_ok, view_of}
use Rattle.machine_world.specs.MapCalls.{all_maps, in_copy, with_mapping, lowest, has_pages, shared, own_run, in_free_run, maps, or_own, mapped, file_side, mmap2_row}
use Rattle.machine_world.specs.Event.{Trace, went, ask_of, answered}
use Rattle.machine_world.proofs.States.{with_own}
use Rattle.alone_laws.specs.Sound.{AreApart, HoldsSource, IsSound}
use Rattle.alone_laws.proofs.AllMaps.{Around, around}
use Rattle.alone_laws.proofs.Bytes.{bytes_inside, bytes_before, bytes_behind}
use Rattle.alone_laws.proofs.FreePages.{each_of_all}
use Rattle.alone_laws.proofs.Maps.{chosen_more}
use Rattle.alone_laws.proofs.MoreMaps.{IsMore}
use Rattle.alone_laws.proofs.SharedPages.{HasIt, from_all, Passes, lowest_passes, IsFree, fresh_run}
use Rattle.alone_laws.proofs.Wanted.{IsThere, IsWanted, is_wanted}
use Rattle.memory_world.specs.Physical.{Physical, in_memory, shown_space, is_free_at, laid_behind, behind, after, carried, answered_in}
use Rattle.go_on_laws.specs.Alike.{in_pages, Stands}
use Rattle.go_on_laws.proofs.Pages.{own_page, page_inside, not_free, own_not_free}
use Rattle.go_on_laws.proofs.Behind.{HasSource, has_elsewhere, IsIn, in_elsewhere, Behind, behind_shown, Goes, Came, is_in, behind_changed}
use Rattle.go_on_laws.proofs.Writes.{only_at, only_off, goes_refuses}
use Rattle.go_on_laws.proofs.Laid.{changed_in, laid, laid_held, laid_some, laid_none, free_space, free_none}
use Rattle.go_on_laws.proofs.Unmaps.{left_with, left_trace, goes_leaves, goes_put}

-- ---- a space with a mapping more

own_more : (ms : List Mapping) (m : Mapping) (a : ℕ) → own_in (ms ++ m ∷ []) a ≡ (own_in ms a || in_range m.range a)
unfolding own_in
own_more [] m a = by (in_range m.range a)
  where
    by : (b : Bool) → (b || false) ≡ b
    by true = refl
    by false = refl
own_more (n ∷ ms) m a = by (in_range n.range a) _ _ _ (own_more ms m a)
  where
    by : (b x y z : Bool) → x ≡ (y || z) → (b || x) ≡ ((b || y) || z)
    by true x y z e = refl
    by false x y z e = e

module _ (memory : Bytes) (nodes : Inodes) (s : Space) (m : Mapping) (bs : List ℕ) (long : length bs ≡ m.range.size) where
  abbrev more_space : Space
  more_space = with_mapping s m bs

  pub off : (a : ℕ) → in_range m.range a ≡ false → more_space.bytes a ≡ s.bytes a
  off a away = elim (cases_lt a m.range.from) [
    | inl low ↦ bytes_before s.bytes m.range.from bs a low
    | inr high ↦ bytes_behind s.bytes m.range.from bs a (let past : m.range.from + m.range.size ≤ a = grind (arith, nat_tests) in omega (arith, long, past))
  ]

  pub on : (a : ℕ) → in_range m.range a ≡ true → more_space.bytes a ≡ Some (slice_index_or bs (a - m.range.from) 0)
  on a inside =
      let low : m.range.from ≤ a = grind (arith, nat_tests) in
      let high : a < m.range.from + m.range.size = grind (arith, nat_tests) in
      let at : a ≡ m.range.from + (a - m.range.from) = omega (arith, low) in
      ap more_space.bytes at ∙ bytes_inside s.bytes m.range.from bs (a - m.range.from) (omega (arith, low, high, long))

  -- it is in a memory that has its bytes, and elsewhere what it was in
  pub mapped_in : (new : Bytes) → IsIn memory nodes s → ((a : ℕ) → in_range m.range a ≡ true → new a ≡ more_space.bytes a)
      → ((a : ℕ) → own_in s.maps a ≡ true → in_range m.range a ≡ false → new a ≡ memory a)
      → ((j : ℕ) (n : Mapping) → slice_get s.maps j ≡ Some n → is_copy n.source ≡ true → (a : ℕ) → in_pages n a ≡ true → new a ≡ memory a) → HasSource new nodes m m.source
      → IsIn new nodes more_space
  mapped_in new was here others copies has = record {
    shown = λ i a. at a i;
    files = each_append (λ n. HasSource new nodes n n.source) s.maps (m ∷ []) (λ j n there. has_elsewhere memory new nodes n n.source (copies j n there) (was.files j n there))
        (each_one (λ n. HasSource new nodes n n.source) m has);
  }
    where
      by_old : (a : ℕ) → in_range m.range a ≡ false → (b : Bool) → own_in s.maps a ≡ b → only (own_in s.maps) memory a ≡ only (own_in more_space.maps) new a
      by_old a away true own =
          only_at (own_in s.maps) memory a own ∙ sym (others a own away)
          ∙ sym (only_at (own_in more_space.maps) new a (own_more s.maps m a ∙ (λ i. own i || in_range m.range a)))
      by_old a away false own =
          only_off (own_in s.maps) memory a own ∙ sym (only_off (own_in more_space.maps) new a (own_more s.maps m a ∙ (λ i. own i || away i)))

      or_true : (b : Bool) → (b || true) ≡ true
      or_true true = refl
      or_true false = refl

      at : (a : ℕ) → more_space.bytes a ≡ only (own_in more_space.maps) new a
      at a = elim (cases_Bool (in_range m.range a)) [
        | inl inside ↦
            sym (here a inside)
            ∙ sym (only_at (own_in more_space.maps) new a (own_more s.maps m a ∙ ap (λ (b : Bool). own_in s.maps a || b) inside ∙ or_true (own_in s.maps a)))
        | inr away ↦ off a away ∙ ap (λ (f : Bytes). f a) was.shown ∙ by_old a away (own_in s.maps a) refl
      ]

-- pages of a copy are all in its pages
has_shared : (memory : Bytes) (nodes : Inodes) (c : Mapping) (first pages : ℕ) (source : Source) → HasSource memory nodes c source → HasSource memory nodes (shared first pages c) source
has_shared memory nodes c first pages Own has = tt
has_shared memory nodes c first pages (Copy file change from) has = record { given = has.given; up = has.up; same = has.same }

-- ---- the call

module _ (p : Physical) (sound : IsSound p.world) (stands : Stands p.world p) (q : Process) (s : LiveSpace) (has : find id_of q.space p.world.spaces ≡ Some s) (bytes : List ℕ) where
  abbrev the_ask : Ask
  the_ask = ask_of p.world q s.space bytes

  abbrev nodes : Inodes
  nodes = p.world.rest.tree

  -- ---- in a run of its own

  module _ (m : Mapping) (bs : List ℕ) (page count : ℕ) (free : IsFree p.world.rest.pages p.world.spaces page count) (first : m.first ≡ page) (pages : m.pages ≡ count)
      (from : m.range.from ≡ page_address page) (size : m.range.size ≡ 4096 * count) (long : length bs ≡ m.range.size) (holds : HoldsSource (with_mapping s.space m bs) nodes m m.source) where
    abbrev space : Space
    space = with_mapping s.space m bs

    abbrev spaces : List LiveSpace
    spaces = change id_of q.space (λ l. with_own l space) p.world.spaces

    abbrev memory : Bytes
    memory = laid p.world spaces p.memory

    is_free : (a : ℕ) → in_range m.range a ≡ true → is_free_at p.world a ≡ true
    is_free a inside =
        let low : 2 ^ 31 + 4096 * page ≤ a = grind (arith, nat_tests) in
        let high : a < 2 ^ 31 + 4096 * (page + count) = grind (arith, nat_tests) in
        let above : page ≤ (a - 2 ^ 31) / 4096 = omega arith in
        let below : (a - 2 ^ 31) / 4096 < page + count = omega arith in
        let none : is_held p.world.spaces (page_at a) ≡ false = free.free (page_at a) above below in
        let base : nat_le (2 ^ 31) a ≡ true = grind (arith, nat_tests) in
        (λ i. base i && not (none i))

    here : (a : ℕ) → in_range m.range a ≡ true → memory a ≡ space.bytes a
    here a inside =
        let byte = on p.memory nodes s.space m bs long a inside in
        laid_some p.world spaces p.memory a (slice_index_or bs (a - m.range.from) 0) (is_free a inside)
        (changed_in q.space space s p.world.spaces a has (free_none p sound stands a (is_free a inside)) ∙ byte) ∙ sym byte

    beside : (a : ℕ) → in_range m.range a ≡ false → memory a ≡ p.memory a
    beside a away =
        laid_none p.world spaces p.memory a
        (λ is. changed_in q.space space s p.world.spaces a has (free_none p sound stands a is) ∙ off p.memory nodes s.space m bs long a away ∙ free_space p sound stands q.space s a has is)

    in_it : (a : ℕ) → in_pages m a ≡ true → in_range m.range a ≡ true
    in_it a inside = grind (arith, nat_tests)

    it_in : (a : ℕ) → in_range m.range a ≡ true → in_pages m a ≡ true
    it_in a inside = grind (arith, nat_tests)

    has_laid : (source : Source) → HoldsSource space nodes m source → HasSource memory nodes m source
    has_laid Own its = tt
    has_laid (Copy file change first) its = record {
      given = its.given;
      up = its.up;
      same = λ n a there same inside. here a (in_it a inside) ∙ its.same n a there same (in_it a inside);
    }

    all_laid : (a : ℕ) → is_some (memory a) ≡ in_memory p.world a
    all_laid a = elim (cases_Bool (in_range m.range a)) [
      | inl inside ↦
          ap is_some (here a inside ∙ on p.memory nodes s.space m bs long a inside)
          ∙ sym (page_inside p.world m a (let all = free.inside in omega (arith, first, pages, all)) (it_in a inside))
      | inr away ↦ ap is_some (beside a away) ∙ stands.all a
    ]

    left_laid : Behind p.world p.world.loads spaces memory
    left_laid =
        behind_changed p sound stands q.space s has space memory
        (mapped_in p.memory nodes s.space m bs long memory (is_in p sound stands q.space s has) here (λ a own away. beside a away)
        (λ j n there copy a inside. laid_held p.world spaces p.memory a (not_free p.world q.space s j n a has there inside)) (has_laid m.source holds))
        (λ k t other found.
        in_elsewhere p.memory memory nodes t.space (λ a own. laid_held p.world spaces p.memory a (own_not_free p.world sound k t found a own))
        (λ j n there copy a inside. laid_held p.world spaces p.memory a (not_free p.world k t j n a found there inside)) (is_in p sound stands k t found))
        all_laid

    abbrev now : World
    now = left_with p sound stands q s has bytes m.range.from space

    abbrev trace : Trace
    trace = left_trace p sound stands q s has bytes m.range.from space

    laid_is : laid_behind p p.memory now trace ≡ memory
    unfolding laid_behind
    laid_is = refl

    behind_is : behind p p.memory now trace ≡ record p { world = now; memory = memory }
    behind_is =
        ap (λ (b : Bytes). record p { world = record now { spaces = map (shown_space b) spaces }; memory = b }) laid_is
        ∙ ap (λ (ss : List LiveSpace). record p { world = record now { spaces = ss }; memory = memory }) (behind_shown p.world p.world.loads spaces memory left_laid)

    came_fresh : Came p now false (carried p p.memory (went now trace))
    came_fresh = record { behind = record p { world = now; memory = memory }; is = ap (λ z. after z false) behind_is; world = refl; headers = refl; left = left_laid }

  -- ---- what is chosen

  abbrev Maps : Want → Mapping → Type 0
  Maps want m =
      Goes p (answered p.world the_ask (leaves the_ask m.range.from (with_mapping s.space m (wanted_bytes nodes want))))
      (answered_in p the_ask (leaves the_ask m.range.from (with_mapping s.space m (wanted_bytes nodes want))))

  abbrev its_around : Around q.space s p.world.spaces
  its_around = around q.space p.world.loads s p.world.spaces sound.numbers has

  abbrev More : Want → Mapping → Type 0
  More want m = IsMore p.world.rest.pages (its_around.front ++ (s.space.maps ++ its_around.back)) s.space nodes m (wanted_bytes nodes want)

  abbrev own_choice : Want → Option Mapping
  own_choice want = in_free_run p.world.rest.kind (free_runs_in p.world.rest.pages p.world.spaces) want

  is_more : (want : Want) (m : Mapping) → IsWanted nodes want → or_own (in_copy p.world.spaces want) (own_choice want) ≡ Some m → More want m
  is_more want m known is =
      chosen_more the_ask its_around.front its_around.back p.world.loads sound.numbers its_around.is
      (each_of_all (λ n. n.first + n.pages ≤ p.world.rest.pages) p.world.loads p.world.spaces sound.numbers (λ i t found. (sound.spaces i t found).inside))
      (record { is_space = sound.spaces q.space s has; apart = subst AreApart its_around.is sound.apart; holds = sound.copies q.space s has }) want m known is

  maps_own : (want : Want) (page : ℕ) → IsFree p.world.rest.pages p.world.spaces page (pages_of want) → More want (own_run want page) → Maps want (own_run want page)
  maps_own (Anon pages) page free more =
      goes_leaves p sound stands q s has bytes (page_address page) _
      (came_fresh (own_run (Anon pages) page) (wanted_bytes nodes (Anon pages)) page pages free refl refl refl refl more.long more.holds)
  maps_own (File pages first true id change) page free more =
      goes_leaves p sound stands q s has bytes (page_address page) _
      (came_fresh (own_run (File pages first true id change) page) (wanted_bytes nodes (File pages first true id change)) page pages free refl refl refl refl more.long more.holds)
  maps_own (File pages first false id change) page free more =
      goes_leaves p sound stands q s has bytes (page_address page) _
      (came_fresh (own_run (File pages first false id change) page) (wanted_bytes nodes (File pages first false id change)) page pages free refl refl refl refl more.long more.holds)

  maps_free : (want : Want) (m : Mapping) → 0 < pages_of want → More want m → (o : Option ℕ)
      → first_of (free_runs_in p.world.rest.pages p.world.spaces) (place p.world.rest.kind (free_runs_in p.world.rest.pages p.world.spaces) (pages_of want)) ≡ o
      → option_map (own_run want) o ≡ Some m → Maps want m
  maps_free want m some more None at is = absurd (none-some m is)
  maps_free want m some more (Some page) at is =
      let same : own_run want page ≡ m = same_Some (own_run want page) m is in
      subst (Maps want) same
      (maps_own want page (fresh_run p.world.rest.pages p.world.spaces p.world.rest.kind (pages_of want) page some at) (subst (More want) (sym same) more))

  -- pages of a copy that is there: memory has its bytes
  module _ (pages first id change : ℕ) (c : Mapping) (f : IsThere nodes id change) (low : Passes (has_pages id change first pages) (all_maps p.world.spaces) c)
      (more : More (File pages first false id change) (shared first pages c)) where
    abbrev part : Mapping
    part = shared first pages c

    abbrev file_bytes : List ℕ
    file_bytes = wanted_bytes nodes (File pages first false id change)

    has_it : HasSource p.memory nodes part c.source
    has_it =
        let it : HasIt p.world.spaces c = from_all p.world.loads p.world.spaces low.one.at c sound.numbers low.one.there in
        has_shared p.memory nodes c first pages c.source ((is_in p sound stands it.space.id it.space it.found).files it.has.at c it.has.there)

    same_byte : (a : ℕ) → in_range part.range a ≡ true → (source : Source) → copy_covers id change first pages source c.pages ≡ true
        → HoldsSource (with_mapping s.space part file_bytes) nodes part source → HasSource p.memory nodes part source → p.memory a ≡ (with_mapping s.space part file_bytes).bytes a
    same_byte a inside Own covers holds has = absurd (false≢true covers)
    same_byte a inside (Copy g k from) covers holds has =
        let ends = and_parts (g == id && k == change && nat_le from first) (nat_le (first + pages) (from + c.pages)) covers in
        let begins = and_parts (g == id && k == change) (nat_le from first) ends.0 in
        let same = and_parts (g == id) (k == change) begins.0 in
        let there : inode_at nodes g ≡ Some f.node = ap (inode_at nodes) (eqb-true g id same.0) ∙ f.there in
        let count : k ≡ f.node.change = eqb-true k change same.1 ∙ sym f.count in
        has.same f.node a there count (own_page p.world.rest.pages part a more.mapping inside) ∙ sym (holds.same f.node a there count inside)

    maps_copy : Maps (File pages first false id change) part
    maps_copy =
        goes_put p sound stands q s has bytes part.range.from _
        (mapped_in p.memory nodes s.space part file_bytes more.long p.memory (is_in p sound stands q.space s has) (λ a inside. same_byte a inside c.source low.passes more.holds has_it)
        (λ a own away. refl) (λ j n there copy a inside. refl) has_it)

  some_pages : (want : Want) → IsWanted nodes want → 0 < pages_of want
  some_pages (Anon pages) known = known
  some_pages (File pages first write id change) known = known.0

  maps_chosen : (want : Want) (m : Mapping) → IsWanted nodes want → (o : Option Mapping) → in_copy p.world.spaces want ≡ o → or_own o (own_choice want) ≡ Some m → More want m → Maps want m
  maps_chosen want m known None none is more = maps_free want m (some_pages want known) more _ refl is
  maps_chosen (Anon pages) m known (Some n) some is more = absurd (none-some n some)
  maps_chosen (File pages first true id change) m known (Some n) some is more = absurd (none-some n some)
  maps_chosen (File pages first false id change) m known (Some n) some is more = by (lowest (has_pages id change first pages) (all_maps p.world.spaces)) refl (some ∙ is)
    where
      by : (o : Option Mapping) → lowest (has_pages id change first pages) (all_maps p.world.spaces) ≡ o → option_map (shared first pages) o ≡ Some m → Maps (File pages first false id change) m
      by None low e = absurd (none-some m e)
      by (Some c) low e =
          let same : shared first pages c ≡ m = same_Some (shared first pages c) m e in
          subst (Maps (File pages first false id change)) same
          (maps_copy pages first id change c known.1 (lowest_passes (has_pages id change first pages) (all_maps p.world.spaces) c low)
          (subst (More (File pages first false id change)) (sym same) more))

  goes_maps : (want : Want) (o : Option Mapping) → IsWanted nodes want → or_own (in_copy p.world.spaces want) (own_choice want) ≡ o
      → Goes p (answered p.world the_ask (maps the_ask want o)) (answered_in p the_ask (maps the_ask want o))
  goes_maps want None known is = goes_refuses p sound stands q s has bytes Enomem
  goes_maps want (Some m) known is = maps_chosen want m known (in_copy p.world.spaces want) refl is (is_more want m known is)

  goes_wanted : (o : Result Want Errno) → wanted (arg the_ask 0) (arg the_ask 1) (arg the_ask 2) (arg the_ask 3) (arg the_ask 5) (file_side the_ask) ≡ o
      → Goes p (answered p.world the_ask (with_ok the_ask o (mapped the_ask))) (answered_in p the_ask (with_ok the_ask o (mapped the_ask)))
  goes_wanted (Err errno) is = goes_refuses p sound stands q s has bytes errno
  goes_wanted (Ok want) is =
      goes_maps want (or_own (in_copy p.world.spaces want) (own_choice want))
      (is_wanted nodes (view_of the_ask (arg the_ask 4)) (arg the_ask 0) (arg the_ask 1) (arg the_ask 2) (arg the_ask 3) (arg the_ask 5) want is) refl

  pub goes_mmap2 : Goes p (answered p.world the_ask (mmap2_row the_ask)) (answered_in p the_ask (mmap2_row the_ask))
  unfolding mmap2_row
  goes_mmap2 = goes_wanted (wanted (arg the_ask 0) (arg the_ask 1) (arg the_ask 2) (arg the_ask 3) (arg the_ask 5) (file_side the_ask)) refl
