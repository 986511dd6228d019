-- In a bounded world no pid, no count, no break and no address of a mapping is an errno.
use Rattle.std.proofs.Common.{◌≡◌, ℕ, ◌+◌, ◌-◌, ◌*◌, ◌^◌, ◌<◌, ◌≤◌, Bool, true, false, List, [], ◌∷◌, length, map, sum, Option, Some, None, Ok, refl, subst, arith}
use Rattle.std.specs.Prelude.{◌==◌, ◌&&◌, nat_le, option_map, IfSome, if◌then◌else◌}
use Rattle.std.specs.List.{AllByRecursion}
use Rattle.std.proofs.lemmas.Bool.{and_parts, leb-true, false≢true}
use Rattle.std.proofs.lemmas.Bool.Decides.{nat_tests}
use Rattle.std.proofs.lemmas.Option.{none-some, same_Some}
use Rattle.call_log.specs.Notes.{CallEntry, Note, calls_in, bytes_in, most_calls, most_bytes, weight_of, has_room}
use Rattle.nommu_regions.specs.declared.region.Source.{Source}
use Rattle.nommu_regions.specs.declared.region.Source.TheVariants.{Own, Copy}
use Rattle.nommu_regions.specs.Regions.{copy_covers}
use Rattle.mmap_rules.specs.declared.mapping.Mapping.{Mapping}
use Rattle.mmap_rules.specs.declared.want.Want.{Want}
use Rattle.mmap_rules.specs.declared.want.Want.TheVariants.{Anon, File}
use Rattle.mmap_rules.specs.Space.{Space}
use Rattle.mmap_rules.specs.Mappings.{copied_from}
use Rattle.mmap_rules.specs.Copies.{pages_of}
use Rattle.fd_tables.specs.Files.{Table, most_descriptors, table_at, free_in, lowest_free}
use Rattle.fd_tables.proofs.NextNumbers.{first_there}
use Rattle.flat_loader.specs.Alone.{is_errno, most_pages}
use Rattle.vfork_exec.specs.Keyed.{find}
use Rattle.vfork_exec.proofs.Keyed.{find_key, find_below}
use Rattle.machine_world.specs.World.{Process, LiveSpace, World, pid_of}
use Rattle.machine_world.specs.Asks.{Ask, Reply, arg, view_of, free_of}
use Rattle.machine_world.specs.MapCalls.{all_maps, lowest, has_pages, shared, own_run, or_own}
use Rattle.machine_world.specs.Placements.{placed_page}
use Rattle.machine_world.specs.Rows.{next_brk}
use Rattle.machine_world.specs.Recordings.{is_recorded, with_brought}
use Rattle.machine_world.specs.Event.{ask_of, entry_of, brought, with_bytes_of, room_for}
use Rattle.alone_laws.proofs.SharedPages.{Passes, lowest_passes, fresh_run}
use Rattle.alone_laws.proofs.Wanted.{IsWanted, is_wanted}
use Rattle.refusal_laws.specs.Regular.{memory_end, IsYounger}
use Rattle.refusal_laws.specs.Bounded.{IsPlaced, IsWithin, IsBounded}
use Rattle.refusal_laws.proofs.EachRow.{chosen, wanted_by}
use Rattle.refusal_laws.proofs.Lists.{each_append, each_there, each_found}

pub no_errno : (value : ℕ) → value < 0xfffff001 → is_errno value ≡ false
unfolding is_errno
no_errno value less = grind (arith, nat_tests)

-- the room of the log
noted_fits : (notes : List Note) (weight : ℕ) → has_room notes weight ≡ true → weight ≤ most_bytes
unfolding has_room
noted_fits notes weight room =
    let fits = leb-true (sum (map bytes_in notes) + weight) most_bytes (and_parts (nat_le (sum (map calls_in notes) + 1) most_calls) (nat_le (sum (map bytes_in notes) + weight) most_bytes) room).1 in
    omega (arith, fits)

more_brought : (lists : List (List ℕ)) (weight : ℕ) → weight ≤ with_brought lists weight
more_brought [] weight = omega arith
more_brought (bytes ∷ lists) weight = let more = more_brought lists weight in omega (arith, more)

more_if : (b : Bool) (n weight : ℕ) → weight ≤ (if b then n + weight else weight)
more_if true n weight = omega arith
more_if false n weight = omega arith

-- and so do the bytes of a call's note, beside what its mapping brings
pub weight_fits : (w : World) (a : Ask) (r : Reply) → room_for w a r ≡ true → weight_of a.sent r.got ≤ most_bytes
weight_fits w a r room =
    let e : CallEntry = entry_of a r.value r.got in
    let weight : ℕ = weight_of a.sent r.got in
    let recorded : Bool = is_recorded w.recording a.process.space in
    let fits = noted_fits w.notes (with_brought w.recording.brought (with_bytes_of w a.process.space e r.space.bytes weight)) room in
    let beside = more_brought w.recording.brought (with_bytes_of w a.process.space e r.space.bytes weight) in
    let brings = more_if recorded (length (brought e r.space.bytes)) weight in
    omega (arith, fits, beside, brings)

pub brk_fits : (s : Space) (to : ℕ) → s.brk ≤ memory_end → s.brk_high ≤ memory_end → next_brk s to ≤ memory_end
brk_fits s to low high = by (nat_le s.brk_low to) (nat_le to s.brk_high) refl
  where
    by : (b c : Bool) → nat_le to s.brk_high ≡ c → (if b && c then to else s.brk) ≤ memory_end
    by true true is = let under : to ≤ s.brk_high = grind (arith, nat_tests) in omega (arith, under, high)
    by true false is = low
    by false c is = low

module _ (w : World) (r : IsBounded w) (pid : ℕ) (p : Process) (lives : find pid_of pid w.procs ≡ Some p) where
  pub pid_fits : p.pid < 0xfffff001
  pid_fits =
      let own = find_key pid_of pid w.procs p lives in
      let below = find_below pid_of pid w.next_pid w.procs p r.pids lives in
      let given = r.given in
      let calls = r.counted.calls in
      omega (arith, own, below, given, calls)

  pub parent_fits : p.parent < 0xfffff001
  parent_fits =
      let younger : p.parent < p.pid = each_found IsYounger pid_of pid w.procs p r.parents lives in
      let own = pid_fits in
      omega (arith, younger, own)

  -- the descriptors of a table
  pub few_free : (s : LiveSpace) (bytes : List ℕ) (fd : ℕ) → free_of (ask_of w p s.space bytes) ≡ Some fd → fd < most_descriptors
  unfolding lowest_free
  few_free s bytes fd is = by (table_at w.rest.files p.table) (r.counted.counted.counts.whole p.table) is
    where
      by : (o : Option Table) → IfSome o (λ table. length table ≡ most_descriptors) → free_in o ≡ Some fd → fd < most_descriptors
      by None whole is = absurd cc
      by (Some table) whole is = let there = (first_there table fd is).0 in omega (arith, there, whole)

-- ---- mappings

-- a mapping that is asked for begins in memory or at its end, and a copy lies there
abbrev pub Fits : Mapping → Type 0
Fits m = (m.range.from ≤ memory_end) × IsPlaced m m.source

-- pages of a copy that has them begin inside of its run
shared_fits : (first count id change : ℕ) (c : Mapping) → IsPlaced c c.source → has_pages id change first count c ≡ true → Fits (shared first count c)
shared_fits first count id change c placed has = by c.source placed has
  where
    by : (source : Source) → IsPlaced c source → copy_covers id change first count source c.pages ≡ true
        → (2 ^ 31 + 4096 * (c.first + (first - copied_from source)) ≤ memory_end) × IsPlaced (shared first count c) source
    by Own placed has = absurd (false≢true has)
    by (Copy f n from) placed has =
        let ends = and_parts (f == id && n == change && nat_le from first) (nat_le (first + count) (from + c.pages)) has in
        let begins = and_parts (f == id && n == change) (nat_le from first) ends.0 in
        let low = leb-true from first begins.1 in
        let high = leb-true (first + count) (from + c.pages) ends.1 in
        let inside = placed.0 in
        (omega (arith, low, high, inside), (inside, refl))

-- the copies of all spaces lie in memory
all_placed : (ss : List LiveSpace) → AllByRecursion IsWithin ss → AllByRecursion (λ m. IsPlaced m m.source) (all_maps ss)
all_placed [] h = tt
all_placed (s ∷ ss) h = each_append (λ m. IsPlaced m m.source) s.space.maps (all_maps ss) h.0.copies (all_placed ss h.1)

module _ (w : World) (r : IsBounded w) (p : Process) (s : LiveSpace) (bytes : List ℕ) where
  abbrev a : Ask
  a = ask_of w p s.space bytes

  run_fits : (want : Want) (page : ℕ) → 0 < pages_of want → placed_page a want ≡ Some page → Fits (own_run want page)
  run_fits want page some is =
      let inside = (fresh_run w.rest.pages w.spaces w.rest.kind (pages_of want) page some is).inside in
      let most = r.most in
      begins want page (omega (arith, inside, most))
    where
      begins : (want : Want) (page : ℕ) → page + pages_of want ≤ most_pages → Fits (own_run want page)
      begins (Anon pages) page low = (omega (arith, low), tt)
      begins (File pages first true id change) page low = (omega (arith, low), tt)
      begins (File pages first false id change) page low = (omega (arith, low), (low, refl))

  own_fits : (want : Want) (m : Mapping) (o : Option ℕ) → 0 < pages_of want → placed_page a want ≡ o → option_map (own_run want) o ≡ Some m → Fits m
  own_fits want m None some is same = absurd (none-some m same)
  own_fits want m (Some page) some is same = subst Fits (same_Some (own_run want page) m same) (run_fits want page some is)

  copy_fits : (pages first id change : ℕ) (m : Mapping) (o : Option Mapping) → 0 < pages → lowest (has_pages id change first pages) (all_maps w.spaces) ≡ o
      → or_own (option_map (shared first pages) o) (option_map (own_run (File pages first false id change)) (placed_page a (File pages first false id change))) ≡ Some m → Fits m
  copy_fits pages first id change m None some low is =
      own_fits (File pages first false id change) m (placed_page a (File pages first false id change)) some refl is
  copy_fits pages first id change m (Some c) some low is =
      let it : Passes (has_pages id change first pages) (all_maps w.spaces) c = lowest_passes (has_pages id change first pages) (all_maps w.spaces) c low in
      let placed = each_there (λ n. IsPlaced n n.source) (all_maps w.spaces) (all_placed w.spaces r.spaces) it.one.at c it.one.there in
      subst Fits (same_Some (shared first pages c) m is) (shared_fits first pages id change c placed it.passes)

  fits : (want : Want) (m : Mapping) → IsWanted w.rest.tree want → chosen a want ≡ Some m → Fits m
  fits (Anon pages) m some is = own_fits (Anon pages) m (placed_page a (Anon pages)) some refl is
  fits (File pages first true id change) m known is = own_fits (File pages first true id change) m (placed_page a (File pages first true id change)) known.0 refl is
  fits (File pages first false id change) m known is =
      copy_fits pages first id change m (lowest (has_pages id change first pages) (all_maps w.spaces)) known.0 refl is

  pub map_fits : (want : Want) (m : Mapping) → wanted_by a ≡ Ok want → chosen a want ≡ Some m → Fits m
  map_fits want m asks is = fits want m (is_wanted w.rest.tree (view_of a (arg a 4)) (arg a 0) (arg a 1) (arg a 2) (arg a 3) (arg a 5) want asks) is
