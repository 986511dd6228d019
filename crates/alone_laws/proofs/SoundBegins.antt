-- The opening world is sound.
use Rattle.std.proofs.Common.{◌≡◌, ◌≢◌, ℕ, suc, ◌+◌, ◌-◌, ◌*◌, ◌/◌, ◌%◌, ◌<◌, ◌≤◌, Bool, true, false, inl, inr, List, [], ◌∷◌, ◌++◌, map, length, Option, Some, None, Result, Ok, Err, refl, sym, ap, subst, ◌∙◌, arith}
use Rattle.std.specs.Prelude.{◌==◌, IsSome, slice_get}
use Rattle.std.proofs.lemmas.Bool.{cases_Bool, eq-eqb, ne_eqb, eqb-true}
use Rattle.std.proofs.lemmas.Option.{none-some, same_Some}
use Rattle.call_log.specs.Notes.{most_calls}
use Rattle.nommu_regions.specs.declared.region.Source.TheVariants.{Own}
use Rattle.mmap_rules.specs.declared.mapping.Mapping.{Mapping}
use Rattle.mmap_rules.specs.Space.{memory_base, page_size}
use Rattle.mmap_rules.specs.Held.{IsMapping, block_mapping}
use Rattle.mmap_rules.proofs.Lists.{each_one}
use Rattle.mmap_rules.proofs.Mapped.{block_is}
use Rattle.mem_files.specs.Inodes.{Inodes}
use Rattle.flat_loader.specs.Original.{Original, block_pages}
use Rattle.flat_loader.specs.Frame.{frame_fits}
use Rattle.flat_loader.specs.Begin.{Loading, own_range, begin_space, begin_regs}
use Rattle.fd_tables.specs.Files.{free_number}
use Rattle.vfork_exec.specs.declared.family.State.TheVariants.{Ready}
use Rattle.vfork_exec.specs.Keyed.{Falls, find}
use Rattle.vfork_exec.proofs.Keyed.{find_head, eqb_other}
use Rattle.machine_world.specs.World.{Process, LiveSpace, Rest, World, pid_of, id_of}
use Rattle.machine_world.specs.Families.{sharing, IsChain}
use Rattle.machine_world.specs.Free.{free}
use Rattle.machine_world.specs.MapCalls.{all_maps}
use Rattle.machine_world.specs.Boot.{StartLine, BootFault, Found, found, start_path, begun, address_of, taken, placed, fitting, located, started, all_started, then_started, empty_world, boot}
use Rattle.machine_world.specs.Ages.{AreChanged, kept_calls, most_at_boot}
use Rattle.alone_laws.specs.Stays.{runners, runner_of}
use Rattle.alone_laws.specs.Sound.{IsSpace, Apart, AreApart, HoldsSource, HoldCopies, most_given, IsSound}
use Rattle.alone_laws.specs.Laws.{CanBoot, BootsAreSound}
use Rattle.alone_laws.proofs.Apart.{apart_back}
use Rattle.alone_laws.proofs.Runners.{runners_head, runners_sharing, sharing_head}
use Rattle.alone_laws.proofs.Frame.{found_below}
use Rattle.alone_laws.proofs.SharedPages.{IsFree, fresh_run}
use Rattle.alone_laws.proofs.FreePages.{free_apart}

-- ---- the program's block

module _ (l : Loading) (page : ℕ) (is : l.block ≡ address_of page) where
  abbrev block_of : Mapping
  block_of = record { first = (l.block - memory_base) / page_size; pages = block_pages l.original; range = own_range l; source = Own }

  first_is : (l.block - memory_base) / page_size ≡ page
  first_is = omega (arith, is)

  block_at : block_of ≡ block_mapping page (block_pages l.original)
  block_at = λ i. record {
    first = first_is i;
    pages = block_pages l.original;
    range = record { from = is i + 64; size = 4096 * block_pages l.original - 64; writes = true; anonymous = false };
    source = Own;
  }

  block_mapped : (pages : ℕ) → 0 < block_pages l.original → page + block_pages l.original ≤ pages → IsMapping pages block_of
  block_mapped pages some inside = subst (IsMapping pages) (sym block_at) (block_is pages page (block_pages l.original) some inside)

  block_begins : (l.block + 64) % 4096 ≢ 0
  block_begins zero = omega (arith, is, zero)

  pub block_space : (pages : ℕ) → 0 < block_pages l.original → page + block_pages l.original ≤ pages → IsSpace pages (begin_space l).maps
  unfolding begin_space
  block_space pages some inside = record {
    block = record { block = block_of; others = []; are = refl; begins = block_begins; uncut = refl };
    mappings = each_one (IsMapping pages) block_of (block_mapped pages some inside);
    inside = each_one (λ m. m.first + m.pages ≤ pages) block_of (omega (arith, first_is, inside));
  }

  pub block_holds : (nodes : Inodes) → HoldCopies nodes (begin_space l)
  unfolding begin_space
  block_holds nodes = each_one (λ m. HoldsSource (begin_space l) nodes m m.source) block_of tt

  pub block_apart : (ms : List Mapping) → AreApart ms → ((m : Mapping) → m.first ≡ page → m.pages ≡ block_pages l.original → (j : ℕ) (n : Mapping) → slice_get ms j ≡ Some n → Apart n m)
      → AreApart ((begin_space l).maps ++ ms)
  unfolding begin_space
  block_apart ms apart each = (λ j n there. apart_back n block_of (each block_of first_is refl j n there), apart)

pub some_pages : (o : Original) → 0 < block_pages o
unfolding block_pages
some_pages o = omega arith

-- ---- processes of a space that isn't there

pub none_run : (i b : ℕ) (ps : List Process) → Falls pid_of b ps → ((k : ℕ) (q : Process) → find pid_of k ps ≡ Some q → q.space ≢ i) → runners i ps ≡ []
unfolding runners
none_run i b [] falls away = refl
none_run i b (p ∷ ps) falls away =
    let other : p.space ≢ i = away p.pid p (find_head pid_of p.pid p ps true (eq-eqb p.pid p.pid refl)) in
    runners_head i p ps false (ne_eqb p.space i other)
    ∙ none_run i p.pid ps falls.1 (λ k q is. away k q (find_head pid_of k p ps false (eqb_other p.pid k (λ e. (let less = found_below pid_of k p.pid ps q falls.1 is in omega (arith, less, e)))) ∙ is))

-- ---- one program more

-- a process that was there runs in a space that was there
pub old_space : (w : World) → IsSound w → (k : ℕ) (q : Process) → find pid_of k w.procs ≡ Some q → q.space ≢ w.loads
old_space w h k q found e = by (find id_of q.space w.spaces) refl (h.homes k q found)
  where
    by : (o : Option LiveSpace) → find id_of q.space w.spaces ≡ o → IsSome o → ⊥
    by None is some = absurd cc
    by (Some s) is some = let less = found_below id_of q.space w.loads w.spaces s h.numbers is in omega (arith, less, e)

-- no process is in a space to come
pub none_new : (w : World) → IsSound w → sharing w.loads w.procs ≡ []
none_new w h = nothing (sharing w.loads w.procs) (sym (runners_sharing w.loads w.procs) ∙ none_run w.loads w.next_pid w.procs h.pids (old_space w h))
  where
    nothing : (ps : List Process) → map runner_of ps ≡ [] → ps ≡ []
    nothing [] e = refl
    nothing (p ∷ ps) e = absurd cc

-- the pages of a block that is placed are free
pub pages_free : (w : World) (page : ℕ) (l : Loading) → taken w (block_pages l.original) (free w) ≡ Some page → IsFree w.rest.pages w.spaces page (block_pages l.original)
pages_free w page l chosen = fresh_run w.rest.pages w.spaces w.rest.kind (block_pages l.original) page (some_pages l.original) chosen

module _ (w : World) (h : IsSound w) (more : w.next_pid + 1 ≤ most_given + kept_calls w.notes) (index page : ℕ) (l : Loading) (is : l.block ≡ address_of page)
    (chosen : taken w (block_pages l.original) (free w) ≡ Some page) where
  abbrev it : Process
  it = record { pid = w.next_pid; parent = 0; regs = begin_regs l; space = w.loads; table = free_number w.rest.files.tables; state = Ready }

  abbrev its : LiveSpace
  its = record { id = w.loads; space = begin_space l }

  abbrev now : World
  now = begun w index l

  -- the process of a number
  by_pid : (P : Process → Type 0) (k : ℕ) (q : Process) → find pid_of k (it ∷ w.procs) ≡ Some q → P it → (find pid_of k w.procs ≡ Some q → P q) → P q
  by_pid P k q found here away = elim (cases_Bool (w.next_pid == k)) [
    | inl that ↦ subst P (same_Some it q (sym (find_head pid_of k it w.procs true that) ∙ found)) here
    | inr other ↦ away (sym (find_head pid_of k it w.procs false other) ∙ found)
  ]

  by_id : (P : LiveSpace → Type 0) (i : ℕ) (s : LiveSpace) → find id_of i (its ∷ w.spaces) ≡ Some s → P its → (find id_of i w.spaces ≡ Some s → P s) → P s
  by_id P i s found here away = elim (cases_Bool (w.loads == i)) [
    | inl that ↦ subst P (same_Some its s (sym (find_head id_of i its w.spaces true that) ∙ found)) here
    | inr other ↦ away (sym (find_head id_of i its w.spaces false other) ∙ found)
  ]

  chain_new : (i : ℕ) → IsChain (sharing i (it ∷ w.procs))
  chain_new i = elim (cases_Bool (w.loads == i)) [
    | inl that ↦ (
        let at : w.loads ≡ i = eqb-true w.loads i that in
        let all : sharing i (it ∷ w.procs) ≡ it ∷ [] = sharing_head i it w.procs true that ∙ ap (λ (ps : List Process). it ∷ ps) (ap (λ (n : ℕ). sharing n w.procs) (sym at) ∙ none_new w h) in
        subst IsChain (sym all) (refl, tt))
    | inr other ↦ subst IsChain (sym (sharing_head i it w.procs false other)) (h.chains i)
  ]

  counted : kept_calls now.notes ≡ kept_calls w.notes
  counted = omega arith

  pub begun_sound : IsSound (begun w index l)
  begun_sound = record {
    some = h.some;
    most = h.most;
    pids = (omega arith, h.pids);
    numbers = (omega arith, h.numbers);
    given = let same = counted in omega (arith, more, same);
    homes = λ k q found.
        by_pid (λ x. IsSome (find id_of x.space (its ∷ w.spaces))) k q found
        (subst IsSome (sym (find_head id_of w.loads its w.spaces true (eq-eqb w.loads w.loads refl))) (is_some its))
        (λ was. subst IsSome (sym (find_head id_of q.space its w.spaces false (ne_eqb w.loads q.space (λ e. old_space w h k q was (sym e))))) (h.homes k q was));
    chains = chain_new;
    spaces = λ i s found. by_id (λ x. IsSpace w.rest.pages x.space.maps) i s found (block_space l page is w.rest.pages (some_pages l.original) (pages_free w page l chosen).inside) (λ was. h.spaces i s was);
    apart = block_apart l page is (all_maps w.spaces) h.apart
        (λ m begins long. free_apart w.rest.pages w.loads w.spaces page (block_pages l.original) m h.numbers (pages_free w page l chosen) begins long);
    copies = λ i s found. by_id (λ x. HoldCopies w.rest.tree x.space) i s found (block_holds l page is w.rest.tree) (λ was. h.copies i s was);
    changes = subst (λ (k : ℕ). AreChanged (most_at_boot + k) w.rest.tree) (sym counted) h.changes;
    calls = subst (λ (k : ℕ). k ≤ most_calls) (sym counted) h.calls;
  }
    where
      is_some : (s : LiveSpace) → IsSome (Some s)
      is_some s = refl

-- ---- the start lines

-- a sound world in which some pids may be given before the first call
record Opens (left : ℕ) (w : World) : Type 0 where
  pub sound : IsSound w
  pub few : w.next_pid + left ≤ most_given

abbrev Begins : ℕ → Result World BootFault → Type 0
Begins left (Ok now) = Opens left now
Begins left (Err fault) = Unit {0}

module _ (left : ℕ) (w : World) (o : Opens (suc left) w) (s : StartLine) where
  begins_placed : (f : Found) (page : Option ℕ) → taken w (block_pages f.original) (free w) ≡ page → Begins left (placed w s f page)
  begins_placed f None chosen = tt
  begins_placed f (Some page) chosen = record {
    sound = begun_sound w o.sound (let few = o.few in omega (arith, few)) f.index page (record { original = f.original; block = address_of page; args = s.args; env = [] }) refl chosen;
    few = let few = o.few in omega (arith, few);
  }

  begins_fitting : (f : Found) (fits : Bool) → Begins left (fitting w s f fits)
  begins_fitting f true = begins_placed f (taken w (block_pages f.original) (free w)) refl
  begins_fitting f false = tt

  begins_located : (found : Option Found) → Begins left (located w s found)
  begins_located None = tt
  begins_located (Some f) = begins_fitting f (frame_fits f.original s.args [])

  begins_started : Begins left (started w s)
  unfolding started
  begins_started = begins_located (found w.rest (start_path s))

begins_all : (ss : List StartLine) (w : World) → Opens (length ss) w → Begins 0 (all_started w ss)
unfolding all_started
begins_all [] w o = o
begins_all (s ∷ ss) w o = on (started w s) (begins_started (length ss) w o s) (λ v opens. begins_all ss v opens)
  where
    on : (r : Result World BootFault) → Begins (length ss) r → ((v : World) → Opens (length ss) v → Begins 0 (all_started v ss)) → Begins 0 (then_started r (λ now. all_started now ss))
    on (Ok now) begins more = more now begins
    on (Err fault) begins more = tt

empty_sound : (rest : Rest) → CanBoot rest → IsSound (empty_world rest)
unfolding find sharing
empty_sound rest can = record {
  some = can.some;
  most = can.most;
  pids = tt;
  numbers = tt;
  given = omega arith;
  homes = λ k q found. absurd (none-some q found);
  chains = λ i. tt;
  spaces = λ i s found. absurd (none-some s found);
  apart = tt;
  copies = λ i s found. absurd (none-some s found);
  changes = λ id n there. (let most = can.changes id n there in omega (arith, most));
  calls = omega arith;
}

pub boots_are_sound : BootsAreSound
unfolding boot
boots_are_sound rest starts w can few is =
    (subst (Begins 0) is (begins_all starts (empty_world rest) (record { sound = empty_sound rest can; few = omega (arith, few) }))).sound
