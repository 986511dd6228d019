-- The parts are regular where a program stands in the place of another one, and copies hold their file.
use Rattle.std.proofs.Common.{◌≡◌, ◌≢◌, ℕ, ◌+◌, ◌<◌, ◌⊎◌, inl, inr, false, List, [], ◌∷◌, ◌++◌, map, length, get_or, Option, Some, None, arith, refl, sym, ap, subst, ◌∙◌, length-set, length-append}
use Rattle.std.specs.Prelude.{◌==◌, ◌*◌, option_map, IsSome, slice_get, slice_set}
use Rattle.std.proofs.lemmas.Option.{same_Some, none-some, slice_get_within}
use Rattle.std.proofs.lemmas.List.{length-map}
use Rattle.std.proofs.lemmas.Bool.Decides.{nat_tests}
use Rattle.page_runs.specs.declared.place.Kind.TheVariants.{First}
use Rattle.byte_words.specs.ByteMap.{byte_of}
use Rattle.rv32im_step.specs.declared.regs.Regs.{Regs}
use Rattle.nommu_regions.specs.declared.region.Region.{Region}
use Rattle.nommu_regions.specs.Regions.{AreFree}
use Rattle.nommu_regions.proofs.Held.{regions_fresh}
use Rattle.mmap_rules.specs.Space.{memory_base}
use Rattle.mmap_rules.specs.Held.{Held, page_address}
use Rattle.call_log.specs.Notes.{Note}
use Rattle.fd_tables.specs.Changes.{Storage, storage, exec_closed}
use Rattle.flat_loader.specs.Begin.{Loading, block_end, in_block, begin_regs}
use Rattle.flat_loader.specs.Loads.{block_region}
use Rattle.vfork_exec.specs.declared.entry.Entry.{Entry}
use Rattle.vfork_exec.specs.declared.family.State.TheVariants.{Ready}
use Rattle.vfork_exec.specs.Keyed.{find, change, Falls}
use Rattle.vfork_exec.specs.Families.{resumed}
use Rattle.vfork_exec.specs.Procs.{Listed, process, Lives, value_at, with_value, with_state, with_value_at, with_exec}
use Rattle.vfork_exec.specs.Procs.{pid_of as entry_pid, borrows as entry_borrows}
use Rattle.vfork_exec.proofs.Keyed.{decide, eqb_is, find_map, find_changed, find_beside_change, falls_map, falls_change, length_change}
use Rattle.machine_world.specs.World.{Process, pid_of}
use Rattle.machine_world.specs.Families.{let_go, sharing, AreChains}
use Rattle.machine_world.specs.Event.{with_exec as world_exec}
use Rattle.machine_world.specs.Ages.{kept_calls, most_at_boot}
use Rattle.memory_world.specs.Physical.{has_stray}
use Rattle.machine_world.proofs.Aging.{exec_ages}
use Rattle.machine_world.proofs.Chains.{find_let_go, find_sharing, owner_alone, chains_exec, sharing_own_exec}
use Rattle.kept_parts.specs.declared.task.Task.{Task}
use Rattle.kept_parts.specs.Kept.{Kept}
use Rattle.kept_parts.specs.Regular.{HasSpace, Regular}
use Rattle.kept_parts.specs.Copies.{CopiesHold}
use Rattle.kept_parts.specs.Stands.{About, process_of, world_of}
use Rattle.call_bytes.proofs.Places.{get_pushed, get_before}
use Rattle.kept_parts.proofs.Common.ProcessList.{same_change, value_is, exec_is, falls_is, found_is, own_pid, found_own, borrows_is, nobody_in}
use Rattle.kept_parts.proofs.Starts.Regular.{Fits, there_before, uses_now, names_now, one_now, pages_now}
use Rattle.kept_parts.proofs.Copies.BehindChanges.{copies_loaded, copies_aged}

-- ---- the list of processes

-- the parent that stood still goes on
abbrev pub freed_by : ℕ → Entry Task → Entry Task
freed_by pid e = with_state e (resumed pid e.state)

pub found_freed : (s : Listed Task) (pid other : ℕ) → process (with_exec s pid) other ≡ option_map (freed_by pid) (process s other)
found_freed s pid other = find_map entry_pid entry_pid other (freed_by pid) (λ _. refl) s.entries

pub value_freed : (s : Listed Task) (pid other : ℕ) → value_at (with_exec s pid) other ≡ value_at s other
value_freed s pid other = ap (option_map (λ (e : Entry Task). e.value)) (found_freed s pid other) ∙ same_value (process s other)
  where
    same_value : (o : Option (Entry Task)) → option_map (λ (e : Entry Task). e.value) (option_map (freed_by pid) o) ≡ option_map (λ (e : Entry Task). e.value) o
    same_value (Some e) = refl
    same_value None = refl

pub lives_freed : (s : Listed Task) (pid other : ℕ) → Lives s other → Lives (with_exec s pid) other
lives_freed s pid other lives = subst IsSome (sym (found_freed s pid other)) (still (process s other) lives)
  where
    still : (o : Option (Entry Task)) → IsSome o → IsSome (option_map (freed_by pid) o)
    still (Some e) some = refl
    still None some = absurd cc

-- ---- the parts

abbrev pub files_closed : Kept → Task → Storage
files_closed k t = exec_closed (storage k.tree k.files) t.table

-- the process has a space of its own
abbrev pub procs_switched : Kept → ℕ → Task → Regs → Listed Task
procs_switched k pid t regs = with_value_at (with_exec k.procs pid) pid (record t { regs = regs; space = length k.spaces })

-- a region more, and a space more, in which a process goes on
abbrev pub switched : Kept → ℕ → Task → Region → Held → Regs → List ℕ → List Note → Kept
switched k pid t v h regs mem notes = record k {
  mem = mem;
  regions = slice_set k.regions v.first v;
  spaces = k.spaces ++ Some h ∷ [];
  tree = (files_closed k t).nodes;
  files = (files_closed k t).files;
  procs = procs_switched k pid t regs;
  notes = notes;
}

module _ (k : Kept) (regular : Regular k) (pid : ℕ) (e : Entry Task) (lives : process k.procs pid ≡ Some e) (regs : Regs) where
  abbrev then_value : Task
  then_value = record e.value { regs = regs; space = length k.spaces }

  -- ---- who lives then

  pub own_switched : process (procs_switched k pid e.value regs) pid ≡ Some (with_value (freed_by pid e) then_value)
  own_switched =
      find_changed entry_pid pid (λ (x : Entry Task). with_value x then_value) (λ x. refl) (with_exec k.procs pid).entries
      ∙ ap (option_map (λ (x : Entry Task). with_value x then_value)) (found_freed k.procs pid pid ∙ ap (option_map (freed_by pid)) lives)

  -- another one lived before, in the same space
  record Before (p : ℕ) (f : Entry Task) : Type 0 where
    old : Entry Task
    there : process k.procs p ≡ Some old
    value : f.value ≡ old.value

  runner : (p : ℕ) (f : Entry Task) → process (procs_switched k pid e.value regs) p ≡ Some f → (f.value ≡ then_value) ⊎ Before p f
  runner p f is = elim (decide (p == pid)) [
    | inl same ↦
        let at : p ≡ pid = eqb_is p pid same in
        let both = sym own_switched ∙ ap (process (procs_switched k pid e.value regs)) (sym at) ∙ is in
        inl (sym (ap (λ (x : Entry Task). x.value) (same_Some _ _ both)))
    | inr other ↦
        let ne : p ≢ pid = grind (arith, nat_tests) in
        inr (before (process k.procs p) refl (
        sym (found_freed k.procs pid p)
        ∙ sym (find_beside_change entry_pid pid p ne (λ (x : Entry Task). with_value x then_value) (λ x. refl) (with_exec k.procs pid).entries) ∙ is
        ))
  ]
    where
      before : (o : Option (Entry Task)) → process k.procs p ≡ o → option_map (freed_by pid) o ≡ Some f → Before p f
      before None there found = absurd cc
      before (Some x) there found = record { old = x; there = there; value = sym (ap (λ (y : Entry Task). y.value) (same_Some (freed_by pid x) f found)) }

  -- ---- the same in the world

  in_world : map process_of (procs_switched k pid e.value regs).entries
      ≡ change pid_of pid (λ (q : Process). record q { regs = regs; space = length k.spaces }) (map (let_go pid) (map process_of k.procs.entries))
  in_world =
      value_is (with_exec k.procs pid) pid then_value
      ∙ ap (change pid_of pid (λ (q : Process). record q { regs = regs; space = length k.spaces; table = e.value.table })) (exec_is k.procs pid)
      ∙ same_change pid_of pid (λ (q : Process). record q { regs = regs; space = length k.spaces; table = e.value.table })
      (λ (q : Process). record q { regs = regs; space = length k.spaces }) (map (let_go pid) (map process_of k.procs.entries)) (let_go pid (process_of e))
      (find_let_go pid pid (map process_of k.procs.entries) ∙ ap (option_map (let_go pid)) (found_is k.procs pid e lives)) refl

  -- no process is where the new space will stand
  pub nobody_there : sharing (length k.spaces) (map process_of k.procs.entries) ≡ []
  nobody_there = nobody_in k.procs k.procs.next_pid (length k.spaces) regular.falls (λ p f is same. omega (arith, within p f is, same))
    where
      within : (p : ℕ) (f : Entry Task) → process k.procs p ≡ Some f → f.value.space < length k.spaces
      within p f is = let had = regular.runs p f is in slice_get_within k.spaces f.value.space (Some had.held) had.there

  falls_switched : Falls entry_pid k.procs.next_pid (procs_switched k pid e.value regs).entries
  falls_switched =
      falls_change entry_pid pid (λ (x : Entry Task). with_value x then_value) (λ x. refl) k.procs.next_pid (with_exec k.procs pid).entries
      (falls_map entry_pid entry_pid 0 (freed_by pid) (λ _. refl) k.procs.next_pid k.procs.entries regular.falls)

  count_switched : length (procs_switched k pid e.value regs).entries ≡ length k.procs.entries
  count_switched =
      length_change entry_pid pid (λ (x : Entry Task). with_value x then_value) (with_exec k.procs pid).entries ∙ length-map k.procs.entries (freed_by pid)

-- ---- the registers are those of a program that begins

module _ (a : About) (k : Kept) (regular : Regular k) (pid : ℕ) (e : Entry Task) (lives : process k.procs pid ≡ Some e) (l : Loading) where
  -- the processes are those of the world
  pub procs_are : map process_of (procs_switched k pid e.value (begin_regs l)).entries ≡ (world_exec (world_of a k) (process_of e) l).procs
  unfolding world_of
  procs_are =
      in_world k regular pid e lives (begin_regs l)
      ∙ ap (λ n. change pid_of n (λ (q : Process). record q { regs = begin_regs l; space = length k.spaces }) (map (let_go n) (map process_of k.procs.entries)))
      (sym (own_pid k.procs pid e lives))

  pub chains_switched : e.state ≡ Ready → AreChains (map process_of (procs_switched k pid e.value (begin_regs l)).entries)
  unfolding world_of
  chains_switched ready =
      subst AreChains (sym procs_are)
      (chains_exec (world_of a k) (process_of e) l regular.chains (falls_is k.procs k.procs.next_pid regular.falls) (found_own k.procs pid e lives) ready (nobody_there k regular pid e lives (begin_regs l)))

  -- nobody is left in a space that was its own
  pub nobody_stays : e.state ≡ Ready → entry_borrows k.procs e.pid ≡ false → (p : ℕ) (f : Entry Task) → process (procs_switched k pid e.value (begin_regs l)) p ≡ Some f
      → f.value.space ≢ e.value.space
  unfolding world_of find
  nobody_stays ready none p f is same =
      let procs : List Process = map process_of k.procs.entries in
      let now : List Process = (world_exec (world_of a k) (process_of e) l).procs in
      let alone = owner_alone procs pid (process_of e) regular.chains (found_is k.procs pid e lives) ready (borrows_is k.procs e ∙ none) in
      let left : sharing e.value.space now ≡ [] =
      sharing_own_exec (world_of a k) (process_of e) l [] (found_own k.procs pid e lives) (nobody_there k regular pid e lives (begin_regs l)) alone in
      let there : find pid_of p now ≡ Some (process_of f) =
      ap (find pid_of p) (sym procs_are) ∙ found_is (procs_switched k pid e.value (begin_regs l)) p f is in
      let among : find pid_of p [] ≡ Some (process_of f) =
      ap (find pid_of p) (sym (ap (λ n. sharing n now) same ∙ left)) ∙ find_sharing p (process_of f) now there in
      absurd (none-some (process_of f) among)

-- ---- what holds of the parts

abbrev no_about : About
no_about = record { kind = First; programs = []; events = 0 }

module _ (k : Kept) (regular : Regular k) (pid : ℕ) (e : Entry Task) (lives : process k.procs pid ≡ Some e) (ready : e.state ≡ Ready) (v : Region) (h : Held) (l : Loading)
    (mem : List ℕ) (notes : List Note) (fits : Fits k.regions v h) where
  home_switched : (p : ℕ) (f : Entry Task) → process (procs_switched k pid e.value (begin_regs l)) p ≡ Some f → HasSpace (k.spaces ++ Some h ∷ []) f.value.space
  home_switched p f is = elim (runner k regular pid e lives (begin_regs l) p f is) [
    | inl own ↦ record { held = h; there = ap (λ (t : Task). slice_get (k.spaces ++ Some h ∷ []) t.space) own ∙ get_pushed k.spaces (Some h) }
    | inr before ↦
        let had = regular.runs p before.old before.there in
        record {
          held = had.held;
          there = ap (λ (t : Task). slice_get (k.spaces ++ Some h ∷ []) t.space) before.value ∙ get_before k.spaces (Some h) before.old.value.space (Some had.held) had.there;
        }
  ]

  pub regular_switched : length mem ≡ length k.mem → kept_calls notes ≡ kept_calls k.notes + 1 → Regular (switched k pid e.value v h (begin_regs l) mem notes)
  regular_switched same counted =
      let len = length-set k.regions v.first v in
      let table : ℕ = e.value.table in
      record {
        memory = same ∙ regular.memory ∙ ap (λ (n : ℕ). 4096 * n) (sym len);
        some = omega (arith, len, regular.some);
        most = omega (arith, len, regular.most);
        regions =
            regions_fresh k.regions v (get_or k.regions v.first v) regular.regions fits.free fits.some fits.one
            (there_before k v h (begin_regs l) table mem k.files notes regular fits);
        uses = uses_now k v h (begin_regs l) table mem k.files notes regular fits;
        one_use = one_now k v h (begin_regs l) table mem k.files notes regular fits;
        names = names_now k v h (begin_regs l) table mem k.files notes regular fits;
        pages = λ i g is. pages_now k v h (begin_regs l) table mem k.files notes regular fits i g is ∙ sym len;
        runs = home_switched;
        chains = chains_switched no_about k regular pid e lives l ready;
        falls = falls_switched k regular pid e lives (begin_regs l);
        few = omega (arith, regular.few, count_switched k regular pid e lives (begin_regs l));
        pids = omega (arith, regular.pids, counted);
        loads = omega (arith, regular.loads, counted, length-append k.spaces (Some h ∷ []));
      }

-- live copies hold their file: none of them lay where the program stands, and what closes goes only where nothing holds it
pub copies_switched : (k : Kept) → Regular k → CopiesHold k.regions k.mem k.tree k.notes → (t : Task) (page pages : ℕ) → AreFree k.regions page pages → (l : Loading)
    → l.block ≡ page_address page → block_end l ≡ page_address (page + pages) → (mem : List ℕ) → length mem ≡ length k.mem
    → ((a : ℕ) → in_block l a ≡ false → byte_of memory_base mem a ≡ byte_of memory_base k.mem a)
    → (notes : List Note) → kept_calls notes ≡ kept_calls k.notes + 1 → (has_stray notes ≡ false → has_stray k.notes ≡ false)
    → CopiesHold (slice_set k.regions page (block_region page pages)) mem (files_closed k t).nodes notes
copies_switched k regular copies t page pages free l block end mem len others notes counted strays =
    let ages = exec_ages (storage k.tree k.files) t.table (most_at_boot + kept_calls k.notes) copies.changes in
    copies_aged (slice_set k.regions page (block_region page pages)) mem k.tree (files_closed k t).nodes k.notes notes
    (copies_loaded k regular copies page pages free l block end mem len others) ages.0 (λ id n there. omega (arith, ages.1 id n there, counted)) (omega (arith, counted)) strays
