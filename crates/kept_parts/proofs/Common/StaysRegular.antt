-- What holds of the parts still holds where memory, the registers of one process and the break of its space are others.
use Rattle.std.proofs.Common.{◌≡◌, ◌≢◌, ℕ, zero, suc, ◌+◌, false, inl, inr, List, [], ◌∷◌, length, set, Option, Some, None, refl, sym, ap, subst, ◌∙◌, arith}
use Rattle.std.specs.Prelude.{◌==◌, ◌≤◌, slice_get, slice_set, option_map}
use Rattle.std.proofs.lemmas.Bool.Decides.{nat_tests}
use Rattle.std.proofs.lemmas.List.{set-get_or, length-set}
use Rattle.std.proofs.lemmas.Option.{same_Some, get_or_from_slice_get}
use Rattle.rv32im_step.specs.declared.regs.Regs.{Regs}
use Rattle.mmap_rules.specs.declared.mapping.Mapping.{Mapping}
use Rattle.mmap_rules.specs.Held.{Held}
use Rattle.call_log.specs.Notes.{Note}
use Rattle.vfork_exec.specs.declared.entry.Entry.{Entry}
use Rattle.vfork_exec.specs.Procs.{Listed, process, pid_of, with_value, with_value_at, most_entries}
use Rattle.vfork_exec.proofs.Keyed.{find_changed, find_beside_change, falls_change, length_change}
use Rattle.kept_parts.specs.declared.task.Task.{Task}
use Rattle.mem_files.specs.Inodes.{Inodes}
use Rattle.fd_tables.specs.Files.{OpenFiles}
use Rattle.kept_parts.specs.Kept.{Kept}
use Rattle.kept_parts.specs.Regular.{Regular, HasSpace, named_in, uses_in}
use Rattle.machine_world.specs.Ages.{kept_calls}
use Rattle.call_bytes.proofs.Places.{decide}
use Rattle.kept_parts.proofs.Common.UseCounts.{eqb_is}
use Rattle.kept_parts.proofs.Common.ProcessList.{chains_moved}

eqb_not : (n k : ℕ) → (n == k) ≡ false → n ≢ k
eqb_not n k h = grind (arith, nat_tests)

-- what stands at a place, set there again
pub set_kept : {A : Type 0} (xs : List A) (i : ℕ) (x : A) → slice_get xs i ≡ Some x → slice_set xs i x ≡ xs
set_kept xs i x there = sym (ap (λ y. set xs i y) (get_or_from_slice_get xs i x x there)) ∙ set-get_or xs i x

-- ---- spaces

-- a live space was there, with the same mappings and pages
record Was (spaces : List (Option Held)) (i : ℕ) (h : Held) : Type 0 where
  old : Held
  there : slice_get spaces i ≡ Some (Some old)
  maps : old.maps ≡ h.maps
  pages : old.pages ≡ h.pages

was_later : (s : Option Held) (ss : List (Option Held)) (i : ℕ) (h : Held) → Was ss i h → Was (s ∷ ss) (suc i) h
was_later s ss i h w = record { old = w.old; there = w.there; maps = w.maps; pages = w.pages }

module _ (h : Held) (brk : ℕ) where
  abbrev moved : Held
  moved = record h { brk = brk }

  was : (ss : List (Option Held)) (n i : ℕ) (g : Held) → slice_get ss n ≡ Some (Some h) → slice_get (slice_set ss n (Some moved)) i ≡ Some (Some g) → Was ss i g
  was [] n i g at there = absurd cc
  was (s ∷ ss) zero zero g at there =
      let same : moved ≡ g = same_Some moved g (same_Some (Some moved) (Some g) there) in
      record { old = h; there = at; maps = ap (λ (x : Held). x.maps) same; pages = ap (λ (x : Held). x.pages) same }
  was (s ∷ ss) zero (suc i) g at there = record { old = g; there = there; maps = refl; pages = refl }
  was (s ∷ ss) (suc n) zero g at there = record { old = g; there = there; maps = refl; pages = refl }
  was (s ∷ ss) (suc n) (suc i) g at there = was_later s ss i g (was ss n i g at there)

  -- a live space stays live
  lives_on : (ss : List (Option Held)) (n i : ℕ) → slice_get ss n ≡ Some (Some h) → HasSpace ss i → HasSpace (slice_set ss n (Some moved)) i
  lives_on [] n i at live = absurd cc
  lives_on (s ∷ ss) zero zero at live = record { held = moved; there = refl }
  lives_on (s ∷ ss) zero (suc i) at live = record { held = live.held; there = live.there }
  lives_on (s ∷ ss) (suc n) zero at live = record { held = live.held; there = live.there }
  lives_on (s ∷ ss) (suc n) (suc i) at live =
      let more = lives_on ss n i at (record { held = live.held; there = live.there }) in record { held = more.held; there = more.there }

  uses_kept : (id : ℕ) (ss : List (Option Held)) (n : ℕ) → slice_get ss n ≡ Some (Some h) → uses_in id (slice_set ss n (Some moved)) ≡ uses_in id ss
  uses_kept id [] n at = absurd cc
  uses_kept id (s ∷ ss) zero at = ap (λ (o : Option Held). uses_in id (o ∷ ss)) (same_Some (Some h) s (sym at))
  uses_kept id (None ∷ ss) (suc n) at = uses_kept id ss n at
  uses_kept id (Some g ∷ ss) (suc n) at = ap (λ more. named_in id g.maps + more) (uses_kept id ss n at)

-- ---- processes

-- a process was there, in the same space
record Ran (s : Listed Task) (q : ℕ) (e : Entry Task) : Type 0 where
  old : Entry Task
  there : process s q ≡ Some old
  space : old.value.space ≡ e.value.space

ran : (s : Listed Task) (pid : ℕ) (e : Entry Task) (value : Task) → process s pid ≡ Some e → value.space ≡ e.value.space →
    (q : ℕ) (x : Entry Task) → process (with_value_at s pid value) q ≡ Some x → Ran s q x
ran s pid e value lives same q x there = elim (decide (q == pid)) [
  | inl is ↦
      let at : q ≡ pid = eqb_is q pid is in
      let after : Some (with_value e value) ≡ Some x =
      ap (option_map (λ (y : Entry Task). with_value y value)) (sym lives)
      ∙ sym (find_changed pid_of pid (λ (y : Entry Task). with_value y value) (λ y. refl) s.entries)
      ∙ ap (λ n. process (with_value_at s pid value) n) (sym at)
      ∙ there in
      record { old = e; there = ap (λ n. process s n) at ∙ lives; space = sym same ∙ ap (λ (y : Entry Task). y.value.space) (same_Some (with_value e value) x after) }
  | inr is ↦ record {
    old = x;
    there = sym (find_beside_change pid_of pid q (eqb_not q pid is) (λ (y : Entry Task). with_value y value) (λ y. refl) s.entries) ∙ there;
    space = refl;
  }
]

-- ---- both

pub regular_stays : (k : Kept) (pid : ℕ) (e : Entry Task) (h : Held) → Regular k → process k.procs pid ≡ Some e → slice_get k.spaces e.value.space ≡ Some (Some h) →
    (regs : Regs) (brk : ℕ) (mem : List ℕ) → length mem ≡ length k.mem → (notes : List Note) → kept_calls k.notes ≤ kept_calls notes → (tree : Inodes) (files : OpenFiles) (console : List ℕ) →
    Regular (record k {
      mem = mem;
      tree = tree;
      files = files;
      procs = with_value_at k.procs pid (record e.value { regs = regs });
      spaces = slice_set k.spaces e.value.space (Some (record h { brk = brk }));
      notes = notes;
      console = console;
    })
regular_stays k pid e h regular lives home regs brk mem same notes more tree files console =
    let value : Task = record e.value { regs = regs } in
    let number : ℕ = e.value.space in
    record {
      memory = same ∙ regular.memory;
      some = regular.some;
      most = regular.most;
      regions = regular.regions;
      uses = λ id r there. regular.uses id r there ∙ sym (uses_kept h brk id k.spaces number home);
      one_use = regular.one_use;
      names = λ i j g m there at.
          let w = was h brk k.spaces number i g home there in
          regular.names i j w.old m w.there (ap (λ (maps : List Mapping). slice_get maps j) w.maps ∙ at);
      pages = λ i g there.
          let w = was h brk k.spaces number i g home there in
          sym w.pages ∙ regular.pages i w.old w.there;
      runs = λ q x there.
          let r = ran k.procs pid e value lives refl q x there in
          subst (HasSpace (slice_set k.spaces number (Some (record h { brk = brk })))) r.space (lives_on h brk k.spaces number r.old.value.space home (regular.runs q r.old r.there));
      chains = chains_moved k.procs pid e lives regs regular.chains;
      falls = falls_change pid_of pid (λ (y : Entry Task). with_value y value) (λ y. refl) k.procs.next_pid k.procs.entries regular.falls;
      few = subst (λ n. n + length k.procs.ended ≤ most_entries) (sym (length_change pid_of pid (λ (y : Entry Task). with_value y value) k.procs.entries)) regular.few;
      pids = omega (arith, regular.pids, more);
      loads = omega (arith, regular.loads, more, length-set k.spaces number (Some (record h { brk = brk })));
    }

-- other ids
pub regular_ids : (k : Kept) → Regular k → (starts : List ℕ) → Regular (record k { starts = starts })
regular_ids k regular starts = record {
  memory = regular.memory;
  some = regular.some;
  most = regular.most;
  regions = regular.regions;
  uses = regular.uses;
  one_use = regular.one_use;
  names = regular.names;
  pages = regular.pages;
  runs = regular.runs;
  chains = regular.chains;
  falls = regular.falls;
  few = regular.few;
  pids = regular.pids;
  loads = regular.loads;
}

-- other notes and another console
pub regular_noted : (k : Kept) → Regular k → (notes : List Note) → kept_calls k.notes ≤ kept_calls notes → (console : List ℕ) → Regular (record k { notes = notes; console = console })
regular_noted k regular notes more console = record {
  memory = regular.memory;
  some = regular.some;
  most = regular.most;
  regions = regular.regions;
  uses = regular.uses;
  one_use = regular.one_use;
  names = regular.names;
  pages = regular.pages;
  runs = regular.runs;
  chains = regular.chains;
  falls = regular.falls;
  few = regular.few;
  pids = omega (arith, regular.pids, more);
  loads = omega (arith, regular.loads, more);
}
