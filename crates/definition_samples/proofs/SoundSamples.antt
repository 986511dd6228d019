-- A sound world of one process, and worlds that aren't sound.
use Rattle.std.proofs.Common.{◌≡◌, ◌≢◌, ℕ, zero, suc, ◌+◌, ◌<◌, ◌≤◌, Bool, true, false, [], ◌∷◌, Some, None, refl, subst, arith}
use Rattle.std.specs.Prelude.{◌==◌, ◌%◌, if◌then◌else◌, slice_get, IsSome}
use Rattle.std.proofs.lemmas.Option.{same_Some}
use Rattle.mmap_rules.specs.declared.mapping.Mapping.{Mapping}
use Rattle.mmap_rules.specs.Held.{IsMapping, AreMappings, block_mapping}
use Rattle.mem_files.specs.Inodes.{Inode}
use Rattle.flat_loader.specs.Original.{block_pages}
use Rattle.flat_loader.specs.Begin.{begin_space}
use Rattle.vfork_exec.specs.Keyed.{find}
use Rattle.vfork_exec.specs.declared.family.State.TheVariants.{Lent}
use Rattle.machine_world.specs.World.{Process, LiveSpace, World, pid_of, id_of}
use Rattle.machine_world.specs.Families.{sharing, IsChain, AreChains}
use Rattle.machine_world.specs.Ages.{AreChanged}
use Rattle.alone_laws.specs.Sound.{IsSpace, ShareCopy, HoldsSource, HoldCopies, IsSound}
use Rattle.definition_samples.proofs.Exits.{tree, process, space, running}

-- ---- the program's block is a space of two pages

is-mapping : IsMapping 4 (block_mapping 0 2)
is-mapping = record {
  shaped = record { some = omega arith; above = omega arith; inside = omega arith; whole = refl };
  from = omega arith;
  to = omega arith;
  writes = λ is. refl;
  copied = λ is. absurd cc;
  whole = λ is. absurd cc;
}

mappings : AreMappings 4 (block_mapping 0 2 ∷ [])
mappings zero m is = subst (λ (n : Mapping). IsMapping 4 n) (same_Some (block_mapping 0 2) m is) is-mapping
mappings (suc j) m is = absurd cc

inside : (j : ℕ) (m : Mapping) → slice_get (block_mapping 0 2 ∷ []) j ≡ Some m → m.first + m.pages ≤ 4
inside zero m is = subst (λ (n : Mapping). n.first + n.pages ≤ 4) (same_Some (block_mapping 0 2) m is) (omega arith)
inside (suc j) m is = absurd cc

begins : 0x8000_0040 % 4096 ≢ 0
begins is = omega (arith, is)

is-space : IsSpace 4 space.space.maps
unfolding block_pages begin_space
is-space = record {
  block = record { block = block_mapping 0 2; others = []; are = refl; begins = begins; uncut = refl };
  mappings = mappings;
  inside = inside;
}

-- ---- the world

module _ (pc a7 events : ℕ) where
  abbrev w : World
  w = running pc a7 events

  homes : (pid : ℕ) (p : Process) → find pid_of pid w.procs ≡ Some p → IsSome (find id_of p.space w.spaces)
  unfolding find
  homes pid p is = by (1 == pid) is
    where
      by : (b : Bool) → (if b then Some (process pc a7) else None) ≡ Some p → IsSome (if 0 == p.space then Some space else None)
      by true same = subst (λ (q : Process). IsSome (if 0 == q.space then Some space else None)) (same_Some (process pc a7) p same) refl
      by false same = absurd cc

  chains : AreChains w.procs
  unfolding sharing
  chains i = by (0 == i)
    where
      by : (b : Bool) → IsChain (if b then process pc a7 ∷ [] else [])
      by true = (refl, tt)
      by false = tt

  spaces : (i : ℕ) (s : LiveSpace) → find id_of i w.spaces ≡ Some s → IsSpace 4 s.space.maps
  unfolding find
  spaces i s is = by (0 == i) is
    where
      by : (b : Bool) → (if b then Some space else None) ≡ Some s → IsSpace 4 s.space.maps
      by true same = subst (λ (t : LiveSpace). IsSpace 4 t.space.maps) (same_Some space s same) is-space
      by false same = absurd cc

  none-copied : HoldCopies tree space.space
  unfolding begin_space block_pages
  none-copied zero m is = subst (λ (n : Mapping). HoldsSource space.space tree n n.source) (same_Some (block_mapping 0 2) m is) tt
  none-copied (suc j) m is = absurd cc

  copies : (i : ℕ) (s : LiveSpace) → find id_of i w.spaces ≡ Some s → HoldCopies tree s.space
  unfolding find
  copies i s is = by (0 == i) is
    where
      by : (b : Bool) → (if b then Some space else None) ≡ Some s → HoldCopies tree s.space
      by true same = subst (λ (t : LiveSpace). HoldCopies tree t.space) (same_Some space s same) none-copied
      by false same = absurd cc

  changes : (most : ℕ) → AreChanged most tree
  changes most zero n is = absurd cc
  changes most (suc zero) n is = subst (λ (m : Inode). m.change ≤ most) (same_Some _ n is) (omega arith)
  changes most (suc (suc zero)) n is = subst (λ (m : Inode). m.change ≤ most) (same_Some _ n is) (omega arith)
  changes most (suc (suc (suc id))) n is = absurd cc

  pub is-sound : IsSound w
  unfolding begin_space block_pages
  is-sound = record {
    some = omega arith;
    most = omega arith;
    pids = (omega arith, tt);
    numbers = (omega arith, tt);
    given = omega arith;
    homes = homes;
    chains = chains;
    spaces = spaces;
    apart = (λ j n is. absurd cc, tt);
    copies = copies;
    changes = changes _;
    calls = omega arith;
  }

-- ---- not sound

abbrev now : World
now = running 0x8000_0080 0 0

-- a pid that was given twice
refuted-pids : IsSound (record now { procs = process 0x8000_0080 0 ∷ now.procs }) → ⊥
refuted-pids s = let less : 1 < 1 = s.pids.1.0 in omega (arith, less)

-- a process without a space
refuted-homes : IsSound (record now { spaces = [] }) → ⊥
unfolding find
refuted-homes s = let is : false ≡ true = s.homes 1 (process 0x8000_0080 0) refl in cc

-- two processes run in one space
refuted-chains : IsSound (record now { procs = record (process 0x8000_0080 0) { pid = 2 } ∷ now.procs; next_pid = 3 }) → ⊥
unfolding sharing
refuted-chains s = ready (s.chains 0).1.0
  where
    ready : (process 0x8000_0080 0).state ≡ Lent 2 → ⊥
    ready is = cc

-- two blocks have one page
refuted-apart : IsSound (record now { spaces = record space { id = 1 } ∷ now.spaces; loads = 2 }) → ⊥
unfolding begin_space block_pages
refuted-apart s = let shared : ShareCopy (block_mapping 0 2) (block_mapping 0 2) = s.apart.0 0 (block_mapping 0 2) refl 1 refl refl in own shared.copy
  where
    own : false ≡ true → ⊥
    own is = cc

-- a mapping goes on behind memory
refuted-spaces : IsSound (record now { rest = record now.rest { pages = 1 } }) → ⊥
unfolding find begin_space block_pages
refuted-spaces s = let within : 2 ≤ 1 = (s.spaces 0 space refl).inside 0 (block_mapping 0 2) refl in omega (arith, within)
