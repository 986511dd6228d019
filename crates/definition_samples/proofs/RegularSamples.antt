-- A regular and bounded world, one memory that is so, and worlds and a memory that aren't.
use Rattle.std.proofs.Common.{◌≡◌, ℕ, ◌<◌, ◌≤◌, Bool, true, false, List, [], ◌∷◌, Option, Some, None, refl, ap, arith}
use Rattle.std.specs.Prelude.{◌||◌, if◌then◌else◌}
use Rattle.std.proofs.Math.Path.{fun_ext}
use Rattle.byte_words.specs.ByteMap.{Bytes}
use Rattle.byte_words.specs.Patches.{from_base}
use Rattle.mmap_rules.specs.Space.{in_range, own_in}
use Rattle.region_watch.specs.Private.{only}
use Rattle.flat_loader.specs.Original.{block_pages}
use Rattle.flat_loader.specs.Frame.{frame_len, frame, frame_start}
use Rattle.flat_loader.specs.Begin.{begin_space, own_range, begin_byte}
use Rattle.machine_world.specs.World.{LiveSpace, World}
use Rattle.refusal_laws.specs.Regular.{memory_end, HasBreak, IsRegularWorld}
use Rattle.refusal_laws.specs.Bounded.{IsBounded}
use Rattle.memory_world.specs.Physical.{Physical, or_below, over, zeros}
use Rattle.memory_world.specs.Courses.{IsShown}
use Rattle.refusals_in_memory.specs.Regular.{IsRegularIn}
use Rattle.definition_samples.proofs.Exits.{loading, process, space, running}
use Rattle.definition_samples.proofs.OrderedSamples.{is-counted}
use Rattle.definition_samples.proofs.SoundSamples.{is-sound}

abbrev now : World
now = running 0x8000_0080 0 0

-- ---- regular: the process has no parent, and its break ends at its stack

breaks : HasBreak space
unfolding begin_space block_pages
breaks = record { brk = omega arith; high = omega arith }

is-regular : IsRegularWorld now
is-regular = record {
  sound = is-sound 0x8000_0080 0 0;
  counted = is-counted;
  unmarked = refl;
  parents = (omega arith, tt);
  breaks = (breaks, tt);
}

-- a process that is its own parent
refuted-parents : IsRegularWorld (record now { procs = record (process 0x8000_0080 0) { parent = 1 } ∷ [] }) → ⊥
refuted-parents r = let less : 1 < 1 = r.parents.0 in omega (arith, less)

-- a pipe that is marked
refuted-marked : IsRegularWorld (record now { rest = record now.rest { files = record now.rest.files { changed = 1 ∷ [] } } }) → ⊥
refuted-marked r = marked 1 r.unmarked
  where
    marked : (n : ℕ) → n ∷ [] ≡ [] → ⊥
    marked n is = cc

-- a break behind the largest memory
abbrev far : LiveSpace
far = record space { space = record space.space { brk = 0x8400_0001 } }

refuted-breaks : IsRegularWorld (record now { spaces = far ∷ [] }) → ⊥
refuted-breaks r = let within : 0x8400_0001 ≤ memory_end = r.breaks.0.brk in omega (arith, within)

-- ---- bounded

pub is-bounded : IsBounded now
unfolding begin_space
is-bounded = record {
  most = omega arith;
  pids = (omega arith, tt);
  given = omega arith;
  parents = (omega arith, tt);
  spaces = (record { break = breaks; copies = (tt, tt) }, tt);
  counted = is-counted;
}

-- a page more than memory can have
refuted-most : IsBounded (record now { rest = record now.rest { pages = 16385 } }) → ⊥
refuted-most b = let most : 16385 ≤ 16384 = b.most in omega (arith, most)

-- so many pids can't have been given without a call
refuted-given : IsBounded (record now { next_pid = 66 }) → ⊥
refuted-given b = let given : 66 ≤ 65 = b.given in omega (arith, given)

-- ---- one memory: the block's bytes, and zeros around them

abbrev memory : Bytes
memory = over space.space.bytes (zeros now)

abbrev physical : Bytes → Physical
physical bytes = record { world = now; memory = bytes; headers = [] }

shown-byte : (a : ℕ) → only (own_in space.space.maps) memory a ≡ space.space.bytes a
unfolding begin_space own_in only block_pages
shown-byte a = by (in_range (own_range loading) a)
  where
    by : (b : Bool) →
        (if b || false then or_below (if b then Some (begin_byte loading a) else None) (zeros now a) else None) ≡ (if b then Some (begin_byte loading a) else None)
    by true = refl
    by false = refl

is-shown : IsShown (physical memory)
is-shown = ap (λ (bytes : Bytes). record space { space = record space.space { bytes = bytes } } ∷ []) (fun_ext (λ a. shown-byte a))

is-regular_in : IsRegularIn (physical memory)
is-regular_in = record { shown = is-shown; unmarked = refl; bounded = is-bounded }

-- memory that has zeros where the space has its program
abbrev byte_at : ℕ → List LiveSpace → Option ℕ
byte_at a [] = None
byte_at a (s ∷ ss) = s.space.bytes a

refuted-shown : IsRegularIn (physical (zeros now)) → ⊥
unfolding from_base block_pages frame_len frame frame_start begin_space own_in only
refuted-shown r = differs (ap (λ (ss : List LiveSpace). byte_at 0x8000_0080 ss) r.shown)
  where
    differs : ◌≡◌ {A = Option ℕ} (Some 0) (Some 0x93) → ⊥
    differs is = cc
