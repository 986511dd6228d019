-- What the fields of a machine say of its world.
use Rattle.std.proofs.Common.{◌≡◌, ℕ, suc, List, [], ◌∷◌, length, map, refl, sym, ap, subst, arith}
use Rattle.bflt_format.specs.Values.{Values}
use Rattle.flat_loader.specs.Original.{Original, flat_original}
use Rattle.kept_parts.specs.Flats.{AreFlats}
use Rattle.kept_parts.specs.Stands.{About, world_of}
use Rattle.kept_parts.specs.Kept.{Kept}
use Rattle.machine_world.specs.World.{program_path}
use Rattle.machine_world.specs.Programs.{AreLoaded, LoadsPrograms}
use Rattle.flat_machine.specs.State.{State, programs_of, world}

-- as many paths as programs
pub paths_are : (paths : List (List ℕ)) (flats : List Values) → length paths ≡ length flats → map program_path (programs_of paths flats) ≡ paths
paths_are [] [] same = refl
paths_are (path ∷ paths) (flat ∷ flats) same = ap (λ (rest : List (List ℕ)). path ∷ rest) (paths_are paths flats (grind arith))
paths_are [] (flat ∷ flats) same = absurd (grind arith)
paths_are (path ∷ paths) [] same = absurd (grind arith)

pub programs_count : (paths : List (List ℕ)) (flats : List Values) → length paths ≡ length flats → length (programs_of paths flats) ≡ length flats
programs_count [] [] same = refl
programs_count (path ∷ paths) (flat ∷ flats) same = ap suc (programs_count paths flats (grind arith))
programs_count [] (flat ∷ flats) same = absurd (grind arith)
programs_count (path ∷ paths) [] same = absurd (grind arith)

-- each program is its flat file
pub are_flats : (paths : List (List ℕ)) (flats : List Values) → length paths ≡ length flats → AreFlats (programs_of paths flats) flats
are_flats [] [] same = refl
are_flats (path ∷ paths) (flat ∷ flats) same = ap (λ (rest : List Original). flat_original flat ∷ rest) (are_flats paths flats (grind arith))
are_flats [] (flat ∷ flats) same = absurd (grind arith)
are_flats (path ∷ paths) [] same = absurd (grind arith)

pub paths_of_world : (s : State) → length s.paths ≡ length s.programs → map program_path (world s).rest.programs ≡ s.paths
unfolding world_of
paths_of_world s same = paths_are s.paths s.programs same

pub loads_of_world : (s : State) → length s.paths ≡ length s.programs → AreLoaded (length s.programs) s.kept.notes → AreLoaded (length (world s).rest.programs) (world s).notes
unfolding world_of
loads_of_world s same are = subst (λ (n : ℕ). AreLoaded n s.kept.notes) (sym (programs_count s.paths s.programs same)) are

-- the programs that are there, and the load notes that name them
pub loads_programs : (a : About) (k : Kept) (n : ℕ) → length a.programs ≡ n → AreLoaded n k.notes → LoadsPrograms n (world_of a k)
unfolding world_of
loads_programs a k n same are = record { count = same; loaded = are }

pub loaded_notes : (a : About) (k : Kept) (n : ℕ) → LoadsPrograms n (world_of a k) → AreLoaded n k.notes
unfolding world_of
loaded_notes a k n loads = loads.loaded
