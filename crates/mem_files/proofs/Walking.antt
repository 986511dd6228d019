-- A walk along the names of a path, one name after the other.
use Rattle.std.proofs.Common.{◌≡◌, ℕ, Bool, true, false, cond, List, [], ◌∷◌, length, Result, Ok, Err, refl, sym, ap, ◌∙◌}
use Rattle.std.specs.Prelude.{◌==◌}
use Rattle.call_log.specs.declared.errno.Errno.{Errno}
use Rattle.call_log.specs.declared.errno.Errno.TheVariants.{Enoent, Enametoolong}
use Rattle.mem_files.specs.Inodes.{Inodes}
use Rattle.mem_files.specs.Paths.{Place, start, names, is_too_long, next_place, then_walked, walked, place_of}

-- what stands before the walk
abbrev pub before : Inodes → List ℕ → Bool → Bool → Result Place Errno
before ns path long empty = cond long (Err Enametoolong) (cond empty (Err Enoent) (walked ns (names path) start))

pub place_by : (ns : Inodes) (path : List ℕ) (long empty : Bool) → is_too_long path ≡ long → (length path == 0) ≡ empty → place_of ns path ≡ before ns path long empty
unfolding place_of
place_by ns path long empty is none = λ i. before ns path (is i) (none i)

pub too_long : (ns : Inodes) (path : List ℕ) → is_too_long path ≡ true → Err Enametoolong ≡ place_of ns path
too_long ns path is = sym (place_by ns path true (length path == 0) is refl)

pub empty : (ns : Inodes) (path : List ℕ) → is_too_long path ≡ false → (length path == 0) ≡ true → Err Enoent ≡ place_of ns path
empty ns path is none = sym (place_by ns path false true is none)

pub walk : (ns : Inodes) (path : List ℕ) → is_too_long path ≡ false → (length path == 0) ≡ false → walked ns (names path) start ≡ place_of ns path
walk ns path is some = sym (place_by ns path false false is some)

pub step : (ns : Inodes) (p : Place) (r : Result Place Errno) (rest name more : List ℕ) → names rest ≡ name ∷ names more → r ≡ next_place ns name p.id → walked ns (names rest) p ≡ then_walked r (walked ns (names more))
unfolding walked
step ns p r rest name more is next = ap (λ l. walked ns l p) is ∙ ap (λ q. then_walked q (walked ns (names more))) (sym next)

pub done : (ns : Inodes) (p : Place) (rest : List ℕ) → names rest ≡ [] → walked ns (names rest) p ≡ Ok p
unfolding walked
done ns p rest is = ap (λ l. walked ns l p) is
