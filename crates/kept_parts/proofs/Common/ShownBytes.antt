-- What the live spaces show of the one memory: each has what it has in the space's own ranges.
use Rattle.std.proofs.Common.{◌≡◌, ℕ, ◌+◌, List, [], ◌∷◌, ◌++◌, map, refl, ap, ◌∙◌}
use Rattle.std.specs.Prelude.{Option, Some, None}
use Rattle.std.proofs.lemmas.List.{map-append}
use Rattle.mmap_rules.specs.Held.{Held}
use Rattle.region_watch.specs.Private.{physical}
use Rattle.machine_world.specs.World.{LiveSpace}
use Rattle.memory_world.specs.Physical.{shown_space, showing}
use Rattle.memory_world.proofs.InMemory.{showing_shown}
use Rattle.kept_parts.specs.Kept.{Kept}
use Rattle.kept_parts.specs.Stands.{About, private_bytes, live_at, live_from, live_spaces, world_of}

module _ (mem now : List ℕ) where
  shown_at : (i : ℕ) (s : Option Held) → map (shown_space (physical now)) (live_at mem i s) ≡ live_at now i s
  unfolding private_bytes
  shown_at i None = refl
  shown_at i (Some h) = refl

  shown_from : (i : ℕ) (spaces : List (Option Held)) → map (shown_space (physical now)) (live_from mem i spaces) ≡ live_from now i spaces
  shown_from i [] = refl
  shown_from i (s ∷ ss) =
      map-append (shown_space (physical now)) (live_from mem (i + 1) ss) (live_at mem i s)
      ∙ ap (λ (xs : List LiveSpace). xs ++ map (shown_space (physical now)) (live_at mem i s)) (shown_from (i + 1) ss)
      ∙ ap (λ (xs : List LiveSpace). live_from now (i + 1) ss ++ xs) (shown_at i s)

-- those of one memory that show another one are those of the other one
pub shown_as : (mem now : List ℕ) (spaces : List (Option Held)) → map (shown_space (physical now)) (live_spaces mem spaces) ≡ live_spaces now spaces
unfolding live_spaces
shown_as mem now spaces = shown_from mem now 0 spaces

-- the world that the parts stand for shows their memory
pub shows : (a : About) (k : Kept) → map (shown_space (physical k.mem)) (world_of a k).spaces ≡ (world_of a k).spaces
unfolding world_of
shows a k = shown_as k.mem k.mem k.spaces

pub showing_of : (a : About) (k : Kept) → showing (physical k.mem) (world_of a k) ≡ world_of a k
showing_of a k = showing_shown (physical k.mem) (world_of a k) (shows a k)
