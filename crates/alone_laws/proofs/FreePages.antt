-- A run that is chosen is apart from all mappings, and what holds of the mappings of each space.
use Rattle.std.proofs.Common.{◌≡◌, ℕ, ◌+◌, ◌<◌, ◌≤◌, List, Some, arith}
use Rattle.std.specs.Prelude.{slice_get}
use Rattle.std.proofs.lemmas.Bool.{both_ways}
use Rattle.std.proofs.lemmas.Bool.Decides.{nat_tests}
use Rattle.mmap_rules.specs.declared.mapping.Mapping.{Mapping}
use Rattle.mmap_rules.specs.Space.{has_page}
use Rattle.vfork_exec.specs.Keyed.{Falls, find}
use Rattle.machine_world.specs.World.{LiveSpace, id_of}
use Rattle.machine_world.specs.MapCalls.{all_maps}
use Rattle.alone_laws.specs.Sound.{Apart}
use Rattle.alone_laws.proofs.SharedPages.{HasIt, from_all, IsFree, not_held}

pub each_of_all : (P : Mapping → Type 0) (b : ℕ) (ss : List LiveSpace) → Falls id_of b ss
    → ((i : ℕ) (s : LiveSpace) → find id_of i ss ≡ Some s → (j : ℕ) (m : Mapping) → slice_get s.space.maps j ≡ Some m → P m)
    → (j : ℕ) (m : Mapping) → slice_get (all_maps ss) j ≡ Some m → P m
each_of_all P b ss falls each j m there =
    let it : HasIt ss m = from_all b ss j m falls there in
    each it.space.id it.space it.found it.has.at m it.has.there

-- a mapping of just the pages of a free run is apart from all
pub free_apart : (pages b : ℕ) (ss : List LiveSpace) (first need : ℕ) (m : Mapping) → Falls id_of b ss → IsFree pages ss first need → m.first ≡ first → m.pages ≡ need
    → (j : ℕ) (n : Mapping) → slice_get (all_maps ss) j ≡ Some n → Apart n m
free_apart pages b ss first need m falls free begins long j n there page on_n on_m =
    let low : first ≤ page = grind (arith, nat_tests) in
    let high : page < first + need = grind (arith, nat_tests) in
    let it : HasIt ss n = from_all b ss j n falls there in
    absurd (both_ways (has_page page n) (not_held ss page it.space.id it.space it.has.at n (free.free page low high) it.found it.has.there) on_n)
