-- The definitions, computed on worked examples: a memory of 8 pages in which two regions of 3 pages have a use, and one of 16 pages
-- with a block of 3.
use Rattle.std.proofs.Common.{◌≡◌, ℕ, true, false, List, [], ◌∷◌, ◌++◌, Option, Some, None, refl}
use Rattle.std.specs.Prelude.{option_map, Ok, Err, replicate}
use Rattle.page_runs.specs.declared.place.Kind.TheVariants.{First}
use Rattle.page_runs.specs.Free.{free_runs}
use Rattle.page_runs.specs.Place.{place}
use Rattle.nommu_regions.specs.declared.region.Region.{Region}
use Rattle.nommu_regions.specs.declared.region.Source.TheVariants.{Own, Copy}
use Rattle.nommu_regions.specs.Regions.{with_cut}
use Rattle.call_log.specs.declared.errno.Errno.TheVariants.{Ebadf, Enodev, Einval}
use Rattle.mmap_rules.specs.declared.mapping.Mapping.{Mapping}
use Rattle.mmap_rules.specs.declared.want.FileSide.TheVariants as side
use Rattle.mmap_rules.specs.declared.want.Want.TheVariants.{Anon, File}
use Rattle.mmap_rules.specs.Held.{Held, held_block}
use Rattle.mmap_rules.specs.Want.{wanted}
use Rattle.mmap_rules.specs.Mappings.{run_mapping, part_mapping, hit, without_hit}
use Rattle.mmap_rules.specs.MapState.{MapState, Mapped, mapped, Freed, freed, unmapped}

-- no region
none : Region
none = record { first = 0; pages = 0; source = Own; uses = 0 }

-- a region of one use
run : ℕ → ℕ → Region
run first pages = record { first = first; pages = pages; source = Own; uses = 1 }

-- all of a run that is anonymous
anon : ℕ → ℕ → Mapping
anon first pages = run_mapping first pages true true Own

-- what a mapping answers, and what it leaves but for the bytes
abbrev answer : Option Mapped → Option (ℕ × Freed)
answer = option_map (λ (m : Mapped). (m.addr, freed m.map_state.held m.map_state.regions))

at_sides : Freed → MapState
at_sides f = record { held = f.held; regions = f.regions; memory = [] }

-- a space with its block, and these mappings
space : ℕ → List Mapping → Held
space pages maps = let h = held_block pages (run 0 3) 172 4096 in record h { maps = h.maps ++ maps }

-- ---- 8 pages

before : Freed
before = freed (space 8 []) (run 0 3 ∷ none ∷ none ∷ run 3 3 ∷ none ∷ none ∷ none ∷ none ∷ [])

with_two : Freed
with_two = freed (space 8 (anon 6 2 ∷ [])) (run 0 3 ∷ none ∷ none ∷ run 3 3 ∷ none ∷ none ∷ run 6 2 ∷ none ∷ [])

cut : Freed
cut = freed (space 8 (anon 7 1 ∷ [])) (run 0 3 ∷ none ∷ none ∷ run 3 3 ∷ none ∷ none ∷ record (run 6 0) { uses = 0 } ∷ run 7 1 ∷ [])

again : Freed
again = freed (space 8 (anon 7 1 ∷ anon 6 1 ∷ [])) (run 0 3 ∷ none ∷ none ∷ run 3 3 ∷ none ∷ none ∷ run 6 1 ∷ run 7 1 ∷ [])

two_pages : answer (mapped (at_sides before) First [] (Anon 2)) ≡ Some (0x80006000, with_two)
unfolding mapped place free_runs at_sides before with_two space run none anon
two_pages = refl

no_more : answer (mapped (at_sides with_two) First [] (Anon 1)) ≡ None
unfolding mapped place free_runs at_sides with_two space run none anon
no_more = refl

first_page_cut : unmapped with_two.held with_two.regions 0x80006000 4096 ≡ Some cut
unfolding unmapped hit without_hit with_cut with_two cut space run none anon
first_page_cut = refl

one_page : answer (mapped (at_sides cut) First [] (Anon 1)) ≡ Some (0x80006000, again)
unfolding mapped place free_runs at_sides cut again space run none anon
one_page = refl

not_both : hit again.held.maps 0x80006000 8192 ≡ None
unfolding hit again space run none anon
not_both = refl

just_the_second : hit again.held.maps 0x80007000 4096 ≡ Some (record { at = 1; mapping = anon 7 1; left = [] })
unfolding hit again space run none anon
just_the_second = refl

-- ---- 16 pages

nones : ℕ → List Region
nones n = replicate n none

alone : Freed
alone = freed (space 16 []) (run 0 3 ∷ nones 15)

with_three : Freed
with_three = freed (space 16 (anon 3 3 ∷ [])) (run 0 3 ∷ none ∷ none ∷ run 3 3 ∷ nones 12)

with_hole : Freed
with_hole = freed (space 16 (anon 3 1 ∷ anon 5 1 ∷ [])) (run 0 3 ∷ none ∷ none ∷ run 3 1 ∷ none ∷ run 5 1 ∷ nones 10)

hole_filled : Freed
hole_filled = freed (space 16 (anon 3 1 ∷ anon 5 1 ∷ anon 4 1 ∷ [])) (run 0 3 ∷ none ∷ none ∷ run 3 1 ∷ run 4 1 ∷ run 5 1 ∷ nones 10)

three_pages : answer (mapped (at_sides alone) First [] (Anon 3)) ≡ Some (0x80003000, with_three)
unfolding mapped place free_runs at_sides alone with_three space run none nones anon
three_pages = refl

middle_cut : unmapped with_three.held with_three.regions 0x80004000 4096 ≡ Some with_hole
unfolding unmapped hit without_hit with_cut with_three with_hole space run none nones anon
middle_cut = refl

not_all_three : hit with_hole.held.maps 0x80003000 12288 ≡ None
unfolding hit with_hole space run none nones anon
not_all_three = refl

into_the_hole : answer (mapped (at_sides with_hole) First [] (Anon 1)) ≡ Some (0x80004000, hole_filled)
unfolding mapped place free_runs at_sides with_hole hole_filled space run none nones anon
into_the_hole = refl

-- pages of a file in a run of its own aren't cut
file_whole : hit (run_mapping 3 2 true false Own ∷ []) 0x80003000 4096 ≡ None
unfolding hit
file_whole = refl

-- nor is the block, at its first page or its second
block_stays : hit alone.held.maps 0x80000000 12288 ≡ None
unfolding hit alone space run none nones
block_stays = refl

block_whole : hit alone.held.maps 0x80001000 8192 ≡ None
unfolding hit alone space run none nones
block_whole = refl

-- of two equal mappings the oldest is hit
oldest : hit (anon 3 1 ∷ part_mapping 6 2 (Copy 1 0 0) 0 1 ∷ part_mapping 6 2 (Copy 1 0 0) 0 1 ∷ []) 0x80006000 1 ≡ Some (record { at = 1; mapping = part_mapping 6 2 (Copy 1 0 0) 0 1; left = [] })
unfolding hit anon
oldest = refl

-- ---- refusals

no_length : wanted 0 0 3 0x22 0 side.Closed ≡ Err Einval
unfolding wanted
no_length = refl

fixed : wanted 0 4096 3 0x32 0 side.Closed ≡ Err Einval
unfolding wanted
fixed = refl

shared_and_private : wanted 0 4096 3 3 0 side.NotFile ≡ Err Einval
unfolding wanted
shared_and_private = refl

closed : wanted 0 4096 1 2 0 side.Closed ≡ Err Ebadf
unfolding wanted
closed = refl

shared_file : wanted 0 4096 1 1 0 (side.File 7 0) ≡ Err Enodev
unfolding wanted
shared_file = refl

length_first : wanted 0 0 1 2 0 side.Closed ≡ Err Einval
unfolding wanted
length_first = refl

private_file : wanted 0 4097 3 2 5 (side.File 7 0) ≡ Ok (File 2 5 true 7 0)
unfolding wanted
private_file = refl
