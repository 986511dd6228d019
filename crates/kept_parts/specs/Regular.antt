-- What holds of the parts at every moment.
use Rattle.std.specs.Prelude.{◌≡◌, ℕ, ◌+◌, ◌*◌, ◌^◌, ◌==◌, ◌≤◌, true, List, [], ◌∷◌, length, map, count_by, Option, Some, None, slice_get}
use Rattle.nommu_regions.specs.declared.region.Region.{Region}
use Rattle.nommu_regions.specs.declared.region.Source.TheVariants.{Own}
use Rattle.nommu_regions.specs.Regions.{AreRegions}
use Rattle.mmap_rules.specs.declared.mapping.Mapping.{Mapping}
use Rattle.mmap_rules.specs.Space.{page_size}
use Rattle.mmap_rules.specs.Held.{Held, page_address}
use Rattle.vfork_exec.specs.declared.entry.Entry.{Entry}
use Rattle.vfork_exec.specs.Keyed.{Falls}
use Rattle.vfork_exec.specs.Procs.{process, pid_of, most_entries}
use Rattle.kept_parts.specs.declared.task.Task.{Task}
use Rattle.kept_parts.specs.Kept.{Kept}
use Rattle.machine_world.specs.Families.{AreChains}
use Rattle.machine_world.specs.Ages.{kept_calls}
use Rattle.kept_parts.specs.Stands.{process_of}
use Rattle.kept_parts.specs.Copies.{CopiesHold}

-- how many of the mappings name the region at an id
abbrev pub named_in : ℕ → List Mapping → ℕ
named_in id maps = count_by (λ m. m.first == id) maps

-- of all live spaces
abbrev pub uses_in : ℕ → List (Option Held) → ℕ
uses_in id [] = 0
uses_in id (None ∷ spaces) = uses_in id spaces
uses_in id (Some h ∷ spaces) = named_in id h.maps + uses_in id spaces

-- a mapping holds the run of its region, and its own range lies in it; where it may be written the region's source is Own
pub record Names (regions : List Region) (m : Mapping) : Type 0 where
  pub region : Region
  pub there : slice_get regions m.first ≡ Some region
  pub run : m.pages ≡ region.pages
  pub source : m.source ≡ region.source
  pub from : page_address m.first ≤ m.range.from
  pub to : m.range.from + m.range.size ≤ page_address (m.first + m.pages)
  pub own : m.range.writes ≡ true → region.source ≡ Own

-- a live space stands at a number
pub record HasSpace (spaces : List (Option Held)) (number : ℕ) : Type 0 where
  pub held : Held
  pub there : slice_get spaces number ≡ Some (Some held)

-- the most pids and spaces that are given without a call
abbrev pub most_first : ℕ
most_first = 2 ^ 16

pub record Regular (k : Kept) : Type 0 where
  pub memory : length k.mem ≡ page_size * length k.regions
  pub some : 1 ≤ length k.regions
  pub most : length k.regions ≤ 16384
  -- disjoint regions
  pub regions : AreRegions k.regions
  -- exact use counts
  pub uses : (id : ℕ) (r : Region) → slice_get k.regions id ≡ Some r → r.uses ≡ uses_in id k.spaces
  pub one_use : (id : ℕ) (r : Region) → slice_get k.regions id ≡ Some r → r.source ≡ Own → r.uses ≤ 1
  -- writable bytes are Own
  pub names : (i j : ℕ) (h : Held) (m : Mapping) → slice_get k.spaces i ≡ Some (Some h) → slice_get h.maps j ≡ Some m → Names k.regions m
  pub pages : (i : ℕ) (h : Held) → slice_get k.spaces i ≡ Some (Some h) → h.pages ≡ length k.regions
  -- one runner a space
  pub runs : (pid : ℕ) (e : Entry Task) → process k.procs pid ≡ Some e → HasSpace k.spaces e.value.space
  pub chains : AreChains (map process_of k.procs.entries)
  pub falls : Falls pid_of k.procs.next_pid k.procs.entries
  pub few : length k.procs.entries + length k.procs.ended ≤ most_entries
  -- pids and spaces are few: each but those of the first has its kept call
  pub pids : k.procs.next_pid ≤ most_first + kept_calls k.notes
  pub loads : length k.spaces ≤ most_first + kept_calls k.notes

-- and copies hold their file
abbrev pub IsRegular : Kept → Type 0
IsRegular k = Regular k × CopiesHold k.regions k.mem k.tree k.notes
