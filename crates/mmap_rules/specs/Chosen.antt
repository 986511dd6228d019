-- For private functions: what `map` chooses, pages of a copy that is there or a run of its own.
use Rattle.std.specs.Prelude.{ℕ, ◌*◌, Bool, true, false, List, [], take, drop, Option, None, option_map}
use Rattle.nommu_regions.specs.declared.region.Region.{Region}
use Rattle.nommu_regions.specs.declared.region.Source.{Source}
use Rattle.nommu_regions.specs.declared.region.Source.TheVariants.{Own, Copy}
use Rattle.nommu_regions.specs.Regions.{copy_of}
use Rattle.nommu_regions.specs.Ids.{Numbered, start_of}
use Rattle.mmap_rules.specs.declared.want.Want.{Want}
use Rattle.mmap_rules.specs.declared.want.Want.TheVariants.{Anon, File}
use Rattle.mmap_rules.specs.declared.pages.NewRun.{NewRun}
use Rattle.mmap_rules.specs.declared.pages.Part.{Part}
use Rattle.mmap_rules.specs.Space.{page_size}

-- a part with the first page of its copy in the place of the id
abbrev pub part_at : Numbered → Part → Part
part_at s p = record p { copy = start_of s p.copy }

-- pages of a file that aren't written can be shared
abbrev pub part_for : List Region → Want → Option Part
part_for rs (Anon pages) = None
part_for rs (File pages first true id change) = None
part_for rs (File pages first false id change) =
    option_map (λ copy. record { copy = copy; first = first; pages = pages }) (copy_of rs id change first pages)

abbrev pub file_source : (write : Bool) → (file change first : ℕ) → Source
file_source true file change first = Own
file_source false file change first = Copy file change first

abbrev pub new_run : Want → NewRun
new_run (Anon pages) = record { pages = pages; writes = true; anonymous = true; source = Own }
new_run (File pages first write id change) =
    record { pages = pages; writes = write; anonymous = false; source = file_source write id change first }

-- the bytes with which the run begins, where the file has these
abbrev pub bytes_copied : List ℕ → Want → List ℕ
bytes_copied bytes (Anon pages) = []
bytes_copied bytes (File pages first write id change) = take (page_size * pages) (drop (page_size * first) bytes)
