-- The programs that can be run are flat files.
use Rattle.std.specs.Prelude.{◌≡◌, List, map}
use Rattle.page_runs.specs.declared.place.Kind.{Kind}
use Rattle.bflt_format.specs.Values.{Values}
use Rattle.flat_loader.specs.Original.{Original, flat_original}
use Rattle.machine_world.specs.World.{Program}
use Rattle.kept_parts.specs.Stands.{About}

abbrev pub original_of : Program → Original
original_of p = p.original

-- program i is the flat file number i: the part 'programs are the flat files'
abbrev pub AreFlats : List Program → List Values → Type 0
AreFlats programs flats = map original_of programs ≡ map flat_original flats

-- what is so in every run that chooses free runs in this way and has these flat files for programs
abbrev pub ForRuns : Kind → List Values → (About → Type 0) → Type 0
ForRuns kind flats T = (a : About) → a.kind ≡ kind → AreFlats a.programs flats → T a
