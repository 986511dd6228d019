-- Runs of which little is known: what holds of the parts whatever the run is, is read of these.
use Rattle.std.proofs.Common.{◌∷◌, [], List, map, refl, ap}
use Rattle.page_runs.specs.declared.place.Kind.{Kind}
use Rattle.page_runs.specs.declared.place.Kind.TheVariants.{First}
use Rattle.bflt_format.specs.Values.{Values}
use Rattle.flat_loader.specs.Original.{Original, flat_original}
use Rattle.machine_world.specs.World.{Program}
use Rattle.kept_parts.specs.Flats.{AreFlats}
use Rattle.kept_parts.specs.Stands.{About}

-- any run
pub some_about : About
some_about = record { kind = First; programs = []; events = 0 }

-- any paths will do
abbrev pub some_programs : List Values → List Program
some_programs flats = map (λ flat. record { path = []; original = flat_original flat }) flats

-- any run whose free runs are chosen so and whose programs are these flat files
abbrev pub about_with : Kind → List Values → About
about_with kind flats = record { kind = kind; programs = some_programs flats; events = 0 }

pub some_are_flats : (flats : List Values) → AreFlats (some_programs flats) flats
some_are_flats [] = refl
some_are_flats (flat ∷ flats) = ap (λ (rest : List Original). flat_original flat ∷ rest) (some_are_flats flats)
