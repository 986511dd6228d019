-- The code's places of a walk as plain values.
use Rattle.std.specs.Prelude.{ℕ, Option, Some, None, Result, Ok, Err}
use Rattle.call_log.specs.declared.errno.Errno.{Errno}
use Rattle.call_log.specs.declared.errno.Errno.TheVariants.{Eexist}
use Rattle.mem_files.specs.declared.place.Place.{Place as Stood}
use Rattle.mem_files.specs.Paths.{Place}

abbrev pub place_value : Stood → Place
place_value p = record { id = p.id; folder = p.folder; name = p.name.now }

abbrev pub place_answer : Result Stood Errno → Result Place Errno
place_answer (Ok p) = Ok (place_value p)
place_answer (Err errno) = Err errno

-- the place of a path that leads to nothing yet
abbrev pub vacant_at : Place → Option ℕ → Result Place Errno
vacant_at p (Some id) = Err Eexist
vacant_at p None = Ok p

abbrev pub vacant_in : Result Place Errno → Result Place Errno
vacant_in (Err errno) = Err errno
vacant_in (Ok p) = vacant_at p p.id
