-- The bytes of a mapping that are recorded, where it comes about.
use Rattle.std.specs.Prelude.{ℕ, ◌*◌, Bool, ◌&&◌, if◌then◌else◌}
use Rattle.mmap_rules.specs.declared.want.Want.{Want}
use Rattle.mmap_rules.specs.Space.{page_size}
use Rattle.mmap_rules.specs.Copies.{pages_of}
use Rattle.machine_world.specs.Recordings.{is_recorded}
use Rattle.kept_parts.specs.Kept.{Kept}
use Rattle.kept_parts.specs.MapsIn.{is_file}

-- in the space of this number
abbrev pub recorded_bytes : Kept → ℕ → Want → (fits : Bool) → ℕ
recorded_bytes k space want fits = if is_recorded k.recording space && is_file want && fits then page_size * pages_of want else 0
