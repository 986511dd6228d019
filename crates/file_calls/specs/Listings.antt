-- The code's records of entries as plain values.
use Rattle.std.specs.Prelude.{[]}
use Rattle.machine_world.specs.Descriptors as world
use Rattle.file_calls.specs.declared.records.Listing.{Listing}

abbrev pub listing_value : Listing → world.Listing
listing_value l = record { bytes = l.bytes.items; count = l.count }

abbrev pub nothing_listed : world.Listing
nothing_listed = record { bytes = []; count = 0 }
