-- An entry that is there is what is left from its place on.
use Rattle.std.proofs.Common.{◌≤◌, ◌<◌, length, arith}
use Rattle.mem_files.specs.Inodes.{entries_of}
use Rattle.mem_files.specs.Seen.{entry_of}
use Rattle.machine_world.specs.Descriptors.{record_len}
use Rattle.file_calls.proofs.Listed.{entry_there, entry_past, listing_ends, listing_stops}
use Rattle.file_calls.proofs.listing.fitting.Goals as goal

pub returns-in_err-name : goal.returns-in_err-name
returns-in_err-name c =
    rw c.from_residual.ensures
    (listing_ends c.args.tree.now c.args.room c.args.k _ (entry_past (entries_of c.args.tree.now c.args.node) c.args.k c.in_err-name.ensures))

pub returns-then-record_len-room : goal.returns-then-record_len-room
returns-then-record_len-room c =
    let fits : record_len (length c.in_ok-name.name.now) ≤ c.args.room = omega (arith, c.record_len.ensures) in
    (fits, entry_there (entries_of c.args.tree.now c.args.node) c.args.k (entry_of (c.in_ok-name.name, c.in_ok-name.id)) c.in_ok-name.ensures)

pub returns-else-record_len-room : goal.returns-else-record_len-room
returns-else-record_len-room c =
    let long : c.args.room < record_len (length c.in_ok-name.name.now) = omega (arith, c.record_len.ensures) in
    listing_stops c.args.tree.now c.args.room c.args.k (entry_of (c.in_ok-name.name, c.in_ok-name.id)) _ _
    (entry_there (entries_of c.args.tree.now c.args.node) c.args.k (entry_of (c.in_ok-name.name, c.in_ok-name.id)) c.in_ok-name.ensures) long
