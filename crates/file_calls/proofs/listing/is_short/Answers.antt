-- An entry that is there is what is left from its place on.
use Rattle.std.proofs.Common.{sym, ap}
use Rattle.mem_files.specs.Inodes.{entries_of}
use Rattle.mem_files.specs.Seen.{entry_of}
use Rattle.machine_world.specs.Descriptors.{is_short}
use Rattle.file_calls.proofs.Listed.{entry_there, entry_past, is_short_there}
use Rattle.file_calls.proofs.listing.is_short.Goals as goal

pub returns-in-Some : goal.returns-in-Some
returns-in-Some c =
    is_short_there c.args.room c.record_len.result (entry_of (c.in-Some.name, c.in-Some.field-0-1)) _ _
    (entry_there (entries_of c.args.tree.now c.args.node) c.args.at (entry_of (c.in-Some.name, c.in-Some.field-0-1)) c.in-Some.ensures) c.record_len.ensures

pub returns-in-None : goal.returns-in-None
returns-in-None c = sym (ap (is_short c.args.room) (entry_past (entries_of c.args.tree.now c.args.node) c.args.at c.in-None.ensures))
