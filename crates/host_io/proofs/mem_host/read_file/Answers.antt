use Rattle.std.proofs.Common.{inr}
use Rattle.host_io.proofs.FilesOf.{files-get}
use Rattle.host_io.proofs.mem_host.read_file.Goals as goal

pub returns-in-None : goal.returns-in-None
returns-in-None c = inr (rw (files-get c.args.files.now c.args.name.now, ← c.in-None.ensures.value, c.requires))

pub returns-in-Some : goal.returns-in-Some
returns-in-Some c = rw (files-get c.args.files.now c.args.name.now, ← c.in-Some.ensures.value, ← c.as_slice.ensures.value) c.read_bytes.ensures
