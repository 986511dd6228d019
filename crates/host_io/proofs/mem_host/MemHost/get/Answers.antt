use Rattle.host_io.proofs.FilesOf.{files-get}
use Rattle.host_io.proofs.mem_host.MemHost.get.Goals as goal

pub returns-in-Some : goal.returns-in-Some
returns-in-Some c = rw (← c.self.view_is, files-get c.self.inside.files c.args.name.now, ← c.in-Some.ensures.value, c.as_slice.ensures.value)

pub returns-in-None : goal.returns-in-None
returns-in-None c = rw (← c.self.view_is, files-get c.self.inside.files c.args.name.now, ← c.in-None.ensures.value)
