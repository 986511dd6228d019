use Rattle.host_io.proofs.FilesOf.{files-insert}
use Rattle.host_io.proofs.mem_host.put_file.Goals as goal

pub returns-clause-ok : goal.returns-clause-ok
returns-clause-ok c =
    rw (← c.in_ok-key.ensures.ok, ← c.in_ok-file.ensures.items)
    (files-insert c.args.files.now c.insert.new.self c.in_ok-key.key c.in_ok-file.file c.in_ok-insert.ensures.updates)
