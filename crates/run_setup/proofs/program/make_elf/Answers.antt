-- The flat file that was made, as the program of the ELF file.
use Rattle.run_setup.proofs.MadePrograms.{makes_elf}
use Rattle.run_setup.proofs.program.make_elf.Goals as goal

pub returns-in_ok-bytes-in-Ok : goal.returns-in_ok-bytes-in-Ok
returns-in_ok-bytes-in-Ok c =
    makes_elf c.args.file.now c.args.stack _ _ c.in-Ok.ensures.file.0 c.in-Ok.ensures.file.1 c.in-Ok.ensures.original c.in_ok-bytes-in-Ok.ensures
