-- The flat file's program is the ELF file's.
use Rattle.originals.proofs.OriginalsSame.{program_is}
use Rattle.originals.proofs.program.elf_program.Goals as goal

pub returns-clause-original : goal.returns-clause-original
returns-clause-original c = program_is c.args.bytes.now c.args.stack _ c.type_inv.bytes c.requires.stack_limit c.flat_file.ensures
