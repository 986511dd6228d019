use Rattle.bflt_format.specs.Values.{ram_values}
use Rattle.bflt_format.specs.Flat.{behind_header}
use Rattle.bflt_format.proofs.Spelled.{spells_given}
use Rattle.bflt_format.proofs.flat.Flat.of.Goals as goal

pub invariant_of-result : goal.invariant_of-result
invariant_of-result c =
    spells_given (ram_values c.args.entry c.args.text c.args.data_len c.args.bss c.args.stack (behind_header c.args.file.items) c.args.records.items) c.requires.no_fault c.requires.values
