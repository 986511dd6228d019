use Rattle.std.proofs.Common.{◌∙◌, ap}
use Rattle.bflt_format.specs.Spelling.{spell}
use Rattle.elf2flt_tool.specs.Converted.{flat}
use Rattle.elf2flt_tool.proofs.conversion.convert.Goals as goal

pub returns : goal.returns
unfolding flat
returns c =
    let found = c.in_ok-file.ensures in
    (found.0, c.in_ok-into_bytes.ensures ∙ ap spell found.1)
