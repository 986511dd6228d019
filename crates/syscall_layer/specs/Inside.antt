-- The fields of `Parts` as the parts of a run.
use Rattle.syscall_layer.specs.declared.parts.Parts.TheInside.{Inside}
use Rattle.syscall_layer.specs.Parts.{RunParts}

abbrev pub parts_of : Inside → RunParts
parts_of p = record { kept = p.kept; programs = p.programs.items; mode = p.mode; noted = p.noted }
