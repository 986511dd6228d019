-- The strings that the code gives, as plain lists.
use Rattle.std.specs.Prelude.{Option, Some, None}
use Rattle.call_log.specs.Strings.{Strings, ProgramStrings}
use Rattle.flat_loader.specs.Frame.{texts}
use Rattle.call_bytes.specs.declared.string_lists.StringList.{StringList}
use Rattle.call_bytes.specs.declared.string_lists.ProgramStrings.{ProgramStrings as StoredProgram}

-- of a list, with what was read behind it
abbrev pub list_value : Option StringList → Option Strings
list_value None = None
list_value (Some list) = Some (record { strings = texts list.strings.items; behind = list.behind.now })

-- of a program
abbrev pub program_value : Option StoredProgram → Option ProgramStrings
program_value None = None
program_value (Some program) = Some (record { args = texts program.args.items; env = texts program.env.items })
