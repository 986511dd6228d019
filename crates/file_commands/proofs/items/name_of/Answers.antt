-- ASCII is UTF-8.
use Rattle.std.proofs.lemmas.Str.{IsUtf8-from_ascii}
use Rattle.file_commands.proofs.items.name_of.Goals as goal

pub unreachable-requires : goal.unreachable-requires
unreachable-requires c = c.in-Err.ensures.cases.0 (rw c.deref.ensures.value (IsUtf8-from_ascii _ c.requires))
