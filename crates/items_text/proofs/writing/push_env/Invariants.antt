-- The lines so far.
use Rattle.std.proofs.Common.{◌≡◌, ◌++◌, take}
use Rattle.std.specs.List.{flat_map}
use Rattle.call_log.specs.Programs.{paths_of as texts_of}
use Rattle.items_text.specs.Lines.{env_line}
use Rattle.items_text.proofs.writing.push_env.Given as goal

abbrev pub invariant-loop-string : goal.invariant-loop-string
invariant-loop-string l = l.text.items ≡ l.fn.text.items ++ flat_map env_line (texts_of (take l.string-index l.env))
