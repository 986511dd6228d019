-- The lines so far.
use Rattle.std.proofs.Common.{◌≡◌, ◌++◌, take}
use Rattle.std.specs.List.{flat_map}
use Rattle.call_log.specs.Programs.{paths_of as texts_of}
use Rattle.items_text.specs.Lines.{arg_line}
use Rattle.items_text.proofs.writing.push_args.Given as goal

abbrev pub invariant-loop-arg : goal.invariant-loop-arg
invariant-loop-arg l = l.text.items ≡ l.fn.text.items ++ flat_map arg_line (texts_of (take l.arg-index l.args))
