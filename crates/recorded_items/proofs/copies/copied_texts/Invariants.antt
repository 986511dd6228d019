-- The strings so far.
use Rattle.std.proofs.Common.{◌≡◌, take}
use Rattle.call_log.specs.Programs.{paths_of as texts_of}
use Rattle.recorded_items.proofs.copies.copied_texts.Given as goal

abbrev pub invariant-loop-text : goal.invariant-loop-text
invariant-loop-text l = texts_of l.copies.items ≡ texts_of (take l.text-index l.texts)
