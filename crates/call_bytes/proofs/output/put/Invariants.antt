-- What was written and what is left give the whole.
use Rattle.std.proofs.Common.{◌≡◌, ℕ, ◌*◌, length, map, drop}
use Rattle.call_log.specs.Values.{got_value}
use Rattle.call_bytes.proofs.Puts.{Putting}
use Rattle.call_bytes.proofs.output.put.Given as goal

abbrev pub invariant-loop-range : goal.invariant-loop-range
invariant-loop-range l = (pages : ℕ) → length l.fn.mem ≡ 4096 * pages → Putting pages l.fn.mem l.mem (map got_value l.got) (map got_value (drop l.range-index l.got))
