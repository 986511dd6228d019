-- No byte so far is a slash.
use Rattle.std.proofs.Common.{◌≢◌, ℕ, ◌<◌, slice_index}
use Rattle.mem_files.specs.Paths.{slash}
use Rattle.mem_files.proofs.paths.name_len.Given as goal

abbrev pub invariant-loop-i : goal.invariant-loop-i
invariant-loop-i l = (k : ℕ) → k < l.i → slice_index l.path k ≢ slash
