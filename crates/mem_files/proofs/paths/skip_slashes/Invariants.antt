-- The slashes so far are no part of a name.
use Rattle.std.proofs.Common.{◌≡◌, drop}
use Rattle.mem_files.specs.Paths.{names}
use Rattle.mem_files.proofs.paths.skip_slashes.Given as goal

abbrev pub invariant-loop-i : goal.invariant-loop-i
invariant-loop-i l = names (drop l.i l.path) ≡ names l.path
