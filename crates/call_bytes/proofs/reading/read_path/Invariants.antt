-- What was read and what is left give the whole.
use Rattle.region_watch.specs.Private.{own_bytes}
use Rattle.call_bytes.proofs.ReadPath.{PathSoFar}
use Rattle.call_bytes.proofs.reading.read_path.Given as goal

abbrev pub invariant-loop-i : goal.invariant-loop-i
invariant-loop-i l = PathSoFar 4096 (own_bytes l.owners l.mem) l.at l.i l.path.items
