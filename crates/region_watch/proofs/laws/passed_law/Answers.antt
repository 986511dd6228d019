-- The law of all pages, at those of a table.
use Rattle.std.proofs.Common.{length}
use Rattle.region_watch.proofs.Accesses.{all_pages}
use Rattle.region_watch.proofs.laws.passed_law.Goals as goal

pub returns : goal.returns
returns c = λ table mem paged. all_pages (length table) mem paged
