use Rattle.page_runs.proofs.Maximal.{free_runs-spaced, has_page-free_runs, is_free_runs}
use Rattle.page_runs.proofs.laws.free_runs_law.Goals as goal

pub returns : goal.returns
returns c = record { maximal = free_runs-spaced; pages = has_page-free_runs; only = is_free_runs }
