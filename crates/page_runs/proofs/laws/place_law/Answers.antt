use Rattle.page_runs.proofs.Places.{placed, is_place}
use Rattle.page_runs.proofs.laws.place_law.Goals as goal

pub returns : goal.returns
returns c = record { placed = placed; only = is_place }
