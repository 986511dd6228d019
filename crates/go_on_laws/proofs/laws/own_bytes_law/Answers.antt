-- By the memory that stands for each world of a run.
use Rattle.go_on_laws.proofs.OwnBytes.{shown_bytes_are_there, runs_have_own_bytes}
use Rattle.go_on_laws.proofs.laws.own_bytes_law.Goals as goal

pub returns-clause-stands : goal.returns-clause-stands
returns-clause-stands c = shown_bytes_are_there

pub returns-clause-runs : goal.returns-clause-runs
returns-clause-runs c = runs_have_own_bytes
