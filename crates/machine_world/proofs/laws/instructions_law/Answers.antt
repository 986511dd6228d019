-- The law, at what is left as a whole.
use Rattle.std.proofs.Common.{sym, subst}
use Rattle.region_watch.specs.Instructions.{Ran}
use Rattle.machine_world.proofs.Steps.{RanOn, run_on}
use Rattle.machine_world.proofs.laws.instructions_law.Goals as goal

pub returns : goal.returns
returns c n pid w p s r lives has is =
    let P : Ran → Type 0 = λ ran. RanOn pid w p s n ran in
    subst P (sym is) (run_on pid n w p s lives has)
