-- The verdict on the items of a replay, and why there is none.
use Rattle.std.specs.Prelude.{ℕ, List, [], ◌∷◌, ◌++◌, codes, decimal}
use Rattle.replay_check.specs.declared.fault.ReplayFault.{ReplayFault}
use Rattle.replay_check.specs.declared.fault.ReplayFault.TheVariants as fault
use Rattle.file_commands.specs.Texts.{joined, refusal_tail}

-- the items are a run of the program by itself: how many calls and events it has
abbrev pub yes_line : (items events : ℕ) → List ℕ
yes_line items events = joined (codes "replay yes items " ∷ decimal items ∷ codes " events " ∷ decimal events ∷ codes "\n" ∷ [])

-- they aren't: the item at which it is seen, from 1, and the events before
abbrev pub no_line : (item events : ℕ) → List ℕ
no_line item events = joined (codes "replay no item " ∷ decimal item ∷ codes " after " ∷ decimal events ∷ codes " events\n" ∷ [])

-- the first line of the items' text that isn't as it has to be
abbrev pub items_tail : (line : ℕ) → List ℕ
items_tail line = codes "items line " ++ decimal line

-- why nothing is replayed; out of memory is none
abbrev pub replay_tail : ReplayFault → List ℕ
replay_tail (fault.Original refusal) = refusal_tail refusal
replay_tail fault.Stack = codes "stack"
replay_tail fault.Args = codes "args"
replay_tail fault.Base = codes "base"
replay_tail fault.Memory = []
