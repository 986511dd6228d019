-- What the parts of the loop leave.
use Rattle.std.specs.Prelude.{◌≡◌, ℕ, ◌+◌, ◌<◌, ◌≤◌, List, length, drop, map}
use Rattle.items_text.specs.Items.{ItemValue}
use Rattle.flat_loader.specs.Alone.{Solo, Item}
use Rattle.replay_check.specs.declared.step.Step.{Step}
use Rattle.replay_check.specs.declared.step.Step.TheVariants.{Goes, Refuted}
use Rattle.replay_check.specs.declared.verdict.Verdict.TheVariants.{No}
use Rattle.replay_check.specs.Verdicts.{verdict_from}

-- the items of a space, as a program by itself takes them
abbrev pub items_alone : List ItemValue → List Item
items_alone items = map (λ i. record { entry = i.entry; brought = i.brought }) items

-- whatever is left behind these events, the verdict is that of the rest
abbrev pub Advances : List Item → (used count : ℕ) → (old new : Solo) → Step → Type 0
Advances items used count old new (Goes done now) =
    (0 < done) × (done ≤ count) × (now ≤ length items)
    × ((left before : ℕ) → verdict_from (done + left) used before old (drop used items) ≡ verdict_from left now (before + done) new (drop now items))
Advances items used count old new (Refuted done) =
    (done < count) × ((left before : ℕ) → verdict_from (count + left) used before old (drop used items) ≡ No (used + 1) (before + done))
