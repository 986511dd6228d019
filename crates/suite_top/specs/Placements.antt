-- The choosers of the three placements. What a closure may be called on and what it gives is known only by the bound of the code that has
-- it, so this fact takes both, of each.
use Rattle.std.specs.Prelude.{◌≡◌, ℕ, List, Option}
use Rattle.std.specs.Borrow.{Bor}
use Rattle.page_runs.specs.declared.place.Kind.TheVariants.{First, Best, Last}
use Rattle.page_runs.specs.declared.run.Run.{Run}
use Rattle.page_runs.specs.Choosers.{IsChooser, kind_of}
use Rattle.suite_top.specs.declared.placements.Placements.{Placements}

-- what a closure may be called on, and what it gives
abbrev pub Can : Type 0 → Type 1
Can F = F → Bor (List Run) → ℕ → Type 0

abbrev pub Gives : Type 0 → Type 1
Gives F = F → Bor (List Run) → ℕ → Option ℕ → Type 0

-- each is a chooser of its kind
pub record ArePlacements {A B C : Type 0} (can_a : Can A) (gives_a : Gives A) (can_b : Can B) (gives_b : Gives B) (can_c : Can C) (gives_c : Gives C) (p : Placements A B C) : Type 0 where
  pub first : IsChooser can_a gives_a p.first
  pub first_kind : kind_of p.first ≡ First
  pub best : IsChooser can_b gives_b p.best
  pub best_kind : kind_of p.best ≡ Best
  pub last : IsChooser can_c gives_c p.last
  pub last_kind : kind_of p.last ≡ Last
