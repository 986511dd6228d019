-- The watch points of the two kinds of hit. What a closure may be called on and what it gives is known only by the bound of the code that
-- has it, so this fact takes both, of each.
use Rattle.std.specs.Prelude.{◌≡◌, ℕ, Bool, List}
use Rattle.std.specs.Borrow.{Bor}
use Rattle.watch_points.specs.declared.point.PointKind.TheVariants.{Touch, Within}
use Rattle.watch_points.specs.declared.span.Span.{Span}
use Rattle.watch_points.specs.Points.{IsPoint, kind_of_point}
use Rattle.suite_top.specs.declared.points.Points.{Points}

-- what a closure may be called on, and what it gives
abbrev pub Can : Type 0 → Type 1
Can F = F → Bor (List Span) → ℕ → ℕ → Type 0

abbrev pub Gives : Type 0 → Type 1
Gives F = F → Bor (List Span) → ℕ → ℕ → Bool → Type 0

-- each is a watch point of its kind
pub record ArePoints {P Q : Type 0} (can_p : Can P) (gives_p : Gives P) (can_q : Can Q) (gives_q : Gives Q) (p : Points P Q) : Type 0 where
  pub touch : IsPoint can_p gives_p p.touch
  pub touch_kind : kind_of_point p.touch ≡ Touch
  pub within : IsPoint can_q gives_q p.within
  pub within_kind : kind_of_point p.within ≡ Within
