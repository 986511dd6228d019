-- The least and the greatest of f i, over the indices i below n that a test takes.
use Rattle.std.specs.Prelude.{ℕ, zero, suc, Bool, min, max, if◌then◌else◌}

-- `none` where the test takes no index
unfoldable pub least_below : (ℕ → Bool) → (ℕ → ℕ) → ℕ → ℕ → ℕ
least_below takes f none zero = none
least_below takes f none (suc n) = if takes n then min (least_below takes f none n) (f n) else least_below takes f none n

-- 0 where the test takes no index
unfoldable pub greatest_below : (ℕ → Bool) → (ℕ → ℕ) → ℕ → ℕ
greatest_below takes f zero = 0
greatest_below takes f (suc n) = if takes n then max (greatest_below takes f n) (f n) else greatest_below takes f n
