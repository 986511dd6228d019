-- A read of at most one byte past a limit, that gave no more than the limit, gave all that was left.
use Rattle.std.proofs.Common.{◌≡◌, ℕ, ◌+◌, ◌≤◌, List, [], ◌++◌, length, take, Option, None, Some, IfSome, option_map, ap, ◌∙◌, arith}
use Rattle.std.proofs.lemmas.List.{length-take, take_all}
use Rattle.std.proofs.lemmas.Bool.{le-ltb}
use Rattle.host_io.specs.Host.{loads}
use Rattle.host_io.specs.declared.host.Loaded.TheVariants.{All}

short-left : (limit : ℕ) (bytes left : List ℕ) → bytes ≡ take (limit + 1) left → length bytes ≤ limit → length left ≤ limit
short-left limit bytes left is fits = let lengths = ap length is ∙ length-take (limit + 1) left in omega (arith, lengths, fits)

pub all-left : (known : Option (List ℕ)) (before bytes : List ℕ) (limit most : ℕ) → before ≡ [] → most ≡ limit + 1 → length bytes ≤ limit
    → IfSome (option_map (take most) known) (λ xs. bytes ≡ before ++ xs) → IfSome known (λ left. (All, bytes) ≡ loads left limit)
all-left None before bytes limit most empty bound fits gives = tt
all-left (Some left) before bytes limit most empty bound fits gives =
    let given : bytes ≡ take (limit + 1) left = (rw (empty, bound) at gives) in
    let short = short-left limit bytes left given fits in
    rw (le-ltb limit (length left) short)
    (ap (λ xs. (All, xs)) (given ∙ take_all (limit + 1) left (omega (arith, short))))
