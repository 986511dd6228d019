-- The first name ends at the first slash behind it.
use Rattle.std.proofs.Common.{◌≡◌, ◌<◌, ◌∷◌, [], List, ℕ, length, take, drop, ap, sym, ◌∙◌, arith}
use Rattle.std.proofs.lemmas.Bool.Decides.{nat_tests}
use Rattle.mem_files.specs.Paths.{names}
use Rattle.mem_files.proofs.Naming.{names_none, names_first}
use Rattle.mem_files.proofs.paths.next_name.Goals as goal

empty_from : (xs : List ℕ) → length xs ≡ 0 → xs ≡ []
empty_from [] e = λ _. []
empty_from (x ∷ xs) e = absurd (omega arith)

pub returns-then-is_empty : goal.returns-then-is_empty
returns-then-is_empty c =
    let none : length c.skip_slashes-path.result.now ≡ 0 = grind (arith, nat_tests) in
    sym c.skip_slashes-path.ensures.names ∙ ap names (empty_from c.skip_slashes-path.result.now none) ∙ names_none

pub returns : goal.returns
returns c =
    let path = c.skip_slashes-path.result.now in
    let some : 0 < length path = grind (arith, nat_tests) in
    let first = names_first path c.name_len.result some (c.skip_slashes-path.ensures.first some) c.name_len.ensures.within c.name_len.ensures.before c.name_len.ensures.at in
    let split : c.split_at.result.0.now ∷ names c.split_at.result.1.now ≡ take c.name_len.result path ∷ names (drop c.name_len.result path) = (λ i. c.split_at.ensures.front i ∷ names (c.split_at.ensures.back i)) in
    (sym c.skip_slashes-path.ensures.names ∙ first.0 ∙ sym split, omega (arith, c.split_at.ensures.back_len, c.skip_slashes-path.ensures.len, first.1))
