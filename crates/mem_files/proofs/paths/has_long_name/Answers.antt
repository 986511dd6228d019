-- One name more.
use Rattle.std.proofs.Common.{◌≡◌, ◌∷◌, ℕ, Bool, true, false, List, length, nat_lt, ap, sym, ◌∙◌, arith}
use Rattle.std.specs.Prelude.{◌||◌}
use Rattle.std.specs.List.{list_any}
use Rattle.std.proofs.lemmas.Bool.Decides.{nat_tests}
use Rattle.mem_files.specs.Paths.{names, longest_name}
use Rattle.mem_files.proofs.paths.has_long_name.Goals as goal

abbrev any_long : List (List ℕ) → Bool
any_long = list_any (λ name. nat_lt longest_name (length name))

one_more : (name : List ℕ) (more : List (List ℕ)) (long : Bool) → nat_lt longest_name (length name) ≡ long → any_long (name ∷ more) ≡ (long || any_long more)
one_more name more long is = ap (λ (b : Bool). b || any_long more) is

pub returns-then-name-gt-LONGEST_NAME : goal.returns-then-name-gt-LONGEST_NAME
returns-then-name-gt-LONGEST_NAME c =
    let is : nat_lt longest_name (length c.in-Some.name.now) ≡ true = grind (arith, nat_tests) in
    sym (sym c.loop-name.invariant ∙ ap any_long c.in-Some.ensures.0 ∙ one_more c.in-Some.name.now (names c.in-Some.more.now) true is)

pub loop-name-preserved : goal.loop-name-preserved
loop-name-preserved c =
    let is : nat_lt longest_name (length c.in-Some.name.now) ≡ false = grind (arith, nat_tests) in
    sym (sym c.loop-name.invariant ∙ ap any_long c.in-Some.ensures.0 ∙ one_more c.in-Some.name.now (names c.in-Some.more.now) false is)

pub returns : goal.returns
returns c = sym (sym c.loop-name.invariant ∙ ap any_long c.in_default.ensures)
