use Rattle.std.proofs.Common.{◌≡◌, ◌++◌, List, [], ◌∷◌, arith, ap, ◌∙◌}
use Rattle.page_runs.specs.declared.run.Run.{Run}
use Rattle.page_runs.proofs.Maximal.{is_free_list}
use Rattle.page_runs.proofs.runs.Runs.new.Goals as goal

pub invariant_of-result : goal.invariant_of-result
invariant_of-result c =
    let free = is_free_list c.args.pages (record { first = 0; count = c.args.pages } ∷ []) (omega arith, (omega arith, omega arith)) in
    let items : c.push.new.self.items ≡ record { first = 0; count = c.args.pages } ∷ [] = c.in_ok-push.ensures.items ∙ ap (λ (rs : List Run). rs ++ record { first = 0; count = c.args.pages } ∷ []) c.in_ok-runs.ensures.items in
    rw items (free, (omega arith, omega (arith, c.in_ok-push.ensures.capacity, c.in_ok-runs.ensures.capacity)))
