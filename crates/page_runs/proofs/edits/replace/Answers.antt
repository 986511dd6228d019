use Rattle.std.proofs.Common.{◌≡◌, suc, arith}
use Rattle.std.proofs.lemmas.List.{set_split}
use Rattle.page_runs.proofs.edits.replace.Goals as goal

pub returns-in-1-clause-items : goal.returns-in-1-clause-items
returns-in-1-clause-items c =
    let to : c.args.to ≡ suc c.args.from = omega arith in
    rw to (set_split c.args.runs.now.items c.args.from c.args.run (omega arith))
