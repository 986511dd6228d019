use Rattle.std.proofs.Common.{sym, arith}
use Rattle.mmap_rules.proofs.Ranges.{own_none}
use Rattle.mmap_rules.proofs.owners.Owners.own_counted.Goals as goal

pub returns-then-len-eq0-clause-answer : goal.returns-then-len-eq0-clause-answer
returns-then-len-eq0-clause-answer g c = rw c.if-len-eq0.true (sym (own_none c.args.self.now c.args.write c.args.addr (omega arith)))
