-- An empty range, one that begins below memory, and another one.
use Rattle.std.proofs.Common.{arith}
use Rattle.region_watch.proofs.Accesses.{none_in_pages, below_pages, above_pages}
use Rattle.region_watch.proofs.watch.in_memory.Goals as goal

pub returns-then-len-eq0 : goal.returns-then-len-eq0
returns-then-len-eq0 c = λ pages paged. rw c.if-len-eq0.true (none_in_pages pages c.args.addr (omega arith))

pub returns-then-addr-ge-BASE : goal.returns-then-addr-ge-BASE
returns-then-addr-ge-BASE c = λ pages paged.
    above_pages pages c.args.addr c.args.len _ _ (omega arith) (omega arith) (omega arith) (omega arith) (omega arith)

pub returns-else-addr-ge-BASE : goal.returns-else-addr-ge-BASE
returns-else-addr-ge-BASE c = λ pages paged. below_pages pages c.args.addr c.args.len (omega arith) (omega arith)
