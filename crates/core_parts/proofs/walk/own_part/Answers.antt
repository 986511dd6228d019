-- By the bytes of the page.
use Rattle.std.proofs.Common.{inl, inr, arith}
use Rattle.core_parts.proofs.Pages.{page_free, page_own}
use Rattle.core_parts.proofs.walk.own_part.Goals.{then-entry-eq0-via-then-entry-eq0, then-entry-eq0-via-else-entry-eq0+then-entry-ge-PAGE}
use Rattle.core_parts.proofs.walk.own_part.Goals as goal

pub returns-then-entry-eq0-clause-part : goal.returns-then-entry-eq0-clause-part
returns-then-entry-eq0-clause-part c table there =
    elim c.then-entry-eq0.branch [
      | then-entry-eq0-via-then-entry-eq0 w ↦ page_free table c.args.page c.args.entry there (inl (omega arith))
      | then-entry-eq0-via-else-entry-eq0+then-entry-ge-PAGE w ↦ page_free table c.args.page c.args.entry there (inr (omega arith))
    ]

pub returns-clause-part : goal.returns-clause-part
returns-clause-part c table there = page_own table c.args.page c.args.entry there (omega arith) (omega arith)
