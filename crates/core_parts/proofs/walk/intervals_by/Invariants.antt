-- Those of the pages from one on.
use Rattle.std.proofs.Common.{◌≡◌, ◌+◌, ◌-◌, ◌*◌, ◌≤◌, length}
use Rattle.mmap_rules.specs.Held.{page_address}
use Rattle.core_world.specs.Segments.{intervals}
use Rattle.core_parts.specs.Tables.{kind_in}
use Rattle.core_parts.specs.Code.{lowest_first}
use Rattle.core_parts.proofs.walk.intervals_by.Given as goal

abbrev pub invariant-loop-page : goal.invariant-loop-page
invariant-loop-page g l =
    (l.page ≤ l.pages)
    × (lowest_first l.found.items ≡ intervals (kind_in l.owners) (page_address l.page) (4096 * (l.pages - l.page)))
    × (length l.found.items + l.page ≤ l.pages)

abbrev pub decreases-loop-page : goal.decreases-loop-page
decreases-loop-page g l = l.page
