-- Page by page, from the last one down.
use Rattle.std.proofs.Common.{◌-◌, sym, ap, ◌∙◌, arith, length}
use Rattle.core_parts.specs.declared.interval.Interval as code_interval
use Rattle.core_parts.specs.Code.{lowest_first}
use Rattle.core_parts.proofs.Pages.{none_above, one_more, few_above}
use Rattle.core_parts.proofs.walk.intervals_by.Goals as goal

pub loop-page-init : goal.loop-page-init
loop-page-init g c =
    (omega arith, ap lowest_first c.new-found.ensures.items ∙ sym (none_above c.args.owners.now c.args.pages), omega (arith, ap (length {A = code_interval.Interval}) c.new-found.ensures.items))

pub add_page-requires-clause-fits : goal.add_page-requires-clause-fits
add_page-requires-clause-fits g c =
    omega (arith, c.requires.most, few_above c.args.owners.now c.args.pages c.loop-page.page (lowest_first c.loop-page.found.items) c.loop-page.invariant.1)

pub loop-page-preserved : goal.loop-page-preserved
loop-page-preserved g c =
    let joins = c.in_ok-add_page.ensures.joined c.args.owners.now c.look-entry.ensures.entry in (
      omega (arith, c.loop-page.invariant.0),
      one_more c.args.owners.now c.args.pages c.loop-page.page (c.loop-page.page - 1) (lowest_first c.loop-page.found.items) (lowest_first c.add_page.new.above.items)
          (omega (arith, c.loop-page-test.true)) c.loop-page.invariant.0 c.loop-page.invariant.1 joins,
      omega (arith, c.in_ok-add_page.ensures.count, c.loop-page.invariant.2, c.loop-page-test.true),
    )
