use Rattle.std.proofs.Common.{◌≡◌, ◌+◌, ◌-◌, ◌^◌, ◌<◌, ◌/◌, length, length-set, refl, arith}
use Rattle.mmap_rules.specs.declared.page_owner.PageOwner.{PageOwner}
use Rattle.mmap_rules.specs.Owners.{entered}
use Rattle.mmap_rules.proofs.Tables.{entered_missed, each_none, each_more, each_all}
use Rattle.mmap_rules.proofs.owners.add_range.Goals as goal

pub loop-page-init : goal.loop-page-init
loop-page-init c = record { len = refl; each = λ p. rw c.from-from.ensures (each_none entered entered_missed c.args.range.now c.args.entries.now p) }

pub loop-page-preserved : goal.loop-page-preserved
loop-page-preserved c =
    let within : c.loop-page.page < length c.loop-page.entries = omega (arith, c.loop-page.invariant.len) in
    record {
      len = omega (arith, length-set {A = PageOwner}, c.loop-page.invariant.len);
      each = λ p. rw c.entered.ensures (each_more entered c.args.range.now c.args.entries.now c.loop-page.entries c.loop-page.page _ within c.loop-page.invariant.each p);
    }

pub returns-clause-each : goal.returns-clause-each
returns-clause-each c =
    let from = c.from-from.ensures in
    let size = c.from.ensures in
    let done = c.loop-page-test.false in
    let most = c.loop-page.auto.page-end in
    let r = c.args.range.now in
    let at_end : c.loop-page.page ≡ (r.from - 2 ^ 31 + r.size) / 4096 = omega arith in
    each_all entered entered_missed (length c.args.entries.now) r c.args.entries.now c.loop-page.entries c.requires.shaped (rw at_end at c.loop-page.invariant.each)
