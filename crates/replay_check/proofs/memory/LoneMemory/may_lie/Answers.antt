use Rattle.std.proofs.Common.{sym, ◌∙◌}
use Rattle.std.proofs.lemmas.Bool.{false≢true}
use Rattle.replay_check.proofs.NewRanges.{next_free, next_agrees, differs, is_own_page, all_lies}
use Rattle.replay_check.proofs.memory.LoneMemory.may_lie.Goals as goal
use Rattle.replay_check.proofs.memory.LoneMemory.may_lie.Goals.{then-range, else-range, else-has_own-via-then-has_own+else-not-agrees, else-has_own-via-else-has_own}

pub returns-then-not-agrees : goal.returns-then-not-agrees
returns-then-not-agrees c =
    elim c.if-range.branch [
      | then-range w ↦ is_own_page c.args.self.now c.args.range.now c.args.brought.now c.loop-page.page c.requires.writes c.requires.brings c.loop-page-test.true c.loop-page.invariant w.if-range.true
          (sym c.has_own.ensures.last ∙ c.if-has_own.true)
      | else-range w ↦ differs c.args.self.now c.args.range.now c.args.brought.now c.loop-page.page c.requires.writes c.requires.brings c.loop-page-test.true c.loop-page.invariant _ _ w.if-range.false
          w.agrees.ensures w.value-is c.if-not-agrees.true
    ]

pub loop-page-preserved : goal.loop-page-preserved
loop-page-preserved c =
    elim c.else-has_own.branch [
      | else-has_own-via-then-has_own+else-not-agrees w ↦ elim w.if-range.branch [
        | then-range v ↦ absurd (false≢true (sym w.if-not-agrees.false ∙ v.value-is ∙ v.if-range.true))
        | else-range v ↦ next_agrees c.args.self.now c.args.range.now c.args.brought.now c.loop-page.page c.requires.writes c.requires.brings c.loop-page-test.true c.loop-page.invariant _ _ v.if-range.false
            v.agrees.ensures v.value-is w.if-not-agrees.false
      ]
      | else-has_own-via-else-has_own w ↦ next_free c.args.self.now c.args.range.now c.args.brought.now c.loop-page.page c.requires.writes c.requires.brings c.loop-page-test.true c.loop-page.invariant
          (c.has_own.ensures.free w.if-has_own.false)
    ]

pub returns : goal.returns
returns c = all_lies c.args.self.now c.args.range.now c.args.brought.now c.loop-page.page c.requires.brings c.requires.whole c.loop-page-test.false c.loop-page.invariant
