use Rattle.std.proofs.Common.{◌+◌, false, sym, ◌∙◌, arith}
use Rattle.mmap_rules.specs.Owners.{owns}
use Rattle.replay_check.proofs.OwnBytes.{owned, one_own}
use Rattle.replay_check.proofs.NewRanges.{page_free}
use Rattle.replay_check.proofs.memory.LoneMemory.has_own.Goals as goal

pub returns-clause-last : goal.returns-clause-last
returns-clause-last c =
    let s = c.self.inside in
    let inside = c.requires.inside in
    rw (← c.self.view_is) (c.own.ensures ∙ one_own (owns s.owners false) (c.args.page + 4095) (omega (arith, inside)) ∙ (λ i. owned s.ranges.items s.owners s.mem c.self.invariant i (c.args.page + 4095)))

pub returns-clause-free : goal.returns-clause-free
returns-clause-free c none =
    let s = c.self.inside in
    let inside = c.requires.inside in
    let last = sym (c.own.ensures ∙ one_own (owns s.owners false) (c.args.page + 4095) (omega (arith, inside)) ∙ (λ i. owned s.ranges.items s.owners s.mem c.self.invariant i (c.args.page + 4095))) ∙ none in
    rw (← c.self.view_is) (page_free s.ranges.items s.owners s.mem c.self.invariant c.args.page c.requires.above c.requires.begins last)
