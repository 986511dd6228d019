use Rattle.std.proofs.Common.{sym, ap, ◌∙◌, not}
use Rattle.replay_check.proofs.NewRanges.{free_lies, written_lies_not, read_lies}
use Rattle.replay_check.proofs.memory.LoneMemory.byte_lies.Goals as goal

pub returns-then-not-own : goal.returns-then-not-own
returns-then-not-own c =
    let s = c.self.inside in
    rw (← c.self.view_is) (free_lies s.ranges.items s.owners s.mem c.self.invariant c.args.at c.args.byte c.requires.above c.requires.inside (sym c.own.ensures ∙ c.if-not-own.true))

pub returns-then-not-own-2 : goal.returns-then-not-own-2
returns-then-not-own-2 c =
    let s = c.self.inside in
    rw (← c.self.view_is) (read_lies s.ranges.items s.owners s.mem c.self.invariant c.args.at c.args.byte c.requires.above c.requires.inside (sym c.own.ensures ∙ c.if-not-own.false) (sym c.own-2.ensures ∙ c.if-not-own-2.true)
    c.get8.result c.get8.ensures)

pub returns-else-not-own-2 : goal.returns-else-not-own-2
returns-else-not-own-2 c =
    let s = c.self.inside in
    ap not c.if-not-own-2.false
    ∙ rw (← c.self.view_is) (written_lies_not s.ranges.items s.owners s.mem c.self.invariant c.args.at c.args.byte c.requires.above c.requires.inside (sym c.own.ensures ∙ c.if-not-own.false) (sym c.own-2.ensures ∙ c.if-not-own-2.false))
