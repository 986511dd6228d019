use Rattle.std.proofs.Common.{sym, ◌∙◌}
use Rattle.call_log.specs.Values.{entry_value}
use Rattle.replay_check.specs.Ranges.{own_memory}
use Rattle.replay_check.proofs.Answering.{unplaced, unbrought, unlaid, may_be, is_mapped}
use Rattle.replay_check.proofs.memory.LoneMemory.map_new.Goals as goal
use Rattle.replay_check.proofs.memory.LoneMemory.map_new.Goals.{then-not-brings_all-via-then-not-brings_all, then-not-brings_all-via-else-not-brings_all+then-not-may_lie}

pub returns-in_default : goal.returns-in_default
returns-in_default c =
    let m = own_memory c.args.self.now in
    unplaced m (entry_value c.args.entry.now) c.args.brought.now m c.in_default.ensures

pub returns-then-not-brings_all : goal.returns-then-not-brings_all
returns-then-not-brings_all c =
    let m = own_memory c.args.self.now in
    let e = entry_value c.args.entry.now in
    elim c.then-not-brings_all.branch [
      | then-not-brings_all-via-then-not-brings_all w ↦ unbrought m e c.args.brought.now m c.in-Some.range c.in-Some.ensures.0 (sym c.brings_all.ensures ∙ w.if-not-brings_all.true)
      | then-not-brings_all-via-else-not-brings_all+then-not-may_lie w ↦ unlaid m e c.args.brought.now m c.in-Some.range c.in-Some.ensures.0 (sym w.may_lie.ensures ∙ w.if-not-may_lie.true)
    ]

pub map-requires-clause-may : goal.map-requires-clause-may
map-requires-clause-may c =
    let m = own_memory c.args.self.now in
    may_be m (entry_value c.args.entry.now) c.args.brought.now m c.in-Some.range c.in-Some.ensures.0 c.in-Some.ensures.1 (sym c.brings_all.ensures ∙ c.if-not-brings_all.false) (sym c.may_lie.ensures ∙ c.if-not-may_lie.false)

pub returns : goal.returns
returns c =
    let m = own_memory c.args.self.now in
    let e = entry_value c.args.entry.now in
    let now = own_memory c.map.new.self in
    let may = may_be m e c.args.brought.now m c.in-Some.range c.in-Some.ensures.0 c.in-Some.ensures.1 (sym c.brings_all.ensures ∙ c.if-not-brings_all.false) (sym c.may_lie.ensures ∙ c.if-not-may_lie.false) in
    is_mapped m e c.args.brought.now now c.in-Some.range c.in-Some.ensures.0 may c.in_ok-map.ensures
