-- An access inside a window is own, and passes.
use Rattle.std.proofs.Common.{◌+◌, ◌-◌, ◌%◌, ◌^◌, ◌<◌, sym, arith}
use Rattle.region_watch.proofs.Accesses.{in_window, range_passes}
use Rattle.region_watch.proofs.Notes.{stray_after_own}
use Rattle.region_watch.proofs.watch.Watch.allows.Goals as goal

pub returns-then-access-self-clause-answer : goal.returns-then-access-self-clause-answer
returns-then-access-self-clause-answer c =
    let some : 0 < c.args.self.now.reach = omega (arith, c.if-access-self.true) in
    sym (range_passes _ _ _ _ _ (in_window _ _ c.args.self.now.from c.args.self.now.reach _ _ (c.args.self.now.window some) (omega arith) (omega arith) c.if-access-self.true c.requires))

pub returns-then-access-self-clause-first : goal.returns-then-access-self-clause-first
returns-then-access-self-clause-first c =
    let some : 0 < c.args.self.now.reach = omega (arith, c.if-access-self.true) in
    stray_after_own _ _ _ (in_window _ _ c.args.self.now.from c.args.self.now.reach _ _ (c.args.self.now.window some) (omega arith) (omega arith) c.if-access-self.true c.requires)

pub returns-then-access-self-3-clause-answer : goal.returns-then-access-self-3-clause-answer
returns-then-access-self-3-clause-answer c =
    let some : 0 < c.args.self.now.second_reach = omega (arith, c.if-access-self-3.true) in
    let inside : (c.args.access.addr + (2 ^ 32 - c.args.self.now.second_from)) % 2 ^ 32 < c.args.self.now.second_reach = omega (arith, c.if-access-self-2.true, c.if-access-self-3.true) in
    sym (range_passes _ _ _ _ _ (in_window _ _ c.args.self.now.second_from c.args.self.now.second_reach _ _ (c.args.self.now.second some) (omega arith) (omega arith) inside c.requires))

pub returns-then-access-self-3-clause-first : goal.returns-then-access-self-3-clause-first
returns-then-access-self-3-clause-first c =
    let some : 0 < c.args.self.now.second_reach = omega (arith, c.if-access-self-3.true) in
    let inside : (c.args.access.addr + (2 ^ 32 - c.args.self.now.second_from)) % 2 ^ 32 < c.args.self.now.second_reach = omega (arith, c.if-access-self-2.true, c.if-access-self-3.true) in
    stray_after_own _ _ _ (in_window _ _ c.args.self.now.second_from c.args.self.now.second_reach _ _ (c.args.self.now.second some) (omega arith) (omega arith) inside c.requires)
