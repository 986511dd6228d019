use Rattle.std.proofs.Common.{◌-◌, ◌^◌, ◌<◌, length, ap, ◌∙◌, arith}
use Rattle.byte_words.specs.Patches.{laid}
use Rattle.flat_loader.specs.Alone.{new_bytes}
use Rattle.replay_check.specs.Ranges.{LoneBytes}
use Rattle.replay_check.proofs.NewRanges.{maps, shaped, lone_more, fits, len_more, range_more, all_bytes, few_uses, zeros_are, brought_are}
use Rattle.replay_check.proofs.memory.LoneMemory.map.Goals as goal

pub add-requires-clause-shaped : goal.add-requires-clause-shaped
add-requires-clause-shaped c =
    let s = c.self.inside in
    let b : LoneBytes = record { ranges = s.ranges.items; mem = s.mem } in
    let m = maps b c.args.range c.args.brought.now (rw (← c.self.view_is) at c.requires.may) in
    shaped s.ranges.items s.owners s.mem c.self.invariant c.args.range c.args.brought.now m c.requires.whole (length s.owners) c.self.invariant.tabled.pages

pub add-requires-clause-uses : goal.add-requires-clause-uses
add-requires-clause-uses c =
    let s = c.self.inside in
    let less : length s.ranges.items < 2 ^ 32 - 1 = (let test = c.if-len.false in let len = c.len.ensures in let ok = s.ranges.ok.0 in omega (arith, test, len, ok)) in
    few_uses s.owners s.ranges.items c.self.invariant.tabled.named less

pub clear-requires : goal.clear-requires
clear-requires c =
    let s = c.self.inside in
    let b : LoneBytes = record { ranges = s.ranges.items; mem = s.mem } in
    let m = maps b c.args.range c.args.brought.now (rw (← c.self.view_is) at c.requires.may) in
    let f = fits s.ranges.items s.owners s.mem c.self.invariant c.args.range c.args.brought.now m c.requires.whole in
    let len = all_bytes c.args.range c.args.brought.now m.brings in
    (f.0, omega (arith, f.1, len))

pub invariant_of-self-then-range : goal.invariant_of-self-then-range
invariant_of-self-then-range c =
    let s = c.self.inside in
    let b : LoneBytes = record { ranges = s.ranges.items; mem = s.mem } in
    let m = maps b c.args.range c.args.brought.now (rw (← c.self.view_is) at c.requires.may) in
    let laid_is = c.clear.ensures ∙ ap (laid s.mem (c.args.range.from - 2 ^ 31)) (zeros_are c.args.range c.args.brought.now c.if-range.true) in
    lone_more s.ranges.items s.owners s.mem c.self.invariant c.args.range c.args.brought.now m c.requires.whole c.add.new.self c.clear.new.self c.push.new.self.items c.in_ok-push.ensures.items c.add.ensures.len c.add.ensures.each
    (ap length laid_is ∙ len_more s.ranges.items s.owners s.mem c.self.invariant c.args.range c.args.brought.now m c.requires.whole)

pub copy_in-requires : goal.copy_in-requires
copy_in-requires c =
    let s = c.self.inside in
    let b : LoneBytes = record { ranges = s.ranges.items; mem = s.mem } in
    let m = maps b c.args.range c.args.brought.now (rw (← c.self.view_is) at c.requires.may) in
    let f = fits s.ranges.items s.owners s.mem c.self.invariant c.args.range c.args.brought.now m c.requires.whole in
    let len = ap length (brought_are c.args.range c.args.brought.now c.if-range.false) in
    (f.0, omega (arith, f.1, len))

pub invariant_of-self-else-range : goal.invariant_of-self-else-range
invariant_of-self-else-range c =
    let s = c.self.inside in
    let b : LoneBytes = record { ranges = s.ranges.items; mem = s.mem } in
    let m = maps b c.args.range c.args.brought.now (rw (← c.self.view_is) at c.requires.may) in
    let laid_is = c.copy_in.ensures ∙ ap (laid s.mem (c.args.range.from - 2 ^ 31)) (brought_are c.args.range c.args.brought.now c.if-range.false) in
    lone_more s.ranges.items s.owners s.mem c.self.invariant c.args.range c.args.brought.now m c.requires.whole c.add.new.self c.copy_in.new.self c.push.new.self.items c.in_ok-push.ensures.items c.add.ensures.len c.add.ensures.each
    (ap length laid_is ∙ len_more s.ranges.items s.owners s.mem c.self.invariant c.args.range c.args.brought.now m c.requires.whole)

pub returns-then-range : goal.returns-then-range
returns-then-range c =
    let s = c.self.inside in
    let b : LoneBytes = record { ranges = s.ranges.items; mem = s.mem } in
    let m = maps b c.args.range c.args.brought.now (rw (← c.self.view_is) at c.requires.may) in
    let f = fits s.ranges.items s.owners s.mem c.self.invariant c.args.range c.args.brought.now m c.requires.whole in
    let laid_is = c.clear.ensures ∙ ap (laid s.mem (c.args.range.from - 2 ^ 31)) (zeros_are c.args.range c.args.brought.now c.if-range.true) in
    rw (← c.self.view_is) (range_more s.ranges.items s.mem c.args.range (new_bytes c.args.range c.args.brought.now) f.0 f.1 (all_bytes c.args.range c.args.brought.now m.brings) c.push.new.self.items c.clear.new.self c.in_ok-push.ensures.items laid_is)

pub returns-else-range : goal.returns-else-range
returns-else-range c =
    let s = c.self.inside in
    let b : LoneBytes = record { ranges = s.ranges.items; mem = s.mem } in
    let m = maps b c.args.range c.args.brought.now (rw (← c.self.view_is) at c.requires.may) in
    let f = fits s.ranges.items s.owners s.mem c.self.invariant c.args.range c.args.brought.now m c.requires.whole in
    let laid_is = c.copy_in.ensures ∙ ap (laid s.mem (c.args.range.from - 2 ^ 31)) (brought_are c.args.range c.args.brought.now c.if-range.false) in
    rw (← c.self.view_is) (range_more s.ranges.items s.mem c.args.range (new_bytes c.args.range c.args.brought.now) f.0 f.1 (all_bytes c.args.range c.args.brought.now m.brings) c.push.new.self.items c.copy_in.new.self c.in_ok-push.ensures.items laid_is)
