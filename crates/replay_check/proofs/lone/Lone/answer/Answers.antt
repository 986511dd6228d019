use Rattle.std.proofs.Common.{◌≡◌, ◌∙◌, sym, length, arith}
use Rattle.replay_check.specs.Ranges.{own_memory}
use Rattle.replay_check.specs.Solos.{item_of}
use Rattle.replay_check.proofs.Answering.{nobody, untold, space_left, call_refused, call_done, each_ok}
use Rattle.replay_check.proofs.lone.Lone.answer.Goals as goal

pub returns-in_default : goal.returns-in_default
returns-in_default c =
    let v = c.args.self.now.stack in
    let i = item_of c.args.entry.now c.args.brought.now in
    let len : length v.items ≡ 0 = (let none = c.in_default.ensures.cases.0 in let ok = v.ok.0 in omega (arith, none, ok)) in
    nobody v.items (own_memory c.args.self.now.memory) i _ len

pub returns-then-not-branch : goal.returns-then-not-branch
returns-then-not-branch c =
    let m = own_memory c.args.self.now.memory in
    let i = item_of c.args.entry.now c.args.brought.now in
    untold c.args.self.now.stack.items c.pop.new.self.items c.in-Some.top m i c.in-Some.ensures.items (own_memory c.told.new.self) _ (rw c.if-not-branch.true at c.in_ok-told.ensures.gives)

pub returns-then-leaves_space : goal.returns-then-leaves_space
returns-then-leaves_space c =
    let m = own_memory c.args.self.now.memory in
    let i = item_of c.args.entry.now c.args.brought.now in
    space_left c.args.self.now.stack.items c.pop.new.self.items c.in-Some.top m i c.in-Some.ensures.items (own_memory c.told.new.self) (rw c.if-not-branch.false at c.in_ok-told.ensures.gives)
    (sym c.leaves_space.ensures ∙ c.if-leaves_space.true)

pub returns-then-is_errno : goal.returns-then-is_errno
returns-then-is_errno c =
    let m = own_memory c.args.self.now.memory in
    let i = item_of c.args.entry.now c.args.brought.now in
    call_refused c.args.self.now.stack.items c.pop.new.self.items c.in-Some.top m i c.in-Some.ensures.items (own_memory c.told.new.self) (rw c.if-not-branch.false at c.in_ok-told.ensures.gives)
    (sym c.leaves_space.ensures ∙ c.if-leaves_space.false) c.push.new.self.items c.replied.result c.replied.ensures c.in_ok-push.ensures.items (sym c.is_errno.ensures ∙ c.if-is_errno.true)

pub returns : goal.returns
returns c =
    let m = own_memory c.args.self.now.memory in
    let i = item_of c.args.entry.now c.args.brought.now in
    each_ok c.take_effect.result _ _
    (λ right leaves. call_done c.args.self.now.stack.items c.pop.new.self.items c.in-Some.top m i c.in-Some.ensures.items (own_memory c.told.new.self) (rw c.if-not-branch.false at c.in_ok-told.ensures.gives)
    (sym c.leaves_space.ensures ∙ c.if-leaves_space.false) c.push.new.self.items c.replied.result c.replied.ensures c.in_ok-push.ensures.items (sym c.is_errno.ensures ∙ c.if-is_errno.false) right _ leaves)
    c.take_effect.ensures
