-- The row of each number.
use Rattle.std.proofs.Common.{◌≢◌, sym, ◌∙◌, arith}
use Rattle.syscall_layer.proofs.CallRows.{row_ioctl, row_pid, row_yield, row_parent, row_brk, row_other}
use Rattle.syscall_layer.proofs.effects.effect_of.Goals as goal

pub returns-in-29 : goal.returns-in-29
returns-in-29 c = λ a made files. row_ioctl c.args.call.now a made c.ioctl_reply.result c.in-29.is (λ b table fd open_now. c.ioctl_reply.ensures b table fd (open_now ∙ files))

pub returns-in-124 : goal.returns-in-124
returns-in-124 c = λ a made files. row_yield c.args.call.now a made c.in-124.is

pub returns-in-173 : goal.returns-in-173
returns-in-173 c = λ a made files. row_parent c.args.call.now a made c.in-173.is

pub returns-in-214 : goal.returns-in-214
returns-in-214 c = λ a made files. row_brk c.args.call.now a made c.in-214.is

pub returns-in_default : goal.returns-in_default
returns-in_default c = λ a made files.
    let n = c.args.call.now.number in
    let n29 : n ≢ 29 = omega arith in
    row_pid c.args.call.now a made c.requires.change c.requires.output c.requires.mapping n29 (sym c.asks_pid.ensures ∙ c.if-asks_pid.true)

pub returns-in_default-2 : goal.returns-in_default-2
returns-in_default-2 c = λ a made files.
    let n = c.args.call.now.number in
    let n29 : n ≢ 29 = omega arith in
    let n124 : n ≢ 124 = omega arith in
    let n173 : n ≢ 173 = omega arith in
    let n214 : n ≢ 214 = omega arith in
    row_other c.args.call.now a made c.requires.change c.requires.output c.requires.mapping c.refusal.result n29 (sym c.asks_pid.ensures ∙ c.if-asks_pid.false) n124 n173 n214 c.refusal.ensures
