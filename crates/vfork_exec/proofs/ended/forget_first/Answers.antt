-- The rest begins with the child, or with none.
use Rattle.std.proofs.Common.{◌<◌, ◌≤◌, [], ◌++◌, true, length, take, sym, ap, ◌∙◌, drop_of_length-le, append-nil, take_all, arith, Vec, Global}
use Rattle.vfork_exec.specs.declared.family.Ended.{Ended}
use Rattle.vfork_exec.specs.Families.{is_child, without_first}
use Rattle.vfork_exec.proofs.Families.{without_first_at, without_first_later}
use Rattle.vfork_exec.proofs.ended.forget_first.Goals as goal

pub returns-then-is_child-clause-items : goal.returns-then-is_child-clause-items
returns-then-is_child-clause-items c =
    let items = c.loop-at.ended.items in
    let child = c.index-child.result.now in
    let less : c.loop-at.at < length items = omega (arith, c.loop-at-test.true, c.len-at-end.ensures, ap (λ (v : Vec Ended Global). v.len) c.loop-at.invariant.0, c.loop-at.ended.ok.0) in
    let is = ap (λ (e : Ended). is_child c.args.own c.args.who e.pid e.parent) (sym c.index-child.ensures) ∙ (sym c.is_child.ensures ∙ c.if-is_child.true) in
    c.remove.ensures.by_index.2
    ∙ ap (λ zs. take c.loop-at.at items ++ zs) (sym (without_first_at c.args.own c.args.who items c.loop-at.at child true less is))
    ∙ c.loop-at.invariant.1
    ∙ ap (λ (v : Vec Ended Global). without_first c.args.own c.args.who v.items) c.loop-at.invariant.0

pub loop-at-preserved : goal.loop-at-preserved
loop-at-preserved c =
    let items = c.loop-at.ended.items in
    let child = c.index-child.result.now in
    let less : c.loop-at.at < length items = omega (arith, c.loop-at-test.true, c.len-at-end.ensures, ap (λ (v : Vec Ended Global). v.len) c.loop-at.invariant.0, c.loop-at.ended.ok.0) in
    let is = ap (λ (e : Ended). is_child c.args.own c.args.who e.pid e.parent) (sym c.index-child.ensures) ∙ (sym c.is_child.ensures ∙ c.if-is_child.false) in
    (c.loop-at.invariant.0, without_first_later c.args.own c.args.who items c.loop-at.at child less is ∙ c.loop-at.invariant.1)

pub returns-clause-items : goal.returns-clause-items
unfolding without_first
returns-clause-items c =
    let items = c.loop-at.ended.items in
    let past : length items ≤ c.loop-at.at = omega (arith, c.loop-at-test.false, c.len-at-end.ensures, ap (λ (v : Vec Ended Global). v.len) c.loop-at.invariant.0, c.loop-at.ended.ok.0) in
    sym (append-nil items)
    ∙ ap (λ zs. zs ++ []) (sym (take_all c.loop-at.at items past))
    ∙ ap (λ zs. take c.loop-at.at items ++ without_first c.args.own c.args.who zs) (sym (drop_of_length-le items past))
    ∙ c.loop-at.invariant.1
    ∙ ap (λ (v : Vec Ended Global). without_first c.args.own c.args.who v.items) c.loop-at.invariant.0
