-- The process goes from the list, and its space is given up unless another one lent it.
use Rattle.std.proofs.Common.{◌≡◌, sym, subst, ◌∙◌}
use Rattle.vfork_exec.specs.Procs.{CanRun}
use Rattle.kept_parts.specs.Kept.{Kept}
use Rattle.kept_parts.specs.Inside.{kept_of}
use Rattle.kept_parts.specs.Calls.{LivesIn}
use Rattle.kept_parts.specs.Gone.{gone}
use Rattle.kept_parts.proofs.Ends.Steps.{kept_ended, nobody_ended, gone_lent, gone_owned}
use Rattle.kept_parts.proofs.Copies.BehindCalls.{copies_ended}
use Rattle.kept_parts.proofs.Copies.BehindStrays.{holds_inside, none_clean, cleaned, copies_clean}
use Rattle.kept_parts.proofs.kept.KeptParts.depart.Goals as goal

pub invariant_of-self : goal.invariant_of-self
invariant_of-self c =
    let k = kept_of c.self.inside in
    let runs = subst (λ (s : Kept). CanRun s.procs c.args.pid) (sym c.self.view_is) c.requires in
    (kept_ended k c.args.pid c.args.how c.get.result.now runs c.get.ensures c.drop_table.new.tree c.drop_table.new.self.open_files c.end.new.self c.drop_table.ensures.storage c.end.ensures c.self.invariant.0, c.self.invariant.1, c.self.invariant.2)

pub give_up-requires-clause-nobody : goal.give_up-requires-clause-nobody
give_up-requires-clause-nobody c =
    let k = kept_of c.self.inside in
    let runs = subst (λ (s : Kept). CanRun s.procs c.args.pid) (sym c.self.view_is) c.requires in
    nobody_ended k c.args.pid c.args.how c.get.result.now runs c.get.ensures c.drop_table.new.tree c.drop_table.new.self.open_files c.end.new.self c.drop_table.ensures.storage c.end.ensures c.self.invariant.0
    (sym c.borrows-lent.ensures ∙ c.if-not-lent.true)

pub invariant_of-self-else-not-lent : goal.invariant_of-self-else-not-lent
invariant_of-self-else-not-lent c =
    let k = kept_of c.self.inside in
    let runs = subst (λ (s : Kept). CanRun s.procs c.args.pid) (sym c.self.view_is) c.requires in
    (kept_ended k c.args.pid c.args.how c.get.result.now runs c.get.ensures c.drop_table.new.tree c.drop_table.new.self.open_files c.end.new.self c.drop_table.ensures.storage c.end.ensures c.self.invariant.0, c.self.invariant.1, c.self.invariant.2)

pub returns-then-not-lent-clause-goes : goal.returns-then-not-lent-clause-goes
returns-then-not-lent-clause-goes c = λ e h.
    let k = kept_of c.self.inside in
    let runs = subst (λ (s : Kept). CanRun s.procs c.args.pid) (sym c.self.view_is) c.requires in
    subst (λ (old : Kept). LivesIn old c.args.pid e h → c.give_up.new.self ≡ gone old e h c.args.how) c.self.view_is
    (gone_owned k c.args.pid c.args.how c.get.result.now runs c.get.ensures c.drop_table.new.tree c.drop_table.new.self.open_files c.end.new.self c.drop_table.ensures.storage c.end.ensures
    (sym c.borrows-lent.ensures ∙ c.if-not-lent.true) c.give_up.new.self c.give_up.ensures.goes e h)

pub returns-else-not-lent-clause-goes : goal.returns-else-not-lent-clause-goes
returns-else-not-lent-clause-goes c = λ e h.
    let k = kept_of c.self.inside in
    let runs = subst (λ (s : Kept). CanRun s.procs c.args.pid) (sym c.self.view_is) c.requires in
    let now = record k { tree = c.drop_table.new.tree; files = c.drop_table.new.self.open_files; procs = c.end.new.self } in
    subst (λ (old : Kept). LivesIn old c.args.pid e h → now ≡ gone old e h c.args.how) c.self.view_is
    (gone_lent k c.args.pid c.args.how c.get.result.now runs c.get.ensures c.drop_table.new.tree c.drop_table.new.self.open_files c.end.new.self c.drop_table.ensures.storage c.end.ensures
    (sym c.borrows-lent.ensures ∙ c.if-not-lent.false) e h)

pub returns-then-not-lent-clause-holds : goal.returns-then-not-lent-clause-holds
returns-then-not-lent-clause-holds c = λ holds.
    let k = kept_of c.self.inside in
    let copies = copies_clean k c.self.invariant.0.1 (holds_inside k c.args.self.now c.self.view_is holds) in
    c.give_up.ensures.holds ((copies_ended (cleaned k) copies c.drop_table.new.tree c.drop_table.new.self.open_files c.get.result.now.table c.drop_table.ensures.storage).hold (none_clean k.notes))

pub returns-else-not-lent-clause-holds : goal.returns-else-not-lent-clause-holds
returns-else-not-lent-clause-holds c = λ holds.
    let k = kept_of c.self.inside in
    let copies = copies_clean k c.self.invariant.0.1 (holds_inside k c.args.self.now c.self.view_is holds) in
    (copies_ended (cleaned k) copies c.drop_table.new.tree c.drop_table.new.self.open_files c.get.result.now.table c.drop_table.ensures.storage).hold (none_clean k.notes)
