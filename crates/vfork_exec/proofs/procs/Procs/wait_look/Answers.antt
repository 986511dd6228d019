-- What the two lists say.
use Rattle.std.proofs.Common.{◌≡◌, true, false, None, Some, sym, ap, ◌∙◌}
use Rattle.std.specs.List.{list_any}
use Rattle.vfork_exec.specs.declared.entry.Entry.{Entry}
use Rattle.vfork_exec.specs.Families.{first_ended, told, is_child}
use Rattle.vfork_exec.specs.Procs.{Listed, has_child}
use Rattle.vfork_exec.proofs.procs.Procs.wait_look.Goals as goal

pub returns-in-Some : goal.returns-in-Some
unfolding told
returns-in-Some g c =
    let old = c.args.self.now in
    let first : first_ended c.args.pid c.args.who old.ended ≡ Some c.in-Some.child =
    ap (first_ended c.args.pid c.args.who) (ap (λ (x : Listed g.row.P.Denot). x.ended) (sym c.self.view_is) ∙ sym c.deref.ensures.value) ∙ sym c.first_ended.ensures ∙ c.in-Some.is in
    sym (ap (λ o. told o (has_child old c.args.pid c.args.who) c.args.may_wait) first)

pub returns-then-not-has_child : goal.returns-then-not-has_child
unfolding told
returns-then-not-has_child g c =
    let old = c.args.self.now in
    let first : first_ended c.args.pid c.args.who old.ended ≡ None =
    ap (first_ended c.args.pid c.args.who) (ap (λ (x : Listed g.row.P.Denot). x.ended) (sym c.self.view_is) ∙ sym c.deref.ensures.value) ∙ sym c.first_ended.ensures ∙ c.in_default.is in
    let child : has_child old c.args.pid c.args.who ≡ false =
    ap (list_any (λ (e : Entry g.row.P.Denot). is_child c.args.pid c.args.who e.pid e.parent)) (ap (λ (x : Listed g.row.P.Denot). x.entries) (sym c.self.view_is) ∙ sym c.deref-2.ensures.value) ∙ sym c.has_child.ensures ∙ c.if-not-has_child.true in
    sym (ap (λ o. told o (has_child old c.args.pid c.args.who) c.args.may_wait) first ∙ ap (λ b. told None b c.args.may_wait) child)

pub returns-then-may_wait : goal.returns-then-may_wait
unfolding told
returns-then-may_wait g c =
    let old = c.args.self.now in
    let first : first_ended c.args.pid c.args.who old.ended ≡ None =
    ap (first_ended c.args.pid c.args.who) (ap (λ (x : Listed g.row.P.Denot). x.ended) (sym c.self.view_is) ∙ sym c.deref.ensures.value) ∙ sym c.first_ended.ensures ∙ c.in_default.is in
    let child : has_child old c.args.pid c.args.who ≡ true =
    ap (list_any (λ (e : Entry g.row.P.Denot). is_child c.args.pid c.args.who e.pid e.parent)) (ap (λ (x : Listed g.row.P.Denot). x.entries) (sym c.self.view_is) ∙ sym c.deref-2.ensures.value) ∙ sym c.has_child.ensures ∙ c.if-not-has_child.false in
    sym (ap (λ o. told o (has_child old c.args.pid c.args.who) c.args.may_wait) first ∙ ap (λ b. told None b c.args.may_wait) child ∙ ap (told None true) c.if-may_wait.true)

pub returns-else-may_wait : goal.returns-else-may_wait
unfolding told
returns-else-may_wait g c =
    let old = c.args.self.now in
    let first : first_ended c.args.pid c.args.who old.ended ≡ None =
    ap (first_ended c.args.pid c.args.who) (ap (λ (x : Listed g.row.P.Denot). x.ended) (sym c.self.view_is) ∙ sym c.deref.ensures.value) ∙ sym c.first_ended.ensures ∙ c.in_default.is in
    let child : has_child old c.args.pid c.args.who ≡ true =
    ap (list_any (λ (e : Entry g.row.P.Denot). is_child c.args.pid c.args.who e.pid e.parent)) (ap (λ (x : Listed g.row.P.Denot). x.entries) (sym c.self.view_is) ∙ sym c.deref-2.ensures.value) ∙ sym c.has_child.ensures ∙ c.if-not-has_child.false in
    sym (ap (λ o. told o (has_child old c.args.pid c.args.who) c.args.may_wait) first ∙ ap (λ b. told None b c.args.may_wait) child ∙ ap (told None true) c.if-may_wait.false)
