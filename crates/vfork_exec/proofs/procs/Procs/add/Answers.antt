-- One more, that may run.
use Rattle.std.proofs.Common.{◌≡◌, ◌+◌, ◌<◌, cond, List, sym, ap, subst, ◌∙◌, arith}
use Rattle.vfork_exec.specs.declared.entry.Entry.{Entry}
use Rattle.vfork_exec.specs.Procs.{Listed, with_entry, count, most_entries}
use Rattle.vfork_exec.proofs.Holds.{Holds, holds_entry}
use Rattle.vfork_exec.proofs.procs.Procs.add.Goals as goal

pub invariant_of-self : goal.invariant_of-self
invariant_of-self g c =
    let inv = c.self.invariant in
    let s : Listed g.row.P.Denot = record { entries = c.self.inside.entries.items; ended = c.self.inside.ended.items; next_pid = c.self.inside.given + 1 } in
    let v : s ≡ c.args.self.now = c.self.view_is in
    let room : count s < most_entries = subst (λ (x : Listed g.row.P.Denot). count x < most_entries) (sym v) c.requires.room in
    let more : Holds (with_entry s c.args.parent c.args.value) = holds_entry s c.args.parent c.args.value (inv.0, inv.1) room in
    let is : c.insert.new.self.items ≡ (with_entry s c.args.parent c.args.value).entries = c.insert.ensures.items ∙ ap (λ b. cond b (with_entry s c.args.parent c.args.value).entries c.self.inside.entries.items) c.if-is_err.ensures.negation in
    let h = subst (λ (es : List (Entry g.row.P.Denot)). Holds (record { entries = es; ended = c.self.inside.ended.items; next_pid = c.self.inside.given + 1 + 1 })) (sym is) more in
    (h.0, h.1, omega (arith, inv.2, c.insert.ensures.capacity), inv.3)
