-- The child that is told of goes; who waits doesn't run.
use Rattle.std.proofs.Common.{◌≡◌, ◌+◌, List, Ok, sym, ap, subst, ◌∙◌, arith}
use Rattle.vfork_exec.specs.declared.family.Ended.{Ended}
use Rattle.vfork_exec.specs.declared.family.Waited.{Waited}
use Rattle.vfork_exec.specs.declared.family.State.TheVariants.{Waiting}
use Rattle.vfork_exec.specs.declared.entry.Entry.{Entry}
use Rattle.vfork_exec.specs.Procs.{Listed, with_state, with_state_at, with_wait}
use Rattle.vfork_exec.proofs.Holds.{Holds, holds_first, holds_state, written}
use Rattle.vfork_exec.proofs.procs.Procs.wait.Goals as goal

pub invariant_of-self : goal.invariant_of-self
invariant_of-self g c =
    let inv = c.self.invariant in
    let s : Listed g.row.P.Denot = record { entries = c.self.inside.entries.items; ended = c.self.inside.ended.items; next_pid = c.self.inside.given + 1 } in
    let h = subst (λ (es : List Ended). Holds (record { entries = s.entries; ended = es; next_pid = s.next_pid })) (sym c.forget_first.ensures.items) (holds_first s c.args.pid c.args.who (inv.0, inv.1)) in
    (h.0, h.1, inv.2, omega (arith, inv.3, c.forget_first.ensures.capacity))

pub invariant_of-self-in-Waits : goal.invariant_of-self-in-Waits
invariant_of-self-in-Waits g c =
    let inv = c.self.invariant in
    let pid = c.args.pid in
    let who = c.args.who in
    let s : Listed g.row.P.Denot = record { entries = c.self.inside.entries.items; ended = c.self.inside.ended.items; next_pid = c.self.inside.given + 1 } in
    let v : s ≡ c.args.self.now = c.self.view_is in
    let is = written (λ (e : Entry g.row.P.Denot). with_state e (Waiting who)) pid s.entries c.args.self.now.entries c.place-at.result c.index_mut.result.now (ap (λ (x : Listed g.row.P.Denot). x.entries) v)
    c.place-at.ensures.place c.place-at.ensures.within c.index_mut.ensures.value in
    let h = subst (λ (es : List (Entry g.row.P.Denot)). Holds (record { entries = es; ended = s.ended; next_pid = s.next_pid })) (sym is) (holds_state s pid (Waiting who) (inv.0, inv.1)) in
    (h.0, h.1, inv.2, inv.3)

pub returns-in-Waits-clause-after : goal.returns-in-Waits-clause-after
returns-in-Waits-clause-after g c =
    let pid = c.args.pid in
    let who = c.args.who in
    let s : Listed g.row.P.Denot = record { entries = c.self.inside.entries.items; ended = c.self.inside.ended.items; next_pid = c.self.inside.given + 1 } in
    let v : s ≡ c.args.self.now = c.self.view_is in
    let is = written (λ (e : Entry g.row.P.Denot). with_state e (Waiting who)) pid s.entries c.args.self.now.entries c.place-at.result c.index_mut.result.now (ap (λ (x : Listed g.row.P.Denot). x.entries) v)
    c.place-at.ensures.place c.place-at.ensures.within c.index_mut.ensures.value in
    ap (λ (es : List (Entry g.row.P.Denot)). record { entries = es; ended = s.ended; next_pid = s.next_pid }) is
    ∙ ap (λ (x : Listed g.row.P.Denot). with_state_at x pid (Waiting who)) v
    ∙ ap (λ (w : Waited). with_wait c.args.self.now pid who (Ok w)) (sym c.in-Waits.is)
