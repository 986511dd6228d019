-- The child is added, and its parent stands still for it.
use Rattle.std.proofs.Common.{◌≡◌, ◌+◌, ◌<◌, List, sym, ap, subst, ◌∙◌, arith}
use Rattle.std.proofs.lemmas.Bool.Decides.{nat_tests}
use Rattle.vfork_exec.specs.declared.entry.Entry.{Entry}
use Rattle.vfork_exec.specs.declared.family.State.TheVariants.{Lent}
use Rattle.vfork_exec.specs.Keyed.{Falls}
use Rattle.vfork_exec.specs.Procs.{Listed, Lives, pid_of, with_state, with_state_at, count, most_entries}
use Rattle.vfork_exec.proofs.Keyed.{lives_later}
use Rattle.vfork_exec.proofs.Holds.{Holds, holds_state, child_added, written}
use Rattle.vfork_exec.proofs.procs.Procs.vfork.Goals as goal

pub place-at-requires : goal.place-at-requires
place-at-requires g c =
    subst (λ (x : Listed g.row.P.Denot). Lives x c.args.pid) (sym c.add-child.ensures.after) (lives_later pid_of c.args.pid _ c.args.self.now.entries c.requires.lives)

pub invariant_of-self : goal.invariant_of-self
invariant_of-self g c =
    let inv = c.self.invariant in
    let pid = c.args.pid in
    let child = c.add-child.result in
    let s : Listed g.row.P.Denot = record { entries = c.self.inside.entries.items; ended = c.self.inside.ended.items; next_pid = c.self.inside.given + 1 } in
    let v : s ≡ c.add-child.new.self = c.self.view_is in
    let is = written (λ (e : Entry g.row.P.Denot). with_state e (Lent child)) pid s.entries c.add-child.new.self.entries c.place-at.result c.index_mut.result.now (ap (λ (x : Listed g.row.P.Denot). x.entries) v)
    c.place-at.ensures.place c.place-at.ensures.within c.index_mut.ensures.value in
    let after : Holds (with_state_at s pid (Lent child)) = holds_state s pid (Lent child) (inv.0, inv.1) in
    let h = subst (λ (es : List (Entry g.row.P.Denot)). Holds (record { entries = es; ended = s.ended; next_pid = s.next_pid })) (sym is) after in
    (h.0, h.1, inv.2, inv.3)

pub returns : goal.returns
returns g c =
    let pid = c.args.pid in
    let child = c.add-child.result in
    let old = c.args.self.now in
    let s : Listed g.row.P.Denot = record { entries = c.self.inside.entries.items; ended = c.self.inside.ended.items; next_pid = c.self.inside.given + 1 } in
    let v : s ≡ c.add-child.new.self = c.self.view_is in
    let is = written (λ (e : Entry g.row.P.Denot). with_state e (Lent child)) pid s.entries c.add-child.new.self.entries c.place-at.result c.index_mut.result.now (ap (λ (x : Listed g.row.P.Denot). x.entries) v)
    c.place-at.ensures.place c.place-at.ensures.within c.index_mut.ensures.value in
    let falls = subst (λ (x : Listed g.row.P.Denot). Falls pid_of x.next_pid x.entries) (v ∙ c.add-child.ensures.after) c.self.invariant.0 in
    let room : count old < most_entries = grind (arith, nat_tests, c.if-full.ensures.full, c.if-full.ensures.most) in (
      room,
      c.add-child.ensures.pid,
      ap (λ (es : List (Entry g.row.P.Denot)). record { entries = es; ended = s.ended; next_pid = s.next_pid }) is
          ∙ ap (λ (x : Listed g.row.P.Denot). with_state_at x pid (Lent child)) (v ∙ c.add-child.ensures.after)
          ∙ child_added old pid c.args.child child falls.1 c.requires.lives c.add-child.ensures.pid,
    )
