-- Who stood still goes on.
use Rattle.std.proofs.Common.{◌≡◌, ◌+◌, List, map, length, sym, ap, subst, ◌∙◌, arith}
use Rattle.std.proofs.lemmas.List.{with_items_is, length-map}
use Rattle.vfork_exec.specs.declared.entry.Entry.{Entry}
use Rattle.vfork_exec.specs.Families.{resumed}
use Rattle.vfork_exec.specs.Procs.{Listed, with_state}
use Rattle.vfork_exec.proofs.Holds.{Holds, holds_states}
use Rattle.vfork_exec.proofs.procs.Procs.exec_done.Goals as goal

pub invariant_of-self : goal.invariant_of-self
invariant_of-self g c =
    let inv = c.self.invariant in
    let entries = c.self.inside.entries in
    let s : Listed g.row.P.Denot = record { entries = entries.items; ended = c.self.inside.ended.items; next_pid = c.self.inside.given + 1 } in
    let f : Entry g.row.P.Denot → Entry g.row.P.Denot = λ e. with_state e (resumed c.args.pid e.state) in
    let same : c.resume.new.entries ≡ map f entries.items = c.resume.ensures ∙ ap (map f) c.deref_mut.ensures.value in
    let is = with_items_is entries c.resume.new.entries (omega (arith, ap length same, length-map entries.items f, entries.ok.0)) ∙ same in
    let h = subst (λ (es : List (Entry g.row.P.Denot)). Holds (record { entries = es; ended = s.ended; next_pid = s.next_pid })) (sym is) (holds_states s (resumed c.args.pid) (inv.0, inv.1)) in
    (h.0, h.1, inv.2, inv.3)
