-- What stands at the place is the process, and a write there changes just it.
use Rattle.std.proofs.Common.{◌≡◌, ◌+◌, List, Some, refl, sym, ap, subst, ◌∙◌}
use Rattle.std.specs.Prelude.{option_map}
use Rattle.vfork_exec.specs.declared.entry.Entry.{Entry}
use Rattle.vfork_exec.specs.Procs.{Listed, pid_of, with_value, with_value_at, value_at}
use Rattle.vfork_exec.proofs.Places.{item_at}
use Rattle.vfork_exec.proofs.Holds.{Holds, holds_value, written}
use Rattle.vfork_exec.proofs.procs.Procs.get_mut.Goals as goal

pub invariant_of-self-lent : goal.invariant_of-self-lent
invariant_of-self-lent g c w =
    let inv = c.self.invariant in
    let s : Listed g.row.P.Denot = record { entries = c.self.inside.entries.items; ended = c.self.inside.ended.items; next_pid = c.self.inside.given + 1 } in
    let is = written (λ (e : Entry g.row.P.Denot). with_value e w) c.args.pid s.entries s.entries c.place-at.result c.index_mut.result.now refl c.place-at.ensures.place c.place-at.ensures.within c.index_mut.ensures.value in
    let h = subst (λ (es : List (Entry g.row.P.Denot)). Holds (record { entries = es; ended = s.ended; next_pid = s.next_pid })) (sym is) (holds_value s c.args.pid w (inv.0, inv.1)) in
    (h.0, h.1, inv.2, inv.3)

pub returns : goal.returns
returns g c =
    let pid = c.args.pid in
    let s : Listed g.row.P.Denot = record { entries = c.self.inside.entries.items; ended = c.self.inside.ended.items; next_pid = c.self.inside.given + 1 } in
    let v : s ≡ c.args.self.now = c.self.view_is in
    let found = item_at pid_of pid s.entries c.place-at.result c.index_mut.result.now c.place-at.ensures.place c.place-at.ensures.within c.index_mut.ensures.value in (
      (
        refl,
        λ w.
            ap (λ (es : List (Entry g.row.P.Denot)). record { entries = es; ended = s.ended; next_pid = s.next_pid })
            (written (λ (e : Entry g.row.P.Denot). with_value e w) pid s.entries s.entries c.place-at.result c.index_mut.result.now refl c.place-at.ensures.place c.place-at.ensures.within c.index_mut.ensures.value)
            ∙ ap (λ (x : Listed g.row.P.Denot). with_value_at x pid w) v,
      ),
      record {
        lends = tt;
        value = ap (λ (x : Listed g.row.P.Denot). value_at x pid) (sym v) ∙ ap (option_map (λ (e : Entry g.row.P.Denot). e.value)) found ∙ ap Some (sym c.value_mut.ensures.value);
      },
    )
