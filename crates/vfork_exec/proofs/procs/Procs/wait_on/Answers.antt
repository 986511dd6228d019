-- It waits on the pipe, and nothing else changes.
use Rattle.std.proofs.Common.{◌≡◌, ◌+◌, List, sym, ap, subst, ◌∙◌}
use Rattle.vfork_exec.specs.declared.family.State.TheVariants.{OnPipe}
use Rattle.vfork_exec.specs.declared.entry.Entry.{Entry}
use Rattle.vfork_exec.specs.Procs.{Listed, pid_of, with_state, with_state_at}
use Rattle.vfork_exec.proofs.Keyed.{none_changed}
use Rattle.vfork_exec.proofs.Holds.{Holds, holds_state, written}
use Rattle.vfork_exec.proofs.procs.Procs.wait_on.Goals as goal

pub invariant_of-self : goal.invariant_of-self
invariant_of-self g c =
    let inv = c.self.invariant in
    let s : Listed g.row.P.Denot = record { entries = c.self.inside.entries.items; ended = c.self.inside.ended.items; next_pid = c.self.inside.given + 1 } in
    let v : s ≡ c.args.self.now = c.self.view_is in
    let is = written (λ (e : Entry g.row.P.Denot). with_state e (OnPipe c.args.pipe)) c.args.pid s.entries c.args.self.now.entries c.place-at.result c.index_mut.result.now (ap (λ (x : Listed g.row.P.Denot). x.entries) v)
    c.place-at.ensures.place c.place-at.ensures.within c.index_mut.ensures.value in
    let h = subst (λ (es : List (Entry g.row.P.Denot)). Holds (record { entries = es; ended = s.ended; next_pid = s.next_pid })) (sym is) (holds_state s c.args.pid (OnPipe c.args.pipe) (inv.0, inv.1)) in
    (h.0, h.1, inv.2, inv.3)

pub returns-then-lives : goal.returns-then-lives
returns-then-lives g c =
    let s : Listed g.row.P.Denot = record { entries = c.self.inside.entries.items; ended = c.self.inside.ended.items; next_pid = c.self.inside.given + 1 } in
    let v : s ≡ c.args.self.now = c.self.view_is in
    let is = written (λ (e : Entry g.row.P.Denot). with_state e (OnPipe c.args.pipe)) c.args.pid s.entries c.args.self.now.entries c.place-at.result c.index_mut.result.now (ap (λ (x : Listed g.row.P.Denot). x.entries) v)
    c.place-at.ensures.place c.place-at.ensures.within c.index_mut.ensures.value in
    ap (λ (es : List (Entry g.row.P.Denot)). record { entries = es; ended = s.ended; next_pid = s.next_pid }) is
    ∙ ap (λ (x : Listed g.row.P.Denot). with_state_at x c.args.pid (OnPipe c.args.pipe)) v

pub returns-else-lives : goal.returns-else-lives
returns-else-lives g c =
    ap (λ (es : List (Entry g.row.P.Denot)). record { entries = es; ended = c.args.self.now.ended; next_pid = c.args.self.now.next_pid })
    (sym (none_changed pid_of c.args.pid (λ (e : Entry g.row.P.Denot). with_state e (OnPipe c.args.pipe)) c.args.self.now.entries (sym c.lives.ensures ∙ c.if-lives.false)))
