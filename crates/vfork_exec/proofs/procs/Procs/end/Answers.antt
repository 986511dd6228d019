-- The process goes from the one list, and the others are as its end leaves them.
use Rattle.std.proofs.Common.{◌≡◌, ℕ, ◌+◌, ◌<◌, List, map, length, get_or, Some, Vec, Global, refl, sym, ap, subst, ◌∙◌, arith}
use Rattle.std.specs.Prelude.{IsSome}
use Rattle.std.specs.Vec.{with_items}
use Rattle.std.specs.List.{remove}
use Rattle.std.proofs.lemmas.List.{with_items_is, length-map}
use Rattle.std.proofs.lemmas.Option.{same_Some}
use Rattle.vfork_exec.specs.declared.family.Ended.{Ended}
use Rattle.vfork_exec.specs.declared.entry.Entry.{Entry}
use Rattle.vfork_exec.specs.Keyed.{find, without, place_of, Falls}
use Rattle.vfork_exec.specs.Families.{ended_behind}
use Rattle.vfork_exec.specs.Procs.{Listed, pid_of, behind, with_end}
use Rattle.vfork_exec.proofs.Keyed.{find_key, without_at}
use Rattle.vfork_exec.proofs.Places.{item_at}
use Rattle.vfork_exec.proofs.Holds.{Holds, holds_end}
use Rattle.vfork_exec.proofs.procs.Procs.end.Goals as goal

-- the one that goes, by its place
gone_is : {P : Type 0} (pid at : ℕ) (items entries : List (Entry P)) (e : Entry P) → items ≡ entries → at ≡ place_of pid_of pid entries → at < length entries → e ≡ get_or items at e → find pid_of pid items ≡ Some e
gone_is pid at items entries e same place below is =
    item_at pid_of pid items at e (place ∙ ap (place_of pid_of pid) (sym same)) (subst (λ es. at < length es) (sym same) below) is

-- the others, behind its end
left_is : {P : Type 0} (pid at b : ℕ) (items entries : List (Entry P)) (rest : Vec (Entry P) Global) (passed left : List (Entry P)) (e : Entry P)
    → items ≡ entries → Falls pid_of b items → at ≡ place_of pid_of pid entries → find pid_of pid items ≡ Some e
    → rest.items ≡ remove items at → passed ≡ rest.items → left ≡ map (behind pid e.parent) passed
    → (with_items rest left).items ≡ map (behind e.pid e.parent) (without pid_of e.pid items)
left_is pid at b items entries rest passed left e same falls place found gone given is =
    let there : at ≡ place_of pid_of pid items = place ∙ ap (place_of pid_of pid) (sym same) in
    let key : e.pid ≡ pid = find_key pid_of pid items e found in
    let long : length left ≡ rest.len = omega (arith, ap length is, length-map passed (behind pid e.parent), ap length given, rest.ok.0) in
    with_items_is rest left long
    ∙ is
    ∙ ap (map (behind pid e.parent)) (given ∙ gone ∙ ap (remove items) there ∙ without_at pid_of pid b items falls (subst IsSome (sym found) refl))
    ∙ ap (λ n. map (behind n e.parent) (without pid_of n items)) (sym key)

pub add_ended-requires : goal.add_ended-requires
add_ended-requires g c =
    let inv = c.self.invariant in
    let one : 0 < length c.self.inside.entries.items = let below = c.place-at.ensures.within in omega (arith, below, ap (λ (x : Listed g.row.P.Denot). length x.entries) c.self.view_is) in
    omega (arith, one, c.self.inside.ended.ok.0, inv.1, inv.3)

pub invariant_of-self : goal.invariant_of-self
invariant_of-self g c =
    let inv = c.self.invariant in
    let e = c.remove-parent.result in
    let s : Listed g.row.P.Denot = record { entries = c.self.inside.entries.items; ended = c.self.inside.ended.items; next_pid = c.self.inside.given + 1 } in
    let same = ap (λ (x : Listed g.row.P.Denot). x.entries) c.self.view_is in
    let found = gone_is c.args.pid c.place-at.result s.entries c.args.self.now.entries e same c.place-at.ensures.place c.place-at.ensures.within c.remove-parent.ensures.value in
    let key : e.pid ≡ c.args.pid = find_key pid_of c.args.pid s.entries e found in
    let left = left_is c.args.pid c.place-at.result s.next_pid s.entries c.args.self.now.entries c.remove-parent.new.self c.deref_mut.result.now c.leave.new.entries e same c.self.invariant.0
    c.place-at.ensures.place found c.remove-parent.ensures.items c.deref_mut.ensures.value c.leave.ensures in
    let ended : c.add_ended.new.ended.items ≡ (with_end s e c.args.how).ended = c.add_ended.ensures.items ∙ ap (λ n. ended_behind (record { pid = n; parent = e.parent; how = c.args.how }) s.ended) (sym key) in
    let after : Holds (with_end s e c.args.how) = holds_end s e c.args.how (ap (λ n. find pid_of n s.entries) key ∙ found) (inv.0, inv.1) in
    let one = subst (λ (es : List (Entry g.row.P.Denot)). Holds (record { entries = es; ended = (with_end s e c.args.how).ended; next_pid = s.next_pid })) (sym left) after in
    let h = subst (λ (ds : List Ended). Holds (record { entries = (with_items c.remove-parent.new.self c.leave.new.entries).items; ended = ds; next_pid = s.next_pid })) (sym ended) one in
    (h.0, h.1, omega (arith, inv.2, c.remove-parent.ensures.capacity), omega (arith, inv.3, c.add_ended.ensures.capacity))

pub returns : goal.returns
returns g c one is =
    let e = c.remove-parent.result in
    let s : Listed g.row.P.Denot = record { entries = c.self.inside.entries.items; ended = c.self.inside.ended.items; next_pid = c.self.inside.given + 1 } in
    let same = ap (λ (x : Listed g.row.P.Denot). x.entries) c.self.view_is in
    let found = gone_is c.args.pid c.place-at.result s.entries c.args.self.now.entries e same c.place-at.ensures.place c.place-at.ensures.within c.remove-parent.ensures.value in
    let key : e.pid ≡ c.args.pid = find_key pid_of c.args.pid s.entries e found in
    let left = left_is c.args.pid c.place-at.result s.next_pid s.entries c.args.self.now.entries c.remove-parent.new.self c.deref_mut.result.now c.leave.new.entries e same c.self.invariant.0
    c.place-at.ensures.place found c.remove-parent.ensures.items c.deref_mut.ensures.value c.leave.ensures in
    let ended : c.add_ended.new.ended.items ≡ (with_end s e c.args.how).ended = c.add_ended.ensures.items ∙ ap (λ n. ended_behind (record { pid = n; parent = e.parent; how = c.args.how }) s.ended) (sym key) in
    let gone : e ≡ one = same_Some e one (sym found ∙ ap (find pid_of c.args.pid) same ∙ is) in
    ap (λ (es : List (Entry g.row.P.Denot)). record { entries = es; ended = c.add_ended.new.ended.items; next_pid = s.next_pid }) left
    ∙ ap (λ (ds : List Ended). record { entries = (with_end s e c.args.how).entries; ended = ds; next_pid = s.next_pid }) ended
    ∙ ap (λ (x : Listed g.row.P.Denot). with_end x e c.args.how) c.self.view_is
    ∙ ap (λ (x : Entry g.row.P.Denot). with_end c.args.self.now x c.args.how) gone
