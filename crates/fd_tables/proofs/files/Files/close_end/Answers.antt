-- The pipe at its place is marked, and keeps its number or goes.
use Rattle.std.proofs.Common.{◌≡◌, ℕ, Bool, ◌+◌, ◌<◌, ◌≤◌, List, length, get_or, set, Some, true, false, sym, ap, ◌∙◌, subst, arith}
use Rattle.std.specs.List.{remove}
use Rattle.std.proofs.lemmas.List.{get_or-set_same}
use Rattle.vfork_exec.specs.Keyed.{find, place_of, without, Falls}
use Rattle.vfork_exec.proofs.Keyed.{falls_without}
use Rattle.fd_tables.specs.Files.{Pipe, OpenFiles}
use Rattle.fd_tables.specs.Spare.{SpareFiles}
use Rattle.fd_tables.specs.Pipes.{pipe_id, without_end, with_closed, is_closed, unless_closed, marked}
use Rattle.fd_tables.specs.Inside.{unmarked, kept}
use Rattle.fd_tables.proofs.Marks.{falls_set, unmarked_set, unmarked_without}
use Rattle.fd_tables.proofs.PipesThere.{here, nowhere, changed_is, gone_is, removed, stays, closed_id, left_open, both_closed}
use Rattle.fd_tables.proofs.files.Files.close_end.Goals as goal

-- the list behind the mark is the one before it
old_pipes : (s new old : SpareFiles) (id : ℕ) → s ≡ new → new.open_files ≡ marked id old.open_files → s.open_files.pipes ≡ old.open_files.pipes
old_pipes s new old id same is = ap (λ (k : SpareFiles). k.open_files.pipes) same ∙ ap (λ (fs : OpenFiles). fs.pipes) is

now_closed : (ps : List Pipe) (at : ℕ) (p q now : Pipe) (write closed : Bool) → at < length ps → q ≡ get_or (set ps at now) at q → now ≡ with_closed write p → closed ≡ is_closed q → closed ≡ is_closed (with_closed write p)
now_closed ps at p q now write closed below is made test =
    test ∙ ap is_closed (is ∙ get_or-set_same ps at now q below ∙ made)

pub returns-then-at-len-clause-closed : goal.returns-then-at-len-clause-closed
unfolding without_end
returns-then-at-len-clause-closed c =
    let id = c.args.id in
    let fs = c.args.self.now.open_files in
    let same = ap (λ (k : SpareFiles). k.open_files.pipes) c.self.view_is in
    let past : length c.self.inside.pipes.items ≤ c.pipe_place-at.result = omega (arith, c.if-at-len.true, c.len.ensures, c.self.inside.pipes.ok.0) in
    stays (λ p. unless_closed (with_closed c.args.write p)) fs id (nowhere fs id c.pipe_place-at.result c.self.inside.pipes.items same c.pipe_place-at.ensures past)

pub invariant_of-self : goal.invariant_of-self
invariant_of-self c =
    let inv = c.self-2.invariant in
    let id = c.args.id in
    let fs = c.args.self.now.open_files in
    let ps = c.self-2.inside.pipes.items in
    let at = c.pipe_place-at.result in
    let p = c.index_mut.result.now in
    let b = c.self-2.inside.made + 1 in
    let same : ps ≡ fs.pipes = old_pipes (kept c.self-2.inside) c.mark.new.self c.args.self.now id c.self-2.view_is c.mark.ensures.marked in
    let before = ap (λ (k : SpareFiles). k.open_files.pipes) c.self.view_is in
    let below : at < length ps = omega (arith, c.if-at-len.false, c.len.ensures, c.self.inside.pipes.ok.0, ap (λ (qs : List Pipe). length qs) same, ap (λ (qs : List Pipe). length qs) before) in
    let found = here fs id at ps p same c.pipe_place-at.ensures below c.index_mut.ensures.value in
    let rest : c.remove.new.self.items ≡ without pipe_id id ps =
    c.remove.ensures.items ∙ removed b id at ps p c.close.new.self inv.numbers (subst (λ (qs : List Pipe). find pipe_id id qs ≡ Some p) (sym same) found) (c.pipe_place-at.ensures ∙ ap (place_of pipe_id id) (sym same)) in
    record {
      input = inv.input;
      numbers = subst (Falls pipe_id b) (sym rest) (falls_without pipe_id id b ps inv.numbers);
      ascending = inv.ascending;
      marks = omega (arith, inv.marks, unmarked_without id c.self-2.inside.changed.items ps, ap (unmarked c.self-2.inside.changed.items) rest);
    }

pub invariant_of-self-else-is_closed : goal.invariant_of-self-else-is_closed
invariant_of-self-else-is_closed c =
    let inv = c.self-2.invariant in
    let ps = c.self-2.inside.pipes.items in
    let at = c.pipe_place-at.result in
    let p = c.index_mut.result.now in
    let same = old_pipes (kept c.self-2.inside) c.mark.new.self c.args.self.now c.args.id c.self-2.view_is c.mark.ensures.marked in
    let before = ap (λ (k : SpareFiles). k.open_files.pipes) c.self.view_is in
    let below : at < length ps = omega (arith, c.if-at-len.false, c.len.ensures, c.self.inside.pipes.ok.0, ap (λ (qs : List Pipe). length qs) same, ap (λ (qs : List Pipe). length qs) before) in
    let id_is : (get_or ps at p).id ≡ c.close.new.self.id =
    ap (λ (q : Pipe). q.id) (sym c.index_mut.ensures.value) ∙ sym (closed_id c.args.write p) ∙ ap (λ (q : Pipe). q.id) (sym c.close.ensures) in
    record {
      input = inv.input;
      numbers = falls_set pipe_id (c.self-2.inside.made + 1) ps at c.close.new.self p below id_is inv.numbers;
      ascending = inv.ascending;
      marks = omega (arith, inv.marks, unmarked_set c.self-2.inside.changed.items ps at c.close.new.self p below id_is);
    }

pub returns-then-is_closed-clause-closed : goal.returns-then-is_closed-clause-closed
unfolding without_end
returns-then-is_closed-clause-closed c =
    let id = c.args.id in
    let write = c.args.write in
    let fs = c.args.self.now.open_files in
    let ps = c.self-2.inside.pipes.items in
    let at = c.pipe_place-at.result in
    let p = c.index_mut.result.now in
    let now = c.close.new.self in
    let b = c.self-2.inside.made + 1 in
    let same : ps ≡ fs.pipes = old_pipes (kept c.self-2.inside) c.mark.new.self c.args.self.now id c.self-2.view_is c.mark.ensures.marked in
    let before = ap (λ (k : SpareFiles). k.open_files.pipes) c.self.view_is in
    let below : at < length ps = omega (arith, c.if-at-len.false, c.len.ensures, c.self.inside.pipes.ok.0, ap (λ (qs : List Pipe). length qs) same, ap (λ (qs : List Pipe). length qs) before) in
    let found = here fs id at ps p same c.pipe_place-at.ensures below c.index_mut.ensures.value in
    let closed : is_closed (with_closed write p) ≡ true = sym (now_closed ps at p c.index.result.now now write c.is_closed.result below c.index.ensures c.close.ensures c.is_closed.ensures) ∙ c.if-is_closed.true in
    ap (λ (qs : List Pipe). record (kept c.self-2.inside).open_files { pipes = qs }) c.remove.ensures.items
    ∙ ap (λ (k : SpareFiles). record k.open_files { pipes = remove (set k.open_files.pipes at now) at }) c.self-2.view_is
    ∙ ap (λ (gs : OpenFiles). record gs { pipes = remove (set gs.pipes at now) at }) c.mark.ensures.marked
    ∙ gone_is (λ q. unless_closed (with_closed write q)) b fs id at p now (subst (Falls pipe_id b) same c.self-2.invariant.numbers) found c.pipe_place-at.ensures (both_closed (with_closed write p) closed)

pub returns-else-is_closed-clause-closed : goal.returns-else-is_closed-clause-closed
unfolding without_end
returns-else-is_closed-clause-closed c =
    let id = c.args.id in
    let write = c.args.write in
    let fs = c.args.self.now.open_files in
    let ps = c.self-2.inside.pipes.items in
    let at = c.pipe_place-at.result in
    let p = c.index_mut.result.now in
    let now = c.close.new.self in
    let same : ps ≡ fs.pipes = old_pipes (kept c.self-2.inside) c.mark.new.self c.args.self.now id c.self-2.view_is c.mark.ensures.marked in
    let before = ap (λ (k : SpareFiles). k.open_files.pipes) c.self.view_is in
    let below : at < length ps = omega (arith, c.if-at-len.false, c.len.ensures, c.self.inside.pipes.ok.0, ap (λ (qs : List Pipe). length qs) same, ap (λ (qs : List Pipe). length qs) before) in
    let found = here fs id at ps p same c.pipe_place-at.ensures below c.index_mut.ensures.value in
    let open_still : is_closed (with_closed write p) ≡ false = sym (now_closed ps at p c.index.result.now now write c.is_closed.result below c.index.ensures c.close.ensures c.is_closed.ensures) ∙ c.if-is_closed.false in
    ap (λ (k : SpareFiles). record k.open_files { pipes = set k.open_files.pipes at now }) c.self-2.view_is
    ∙ ap (λ (gs : OpenFiles). record gs { pipes = set gs.pipes at now }) c.mark.ensures.marked
    ∙ changed_is (λ q. unless_closed (with_closed write q)) fs id at p now found c.pipe_place-at.ensures (left_open (with_closed write p) open_still ∙ ap (λ (q : Pipe). Some q) (sym c.close.ensures))
