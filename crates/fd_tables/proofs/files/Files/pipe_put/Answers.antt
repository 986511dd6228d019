-- The pipe at its place keeps its number, and is marked.
use Rattle.std.proofs.Common.{◌≡◌, ◌+◌, ◌<◌, ◌≤◌, cond, length, get_or, set, ◌++◌, Option, Some, sym, ap, ◌∙◌, arith}
use Rattle.vfork_exec.specs.Keyed.{place_of}
use Rattle.fd_tables.specs.Files.{Pipe}
use Rattle.fd_tables.specs.Spare.{SpareFiles}
use Rattle.fd_tables.specs.Pipes.{pipe_id, pipe_at, pipe_bytes, pipe_put, held_in, with_changed, marked}
use Rattle.fd_tables.proofs.Marks.{falls_set, unmarked_set}
use Rattle.fd_tables.proofs.PipesThere.{here, nowhere, still_there, changed_is, stays}
use Rattle.fd_tables.proofs.files.Files.pipe_put.Goals as goal

pub put-requires : goal.put-requires
unfolding pipe_bytes
put-requires c =
    let same = ap (λ (k : SpareFiles). k.open_files.pipes) c.self.view_is in
    let below : c.pipe_place-at.result < length c.self.inside.pipes.items = omega (arith, c.if-at-len.true, c.len.ensures, c.self.inside.pipes.ok.0) in
    let is = here c.args.self.now.open_files c.args.id c.pipe_place-at.result c.self.inside.pipes.items c.index_mut.result.now same c.pipe_place-at.ensures below c.index_mut.ensures.value in
    omega (arith, c.requires, ap (λ o. length (held_in o)) is)

pub invariant_of-self : goal.invariant_of-self
invariant_of-self c =
    let inv = c.self.invariant in
    let ps = c.self.inside.pipes.items in
    let at = c.pipe_place-at.result in
    let p = c.index_mut.result.now in
    let below : at < length ps = omega (arith, c.if-at-len.true, c.len.ensures, c.self.inside.pipes.ok.0) in
    let same : (get_or ps at p).id ≡ c.put.new.self.id = ap (λ (q : Pipe). q.id) (sym c.index_mut.ensures.value) ∙ ap (λ (q : Pipe). q.id) (sym c.put.ensures) in
    record {
      input = inv.input;
      numbers = falls_set pipe_id (c.self.inside.made + 1) ps at c.put.new.self p below same inv.numbers;
      ascending = inv.ascending;
      marks = omega (arith, inv.marks, unmarked_set c.self.inside.changed.items ps at c.put.new.self p below same);
    }

pub mark-requires : goal.mark-requires
mark-requires c =
    let ps = c.self.inside.pipes.items in
    let at = c.pipe_place-at.result in
    let p = c.index_mut.result.now in
    let below : at < length ps = omega (arith, c.if-at-len.true, c.len.ensures, c.self.inside.pipes.ok.0) in
    let same : (get_or ps at p).id ≡ c.put.new.self.id = ap (λ (q : Pipe). q.id) (sym c.index_mut.ensures.value) ∙ ap (λ (q : Pipe). q.id) (sym c.put.ensures) in
    still_there c.args.id ps at c.put.new.self p (c.pipe_place-at.ensures ∙ ap (λ (k : SpareFiles). place_of pipe_id c.args.id k.open_files.pipes) (sym c.self.view_is)) below same

pub returns-then-at-len-clause-put : goal.returns-then-at-len-clause-put
unfolding pipe_put
returns-then-at-len-clause-put c =
    let id = c.args.id in
    let fs = c.args.self.now.open_files in
    let at = c.pipe_place-at.result in
    let p = c.index_mut.result.now in
    let f : Pipe → Option Pipe = λ q. Some (record q { bytes = q.bytes ++ c.args.bytes.now }) in
    let same = ap (λ (k : SpareFiles). k.open_files.pipes) c.self.view_is in
    let below : at < length c.self.inside.pipes.items = omega (arith, c.if-at-len.true, c.len.ensures, c.self.inside.pipes.ok.0) in
    let found = here fs id at c.self.inside.pipes.items p same c.pipe_place-at.ensures below c.index_mut.ensures.value in
    c.mark.ensures.marked
    ∙ ap (λ (k : SpareFiles). marked id (record k.open_files { pipes = set k.open_files.pipes at c.put.new.self })) c.self.view_is
    ∙ changed_is f fs id at p c.put.new.self found c.pipe_place-at.ensures (ap (λ (q : Pipe). Some q) (sym c.put.ensures))
    ∙ ap (λ t. cond t fs (with_changed f fs id (pipe_at fs id))) (sym (sym c.is_empty.ensures ∙ c.if-is_empty.false))

pub returns-else-at-len-clause-put : goal.returns-else-at-len-clause-put
unfolding pipe_put
returns-else-at-len-clause-put c =
    let id = c.args.id in
    let fs = c.args.self.now.open_files in
    let f : Pipe → Option Pipe = λ q. Some (record q { bytes = q.bytes ++ c.args.bytes.now }) in
    let same = ap (λ (k : SpareFiles). k.open_files.pipes) c.self.view_is in
    let past : length c.self.inside.pipes.items ≤ c.pipe_place-at.result = omega (arith, c.if-at-len.false, c.len.ensures, c.self.inside.pipes.ok.0) in
    let none = nowhere fs id c.pipe_place-at.result c.self.inside.pipes.items same c.pipe_place-at.ensures past in
    stays f fs id none ∙ ap (λ t. cond t fs (with_changed f fs id (pipe_at fs id))) (sym (sym c.is_empty.ensures ∙ c.if-is_empty.false))
