-- The pipe is found at its place.
use Rattle.std.proofs.Common.{◌≡◌, ℕ, List, [], take, arith, sym, ap, ◌∙◌, subst}
use Rattle.std.specs.Prelude.{IfOk}
use Rattle.std.proofs.lemmas.List.{take_all}
use Rattle.fd_tables.specs.Spare.{SpareFiles}
use Rattle.fd_tables.specs.Pipes.{pipe_bytes, held_in}
use Rattle.fd_tables.proofs.PipesThere.{here, nowhere}
use Rattle.fd_tables.proofs.files.Files.pipe_front.Goals as goal

pub returns-in-Some : goal.returns-in-Some
unfolding pipe_bytes
returns-in-Some c =
    let same = c.deref.ensures.value ∙ ap (λ (k : SpareFiles). k.open_files.pipes) c.self.view_is in
    let got = c.in-Some.ensures.lookup in
    let is = here c.args.self.now.open_files c.args.id c.pipe_place.result c.deref.result.now c.in-Some.pipe.now same c.pipe_place.ensures got.3.0 got.1 in
    subst (λ (held : List ℕ). IfOk c.front.result (λ bytes. bytes.items ≡ take c.args.n held)) (sym (ap held_in is)) c.front.ensures

pub returns-in-None : goal.returns-in-None
unfolding pipe_bytes
returns-in-None c =
    let same = c.deref.ensures.value ∙ ap (λ (k : SpareFiles). k.open_files.pipes) c.self.view_is in
    let is = nowhere c.args.self.now.open_files c.args.id c.pipe_place.result c.deref.result.now same c.pipe_place.ensures c.in-None.ensures.lookup.3 in
    c.new.ensures.items ∙ sym (take_all c.args.n [] (omega arith)) ∙ ap (λ (held : List ℕ). take c.args.n held) (sym (ap held_in is))
