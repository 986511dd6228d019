-- The pipe is found at its place.
use Rattle.std.proofs.Common.{sym, ap, ◌∙◌}
use Rattle.fd_tables.specs.declared.pipe_view.PipeView.{PipeView}
use Rattle.fd_tables.specs.Spare.{SpareFiles}
use Rattle.fd_tables.specs.Pipes.{pipe_view, shown_pipe}
use Rattle.fd_tables.proofs.PipesThere.{here, nowhere, held_is}
use Rattle.fd_tables.proofs.files.Files.pipe_view.Goals as goal

pub returns-in-Some-clause-shown : goal.returns-in-Some-clause-shown
unfolding pipe_view
returns-in-Some-clause-shown c =
    let same = c.deref.ensures.value ∙ ap (λ (k : SpareFiles). k.open_files.pipes) c.self.view_is in
    let got = c.in-Some.ensures.lookup in
    c.view.ensures.shown ∙ ap shown_pipe (sym (here c.args.self.now.open_files c.args.id c.pipe_place.result c.deref.result.now c.in-Some.pipe.now same c.pipe_place.ensures got.3.0 got.1))

pub returns-in-None-clause-shown : goal.returns-in-None-clause-shown
unfolding pipe_view
returns-in-None-clause-shown c =
    let same = c.deref.ensures.value ∙ ap (λ (k : SpareFiles). k.open_files.pipes) c.self.view_is in
    ap shown_pipe (sym (nowhere c.args.self.now.open_files c.args.id c.pipe_place.result c.deref.result.now same c.pipe_place.ensures c.in-None.ensures.lookup.3))

pub returns-in-Some-clause-held : goal.returns-in-Some-clause-held
unfolding pipe_view
returns-in-Some-clause-held c = ap (λ (v : PipeView). v.held) (returns-in-Some-clause-shown c) ∙ held_is c.args.self.now.open_files c.args.id

pub returns-in-None-clause-held : goal.returns-in-None-clause-held
unfolding pipe_view
returns-in-None-clause-held c = ap (λ (v : PipeView). v.held) (returns-in-None-clause-shown c) ∙ held_is c.args.self.now.open_files c.args.id
