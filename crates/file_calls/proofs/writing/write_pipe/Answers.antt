-- What a pipe holds is what it shows.
use Rattle.std.proofs.Common.{◌≡◌, ◌∙◌, ap, length, arith}
use Rattle.std.proofs.lemmas.List.{length-take}
use Rattle.fd_tables.specs.declared.pipe_view.PipeView.{PipeView}
use Rattle.fd_tables.specs.Pipes.{pipe_bytes}
use Rattle.file_calls.proofs.Held.{held_is}
use Rattle.file_calls.proofs.writing.write_pipe.Goals as goal

pub pipe_put-requires : goal.pipe_put-requires
pipe_put-requires c =
    let held : c.pipe_view-pipe.result.held ≡ length (pipe_bytes c.args.files.now.open_files c.args.id) =
    ap (λ (v : PipeView). v.held) c.pipe_view-pipe.ensures.shown ∙ held_is c.args.files.now.open_files c.args.id in
    omega (arith, length-take c.min-count.result c.args.bytes.now)
