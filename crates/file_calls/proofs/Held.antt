-- What a pipe shows and what it holds.
use Rattle.std.proofs.Common.{◌≡◌, ℕ, length, Option, Some, None, refl}
use Rattle.fd_tables.specs.Files.{Pipe, OpenFiles}
use Rattle.fd_tables.specs.Pipes.{pipe_at, shown_pipe, held_in, pipe_view, pipe_bytes}

shows_held : (o : Option Pipe) → (shown_pipe o).held ≡ length (held_in o)
shows_held (Some p) = refl
shows_held None = refl

pub held_is : (files : OpenFiles) (id : ℕ) → (pipe_view files id).held ≡ length (pipe_bytes files id)
unfolding pipe_view pipe_bytes
held_is files id = shows_held (pipe_at files id)
