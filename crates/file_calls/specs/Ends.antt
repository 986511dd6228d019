-- Descriptors that lead to an end of a pipe.
use Rattle.std.specs.Prelude.{Option, Some, None}
use Rattle.fd_tables.specs.declared.view.View.{View}
use Rattle.fd_tables.specs.declared.view.Target.{Target}
use Rattle.fd_tables.specs.declared.view.Target.TheVariants.{Console, Node, Pipe}
use Rattle.fd_tables.specs.Files.{OpenFiles}
use Rattle.fd_tables.specs.Pipes.{pipe_view}
use Rattle.file_calls.specs.declared.waiting.PipeEnd.{PipeEnd}

-- the end that a target is
abbrev pub end_of : OpenFiles → View → Target → Option PipeEnd
end_of files v Console = None
end_of files v (Node node) = None
end_of files v (Pipe id write) = Some (record { way = v.way; id = id; pipe = pipe_view files id })

-- the end that a descriptor shows
abbrev pub shown_end : OpenFiles → Option View → Option PipeEnd
shown_end files (Some v) = end_of files v v.target
shown_end files None = None
