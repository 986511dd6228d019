-- The parts once those go on that wait on a pipe which changed.
use Rattle.std.specs.Prelude.{ℕ, List, [], ◌∷◌}
use Rattle.fd_tables.specs.Pipes.{none_changed}
use Rattle.vfork_exec.specs.Procs.{Listed, with_wake}
use Rattle.kept_parts.specs.declared.task.Task.{Task}
use Rattle.kept_parts.specs.Kept.{Kept}

unfoldable pub with_wakes : List ℕ → Listed Task → Listed Task
with_wakes [] procs = procs
with_wakes (pipe ∷ pipes) procs = with_wakes pipes (with_wake procs pipe)

abbrev pub awake_in : Kept → Kept
awake_in k = record k { procs = with_wakes k.files.changed k.procs; files = none_changed k.files }
