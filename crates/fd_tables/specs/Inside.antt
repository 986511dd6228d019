-- What the fields of `Files` say.
use Rattle.std.specs.Prelude.{ℕ, ◌+◌, ◌≤◌, ◌==◌, not, List, [], ◌∷◌, length, count_by, drop, vec_len, vec_capacity}
use Rattle.std.specs.List.{list_any}
use Rattle.vfork_exec.specs.Keyed.{Falls}
use Rattle.fd_tables.specs.declared.files.Files.TheInside.{Inside}
use Rattle.fd_tables.specs.Files.{Pipe}
use Rattle.fd_tables.specs.Pipes.{pipe_id}
use Rattle.fd_tables.specs.Spare.{SpareFiles, spare_places}

abbrev pub kept : Inside → SpareFiles
kept s = record {
  open_files = record {
    stdin = drop s.taken s.stdin.items;
    files = s.files.items;
    tables = s.tables.items;
    pipes = s.pipes.items;
    next_pipe = s.made + 1;
    changed = s.changed.items;
  };
  spare = spare_places s.files;
  spare_tables = spare_places s.tables;
}

-- those that aren't among these numbers
abbrev pub unmarked : List ℕ → List Pipe → ℕ
unmarked numbers pipes = count_by (λ p. not (list_any (λ x. x == p.id) numbers)) pipes

-- they rise along the list, from this one on
abbrev pub Rises : ℕ → List ℕ → Type 0
Rises least [] = Unit {0}
Rises least (x ∷ xs) = (least ≤ x) × Rises (x + 1) xs

pub record IsRight (s : Inside) : Type 0 where
  pub input : s.taken ≤ vec_len s.stdin
  pub numbers : Falls pipe_id (s.made + 1) s.pipes.items
  pub ascending : Rises 0 s.changed.items
  -- each pipe can be marked
  pub marks : length s.changed.items + unmarked s.changed.items s.pipes.items ≤ vec_capacity s.changed
