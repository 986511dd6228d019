-- The descriptors so far.
use Rattle.std.proofs.Common.{◌≡◌}
use Rattle.std.specs.Prelude.{◌||◌}
use Rattle.std.specs.List.{range_with_len}
use Rattle.fd_tables.specs.Spare.{KeepsSpare}
use Rattle.fd_tables.specs.Changes.{storage, all_closed}
use Rattle.fd_tables.proofs.files.Files.close_all.Given as goal

abbrev pub invariant-loop-fd : goal.invariant-loop-fd
invariant-loop-fd l = record {
  storage : storage l.tree l.self.open_files ≡ all_closed (λ d. l.all || d.cloexec) (storage l.fn.tree l.fn.self.open_files) l.table (range_with_len 0 l.fd);
  spare : KeepsSpare l.fn.self l.self;
}
