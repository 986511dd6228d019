-- The descriptors so far.
use Rattle.std.proofs.Common.{◌≡◌, take}
use Rattle.fd_tables.specs.Spare.{KeepsSpare}
use Rattle.fd_tables.specs.Changes.{all_shared}
use Rattle.fd_tables.proofs.files.Files.share_all.Given as goal

abbrev pub invariant-loop-place : goal.invariant-loop-place
invariant-loop-place l = record {
  files : l.self.open_files ≡ all_shared l.fn.self.open_files (take l.place-index l.table);
  spare : KeepsSpare l.fn.self l.self;
}
