-- By the changes, one after the other.
use Rattle.fd_tables.proofs.CountsMean.{stays_while_shared, stays_while_open, unnamed_while_open, ends_stay_while_open, counted-nothing_open}
use Rattle.fd_tables.proofs.Counting.{counted-closed, counted-duplicated, counted-replaced, counted-opened}
use Rattle.fd_tables.proofs.TablesCounted.{counted-with_table, counted-with_copy}
use Rattle.fd_tables.proofs.ManyClosed.{counted-exec_closed, counted-without_table}
use Rattle.fd_tables.proofs.PositionsCounted.{counted-moved, counted-taken}
use Rattle.fd_tables.proofs.PipesCounted.{counted-piped, pipes_keep_counts}
use Rattle.fd_tables.proofs.MarksExact.{marks_are_exact}
use Rattle.fd_tables.proofs.TreeCounted.{tree_keeps_counts}
use Rattle.fd_tables.proofs.laws.counts_law.Goals as goal

pub returns-clause-shared : goal.returns-clause-shared
returns-clause-shared c = stays_while_shared

pub returns-clause-held : goal.returns-clause-held
returns-clause-held c = stays_while_open

pub returns-clause-unnamed : goal.returns-clause-unnamed
returns-clause-unnamed c = unnamed_while_open

pub returns-clause-begins : goal.returns-clause-begins
returns-clause-begins c = counted-nothing_open

pub returns-clause-ends : goal.returns-clause-ends
returns-clause-ends c = ends_stay_while_open

pub returns-clause-marks : goal.returns-clause-marks
returns-clause-marks c = marks_are_exact

pub returns-clause-keeps : goal.returns-clause-keeps
returns-clause-keeps c = record {
  opens = counted-opened;
  pipes = counted-piped;
  moves_bytes = pipes_keep_counts;
  closes = counted-closed;
  duplicates = counted-duplicated;
  replaces = counted-replaced;
  moves = counted-moved;
  takes = counted-taken;
  makes_table = counted-with_table;
  copies_table = counted-with_copy;
  closes_at_exec = counted-exec_closed;
  drops_table = counted-without_table;
  tree_changes = tree_keeps_counts;
}
