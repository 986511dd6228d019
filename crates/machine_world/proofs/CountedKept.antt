-- What is open is counted exactly after every event, turn and run, whatever the tree.
use Rattle.std.proofs.Common.{◌≡◌, ℕ, ◌+◌, ◌<◌, ◌≤◌, ◌^◌, List, [], length, Option, Some, refl, ap, subst, arith}
use Rattle.std.specs.Prelude.{◌==◌, false}
use Rattle.mem_files.specs.Inodes.{Inodes}
use Rattle.fd_tables.specs.Files.{Table, OpenFiles}
use Rattle.fd_tables.specs.Changes.{Storage, storage, opened, duplicated, taken, piped, with_copy}
use Rattle.fd_tables.specs.Pipes.{pipe_bytes, pipe_taken, pipe_put, none_changed}
use Rattle.fd_tables.proofs.Counting.{counted-duplicated}
use Rattle.fd_tables.proofs.PositionsCounted.{counted-moved, counted-taken}
use Rattle.fd_tables.proofs.PipesCounted.{counted-piped, counted-pipe_taken, counted-pipe_put, counted-none_changed}
use Rattle.fd_tables.proofs.TablesCounted.{counted-with_copy}
use Rattle.fd_tables.specs.Counts.{Counted}
use Rattle.mmap_rules.specs.Space.{Space}
use Rattle.machine_world.specs.World.{Process, World}
use Rattle.machine_world.specs.Asks.{Ask, arg, view_of, free_of, storage_of}
use Rattle.machine_world.specs.Descriptors.{table_of, close_on_exec}
use Rattle.machine_world.specs.PathCalls.{way_of, emptied}
use Rattle.machine_world.specs.Transfers.{moved_bytes, write_position}
use Rattle.machine_world.specs.Ages.{kept_calls}
use Rattle.machine_world.specs.Order.{most_tables, IsCounted, EventsKeepCounted, TurnsKeepCounted, RunsKeepCounted}
use Rattle.machine_world.specs.Event.{ask_of, entry_of, ended, awake, event}
use Rattle.machine_world.proofs.ByEvents.{Answered, Happened, Keeps, by_event, by_turn, by_turns}
use Rattle.machine_world.proofs.ByRows.{by_rows}
use Rattle.machine_world.proofs.Counted.{HasCounted, are_counted, behind-closed, behind-replaced, behind-exec_closed, behind-without_table, behind-opened}
use Rattle.machine_world.proofs.FewOpen.{free_below, two_below}
use Rattle.machine_world.proofs.FreeNumbers.{free_within}
use Rattle.machine_world.proofs.InOrder.{free_is, lowest_place, new_low}
use Rattle.machine_world.proofs.EachChange.{EachChange, moves, opened_as, fitting}
use Rattle.machine_world.proofs.OrderKept.{room_calls, noted_call}
use Rattle.machine_world.proofs.Steady.{steady-opened, length-moved, length-taken, length-duplicated, length-piped, length-pipe_taken, length-pipe_put, length-with_copy}
use Rattle.call_log.specs.Notes.{most_calls}
use Rattle.mem_files.specs.Inodes.{opening}
use Rattle.mem_files.proofs.TreesKept.{changes_keep_tree}

-- ---- rows

module _ (a : Ask) (most : ℕ) (small : most < 2 ^ 27) (h : HasCounted most a.rest.files) where
  abbrev t : ℕ
  t = table_of a

  abbrev over : Storage
  over = storage h.counted.nodes a.rest.files

  counts : Counted over
  counts = h.counted.counts

  by_files : (files : OpenFiles) → length files.tables ≡ length a.rest.files.tables → Counted (storage h.counted.nodes files) → HasCounted most files
  by_files files same exact = record { counted = are_counted h.counted.nodes files exact; tables = omega (arith, same, h.tables) }

  by_move : (at : ℕ) → HasCounted most (moves a at)
  by_move at = by_files (moves a at) (length-moved a.rest.files t (arg a 0) at) (counted-moved over t (arg a 0) at counts)

  opened_tables : (fd node : ℕ) (nodes : Inodes) → (opened_as a fd node nodes).files.tables ≡ (opened (storage opening a.rest.files) t fd node (way_of (arg a 2))).files.tables
  unfolding opened
  opened_tables fd node nodes = refl

  by_open : (fd node : ℕ) (nodes : Inodes) → free_of a ≡ Some fd → HasCounted most (opened_as a fd node nodes).files
  by_open fd node nodes free =
      let still = steady-opened (length a.rest.files.tables) (storage opening a.rest.files) t fd node (way_of (arg a 2)) (record { tree = changes_keep_tree.begins; tables = refl }) in
      record {
        counted = behind-opened nodes a.rest.files t fd node (way_of (arg a 2)) h.counted free (free_below over counts (omega (arith, h.tables, small)));
        tables = omega (arith, still.tables, ap (λ (ts : List (Option Table)). length ts) (opened_tables fd node nodes), h.tables);
      }

  pub rows_keep_counted : EachChange (λ rest. HasCounted most rest.files) a
  rows_keep_counted = record {
    dup = λ free is.
        let place = lowest_place a.rest.files t free (counts.whole t) (free_is (view_of a (arg a 0)) (free_of a) free is) in
        by_files (duplicated a.rest.files t (arg a 0) free false) (length-duplicated a.rest.files t (arg a 0) free false)
        (counted-duplicated over t (arg a 0) free false counts place.0 place.1);
    dup3 = λ none. behind-replaced most t (storage_of a.rest) (arg a 0) (arg a 1) (arg a 2 == close_on_exec) (new_low (view_of a (arg a 0)) (arg a 0) (arg a 1) none) h;
    close = λ none. behind-closed most t (storage_of a.rest) (arg a 0) h;
    seek = λ v node at shows is. by_move at;
    list = λ v node shows is. by_move _;
    read = λ v node spans shows reads is. by_move _;
    take = λ v spans shows reads.
        let n : ℕ = length (moved_bytes spans a.rest.files.stdin) in
        by_files (taken a.rest.files n) (length-taken a.rest.files n) (counted-taken over n counts);
    write = λ v node bytes nodes shows may some is. by_move (write_position a v node + length bytes);
    print = λ v bytes shows may. h;
    pipe = λ ends free.
        by_files (piped a.rest.files t ends (arg a 1 == close_on_exec)) (length-piped a.rest.files t ends (arg a 1 == close_on_exec))
        (counted-piped over t ends (arg a 1 == close_on_exec) counts free (two_below over counts (omega (arith, h.tables, small))));
    drain = λ v id end spans shows reads.
        let n : ℕ = length (moved_bytes spans (pipe_bytes a.rest.files id)) in
        by_files (pipe_taken a.rest.files id n) (length-pipe_taken a.rest.files id n) (counted-pipe_taken over id n counts);
    fill = λ v id end bytes shows may.
        by_files (pipe_put a.rest.files id (fitting a id bytes)) (length-pipe_put a.rest.files id (fitting a id bytes)) (counted-pipe_put over id (fitting a id bytes) counts);
    make = λ nodes is. h;
    remove = λ nodes is. h;
    open_old = λ fd node free found none. by_open fd node (emptied a.rest.tree node (arg a 2)) free;
    open_new = λ fd nodes free found may made. by_open fd (length a.rest.tree) nodes free;
  }

-- ---- a table more

pub counted_copy : (most : ℕ) (fs : OpenFiles) → most < 2 ^ 32 → HasCounted most fs → (t : ℕ) → HasCounted (most + 1) (with_copy fs t)
counted_copy most fs small h t = record {
  counted = are_counted h.counted.nodes (with_copy fs t) (counted-with_copy (storage h.counted.nodes fs) t h.counted.counts (omega (arith, free_within fs.tables, h.tables, small)));
  tables = omega (arith, length-with_copy fs t, h.tables);
}

-- ---- an event

pub counted_awake : (w : World) → IsCounted w → IsCounted (awake w)
counted_awake w h = record {
  counted = are_counted h.counted.nodes (none_changed w.rest.files) (counted-none_changed (storage h.counted.nodes w.rest.files) h.counted.counts);
  tables = h.tables;
  calls = h.calls;
}

of_files : (w : World) (most kept : ℕ) → kept_calls w.notes ≡ kept → most ≤ most_tables + kept → kept ≤ most_calls → HasCounted most w.rest.files → IsCounted w
of_files w most kept is few calls h = record { counted = h.counted; tables = omega (arith, is, h.tables, few); calls = omega (arith, is, calls) }

module _ (w : World) (h : IsCounted w) where
  abbrev many : ℕ
  many = most_tables + kept_calls w.notes

  now_counted : HasCounted many w.rest.files
  now_counted = record { counted = h.counted; tables = h.tables }

  small : many < 2 ^ 27
  small = omega (arith, h.calls)

  -- behind a call that is noted
  call_counted : (a : Ask) → Answered (λ now t. IsCounted now) (λ rest. HasCounted many rest.files) w a
  unfolding ended
  call_counted a = record {
    reply = λ ended r m counted room. of_files _ many (kept_calls w.notes + 1) (noted_call (entry_of a r.value r.got) w.notes) (omega arith) (room_calls w.notes _ room) counted;
    wait = λ state. of_files _ many (kept_calls w.notes) refl (omega arith) h.calls now_counted;
    exit = λ room. of_files _ many (kept_calls w.notes + 1) (noted_call (entry_of a 0 []) w.notes) (omega arith) (room_calls w.notes _ room) (behind-without_table many a.process.table (storage_of w.rest) now_counted);
    fork = λ few room.
        of_files _ (many + 1) (kept_calls w.notes + 1) (noted_call (entry_of a w.next_pid []) w.notes) (omega arith) (room_calls w.notes _ room)
        (counted_copy many w.rest.files (omega (arith, small)) now_counted a.process.table);
    load = λ f s page is fits room. of_files _ many (kept_calls w.notes + 1) (noted_call (entry_of a 0 []) w.notes) (omega arith) (room_calls w.notes _ room) (behind-exec_closed many a.process.table (storage_of w.rest) now_counted);
  }

  act_counted : (p : Process) (s : Space) → Happened (λ now t. IsCounted now) (λ rest. HasCounted many rest.files) w p s
  unfolding ended
  act_counted p s = record {
    step = λ regs bytes. of_files _ many (kept_calls w.notes) refl (omega arith) h.calls now_counted;
    trap = λ signal. of_files _ many (kept_calls w.notes) refl (omega arith) h.calls (behind-without_table many p.table (storage_of w.rest) now_counted);
    calls = λ bytes. call_counted (ask_of w p s bytes);
  }

  event_counted : (pid : ℕ) → Keeps IsCounted (event w pid)
  event_counted pid =
      by_event (λ now t. IsCounted now) (λ rest. HasCounted many rest.files) (λ now t counted. counted_awake now counted) w now_counted pid (λ p s lives has. act_counted p s.space)
      (λ p s bytes. by_rows (λ rest. HasCounted many rest.files) (ask_of w p s bytes) (rows_keep_counted (ask_of w p s bytes) many small now_counted) now_counted)

pub events_keep_counted : EventsKeepCounted
events_keep_counted w pid now t h is = subst (Keeps IsCounted) is (event_counted w h pid)

-- ---- turns

pub turns_keep_counted : TurnsKeepCounted
turns_keep_counted count pid w h =
    by_turn IsCounted (λ v own counted. event_counted v counted own) (λ v own access counted. record { counted = counted.counted; tables = counted.tables; calls = counted.calls }) count pid w h

pub runs_keep_counted : RunsKeepCounted
runs_keep_counted quanta w h =
    by_turns IsCounted (λ v own counted. event_counted v counted own) (λ v own access counted. record { counted = counted.counted; tables = counted.tables; calls = counted.calls }) quanta w h
