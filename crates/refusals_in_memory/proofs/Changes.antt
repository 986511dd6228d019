-- Pids are few and given once, what is open is counted exactly, and memory has as many pages at most, behind each change that an event makes.
use Rattle.std.proofs.Common.{◌≡◌, ℕ, ◌+◌, ◌<◌, ◌≤◌, ◌^◌, true, List, [], ◌∷◌, refl, arith}
use Rattle.mmap_rules.specs.Space.{Space}
use Rattle.call_log.specs.Notes.{CallEntry, call_note, has_room}
use Rattle.vfork_exec.specs.Keyed.{Falls}
use Rattle.vfork_exec.proofs.Keyed.{falls_change}
use Rattle.flat_loader.specs.Alone.{most_pages}
use Rattle.machine_world.specs.World.{Process, Rest, World, pid_of}
use Rattle.machine_world.specs.Asks.{Ask, Row, replies, waits, storage_of}
use Rattle.machine_world.specs.Rows.{row}
use Rattle.machine_world.specs.Event.{ask_of, entry_of, ended, awake}
use Rattle.machine_world.specs.Ages.{kept_calls}
use Rattle.machine_world.specs.Order.{most_tables, IsCounted}
use Rattle.machine_world.proofs.EachChange.{Answers, kept_outside}
use Rattle.machine_world.proofs.ByRows.{by_rows}
use Rattle.machine_world.proofs.ByEvents.{Answered, Happened}
use Rattle.machine_world.proofs.Counted.{HasCounted, behind-exec_closed, behind-without_table}
use Rattle.machine_world.proofs.CountedKept.{rows_keep_counted, counted_copy, counted_awake}
use Rattle.machine_world.proofs.OrderKept.{room_calls, noted_call}
use Rattle.machine_world.proofs.Awake.{falls_roused}
use Rattle.machine_world.proofs.Chains.{falls_left, falls_forked, falls_exec}
use Rattle.alone_laws.specs.Sound.{most_given}

pub record IsTidy (w : World) : Type 0 where
  pub most : w.rest.pages ≤ most_pages
  pub pids : Falls pid_of w.next_pid w.procs
  pub given : w.next_pid ≤ most_given + kept_calls w.notes
  pub counted : IsCounted w

-- ---- rows

both : (P Q : Rest → Type 0) (x : Row) → Answers P x → Answers Q x → Answers (λ rest. P rest × Q rest) x
both P Q (replies r) p q = (p, q)
both P Q (waits state) p q = tt

-- ---- an event

pub tidy_awake : (w : World) → IsTidy w → IsTidy (awake w)
tidy_awake w h = record {
  most = h.most;
  pids = falls_roused w.rest.files.changed w.procs w.next_pid h.pids;
  given = h.given;
  counted = counted_awake w h.counted;
}

module _ (w : World) (h : IsTidy w) where
  abbrev many : ℕ
  many = most_tables + kept_calls w.notes

  -- what a row leaves outside of the space
  abbrev pub Outside : Rest → Type 0
  Outside rest = HasCounted many rest.files × (rest.pages ≤ most_pages)

  now_counted : HasCounted many w.rest.files
  now_counted = record { counted = h.counted.counted; tables = h.counted.tables }

  pub outside : Outside w.rest
  outside = (now_counted, h.most)

  small : many < 2 ^ 27
  small = omega (arith, h.counted.calls)

  pub rows_outside : (p : Process) (s : Space) (bytes : List ℕ) → Answers Outside (row (ask_of w p s bytes))
  rows_outside p s bytes =
      let a : Ask = ask_of w p s bytes in
      both (λ rest. HasCounted many rest.files) (λ rest. rest.pages ≤ most_pages) (row a) (by_rows (λ rest. HasCounted many rest.files) a (rows_keep_counted a many small now_counted) now_counted)
      (by_rows (λ rest. rest.pages ≤ most_pages) a (kept_outside (λ programs pages kind. pages ≤ most_pages) a h.most) h.most)

  -- behind a call that is noted
  module _ (b : ℕ) (room : has_room w.notes b ≡ true) (e : CallEntry) (now : World) (is : kept_calls now.notes ≡ kept_calls (call_note e ∷ w.notes)) where
    of_call : (most : ℕ) → most ≤ many + 1 → HasCounted most now.rest.files → now.rest.pages ≤ most_pages → Falls pid_of now.next_pid now.procs → now.next_pid ≤ w.next_pid + 1 → IsTidy now
    of_call most few counted pages pids next = record {
      most = pages;
      pids = pids;
      given = omega (arith, is, noted_call e w.notes, h.given, next);
      counted = record {
        counted = counted.counted;
        tables = omega (arith, is, noted_call e w.notes, counted.tables, few);
        calls = omega (arith, is, noted_call e w.notes, room_calls w.notes b room);
      };
    }

  -- and behind none
  module _ (now : World) (is : kept_calls now.notes ≡ kept_calls w.notes) where
    of_none : HasCounted many now.rest.files → now.rest.pages ≤ most_pages → Falls pid_of now.next_pid now.procs → now.next_pid ≡ w.next_pid → IsTidy now
    of_none counted pages pids next = record {
      most = pages;
      pids = pids;
      given = omega (arith, is, h.given, next);
      counted = record { counted = counted.counted; tables = omega (arith, is, counted.tables); calls = omega (arith, is, h.counted.calls) };
    }

  pub call_tidy : (a : Ask) → Answered (λ now t. IsTidy now) Outside w a
  unfolding ended
  call_tidy a = record {
    reply = λ ended r m left room.
        of_call _ room (entry_of a r.value r.got) _ refl many (omega arith) left.0 left.1 (falls_change pid_of a.process.pid _ (λ q. refl) w.next_pid w.procs h.pids) (omega arith);
    wait = λ state. of_none _ refl now_counted h.most (falls_change pid_of a.process.pid _ (λ q. refl) w.next_pid w.procs h.pids) refl;
    exit = λ room.
        of_call _ room (entry_of a 0 []) _ refl many (omega arith) (behind-without_table many a.process.table (storage_of w.rest) now_counted) h.most (falls_left w.procs a.process w.next_pid h.pids) (omega arith);
    fork = λ few room.
        of_call _ room (entry_of a w.next_pid []) _ refl (many + 1) (omega arith)
        (counted_copy many w.rest.files (omega (arith, small)) now_counted a.process.table) h.most (falls_forked w a h.pids) (omega arith);
    load = λ f s page is fits room.
        of_call _ room (entry_of a 0 []) _ refl many (omega arith) (behind-exec_closed many a.process.table (storage_of w.rest) now_counted) h.most (falls_exec w a.process _ w.next_pid h.pids) (omega arith);
  }

  pub act_tidy : (p : Process) (s : Space) → Happened (λ now t. IsTidy now) Outside w p s
  unfolding ended
  act_tidy p s = record {
    step = λ regs bytes. of_none _ refl now_counted h.most (falls_change pid_of p.pid _ (λ q. refl) w.next_pid w.procs h.pids) refl;
    trap = λ signal. of_none _ refl (behind-without_table many p.table (storage_of w.rest) now_counted) h.most (falls_left w.procs p w.next_pid h.pids) refl;
    calls = λ bytes. call_tidy (ask_of w p s bytes);
  }
