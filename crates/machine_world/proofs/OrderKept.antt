-- Counts are exact and the nodes a tree of names after every event, turn and run.
use Rattle.std.proofs.Common.{◌≡◌, ℕ, ◌+◌, ◌<◌, ◌≤◌, ◌^◌, true, List, [], ◌∷◌, map, length, refl, subst, ◌∙◌, arith}
use Rattle.std.proofs.lemmas.Bool.Decides.{nat_tests}
use Rattle.std.proofs.lemmas.List.Sums.{sum_by-cons}
use Rattle.mmap_rules.specs.Space.{Space}
use Rattle.call_log.specs.Notes.{CallEntry, Note, call_note, most_calls, calls_in, has_room}
use Rattle.fd_tables.specs.Changes.{with_copy, exec_closed, without_table}
use Rattle.fd_tables.proofs.ManyClosed.{counted-exec_closed, counted-without_table}
use Rattle.fd_tables.proofs.TablesCounted.{counted-with_copy}
use Rattle.fd_tables.proofs.PipesCounted.{counted-none_changed}
use Rattle.machine_world.specs.World.{Process, Rest, World}
use Rattle.machine_world.specs.Asks.{Ask, with_files, storage_of, with_storage}
use Rattle.machine_world.specs.Rows.{row}
use Rattle.machine_world.specs.Event.{ask_of, entry_of, ended, awake, event}
use Rattle.machine_world.specs.Ages.{kept_calls}
use Rattle.machine_world.specs.Order.{most_tables, IsInOrder, EventsKeepOrder, TurnsKeepOrder, RunsKeepOrder}
use Rattle.machine_world.proofs.EachChange.{Answers}
use Rattle.machine_world.proofs.ByRows.{by_rows}
use Rattle.machine_world.proofs.ByEvents.{Answered, Happened, Keeps, by_event, by_turn, by_turns}
use Rattle.machine_world.proofs.FreeNumbers.{free_within}
use Rattle.machine_world.proofs.Steady.{steady-exec_closed, steady-without_table, length-with_copy}
use Rattle.machine_world.proofs.InOrder.{IsOrderly, steady, rows_keep_order}

-- ---- tables come and go

module _ (most : ℕ) (rest : Rest) (h : IsOrderly most rest) where
  orderly_departed : (t : ℕ) → IsOrderly most (with_storage rest (without_table (storage_of rest) t))
  orderly_departed t =
      let still = steady-without_table (length rest.files.tables) (storage_of rest) t (steady most rest h) in
      record { tree = still.tree; counts = counted-without_table (storage_of rest) t h.counts; tables = omega (arith, still.tables, h.tables) }

  orderly_exec : (t : ℕ) → IsOrderly most (with_storage rest (exec_closed (storage_of rest) t))
  orderly_exec t =
      let still = steady-exec_closed (length rest.files.tables) (storage_of rest) t (steady most rest h) in
      record { tree = still.tree; counts = counted-exec_closed (storage_of rest) t h.counts; tables = omega (arith, still.tables, h.tables) }

  orderly_copy : most < 2 ^ 32 → (t : ℕ) → IsOrderly (most + 1) (with_files rest (with_copy rest.files t))
  orderly_copy small t = record {
    tree = h.tree;
    counts = counted-with_copy (storage_of rest) t h.counts (omega (arith, free_within rest.files.tables, h.tables, small));
    tables = omega (arith, length-with_copy rest.files t, h.tables);
  }

-- ---- calls that are noted

pub room_calls : (notes : List Note) (b : ℕ) → has_room notes b ≡ true → kept_calls notes + 1 ≤ most_calls
unfolding has_room
room_calls notes b h = grind (arith, nat_tests)

pub noted_call : (e : CallEntry) (notes : List Note) → kept_calls (call_note e ∷ notes) ≡ kept_calls notes + 1
noted_call e notes = let more = sum_by-cons (λ n. n) 1 (map calls_in notes) in omega (arith, more)

-- ---- an event

-- where those go on who wait on pipes
pub order_awake : (w : World) → IsInOrder w → IsInOrder (awake w)
order_awake w h = record { tree = h.tree; counts = counted-none_changed (storage_of w.rest) h.counts; tables = h.tables; calls = h.calls }

-- a world by what is outside of its spaces, and by its kept calls
of_rest : (w : World) (most kept : ℕ) → kept_calls w.notes ≡ kept → most ≤ most_tables + kept → kept ≤ most_calls → IsOrderly most w.rest → IsInOrder w
of_rest w most kept is few calls h = record { tree = h.tree; counts = h.counts; tables = omega (arith, is, h.tables, few); calls = omega (arith, is, calls) }

module _ (w : World) (h : IsInOrder w) where
  abbrev pub many : ℕ
  many = most_tables + kept_calls w.notes

  pub orderly : IsOrderly many w.rest
  orderly = record { tree = h.tree; counts = h.counts; tables = h.tables }

  small : many < 2 ^ 27
  small = omega (arith, h.calls)

  -- behind a call that is noted
  module _ (b : ℕ) (room : has_room w.notes b ≡ true) (e : CallEntry) (now : World) (is : kept_calls now.notes ≡ kept_calls (call_note e ∷ w.notes)) where
    of_call : (most : ℕ) → most ≤ many + 1 → IsOrderly most now.rest → IsInOrder now
    of_call most few order =
        of_rest now most (kept_calls w.notes + 1) (is ∙ noted_call e w.notes) (omega (arith, few)) (room_calls w.notes b room) order

  call_order : (a : Ask) → Answered (λ now t. IsInOrder now) (IsOrderly many) w a
  unfolding ended
  call_order a = record {
    reply = λ ended r m order room. of_call _ room (entry_of a r.value r.got) _ refl many (omega arith) order;
    wait = λ state. of_rest _ many (kept_calls w.notes) refl (omega arith) h.calls orderly;
    exit = λ room. of_call _ room (entry_of a 0 []) _ refl many (omega arith) (orderly_departed many w.rest orderly a.process.table);
    fork = λ few room.
        of_call _ room (entry_of a w.next_pid []) _ refl (many + 1) (omega arith)
        (orderly_copy many w.rest orderly (omega (arith, small)) a.process.table);
    load = λ f s page is fits room. of_call _ room (entry_of a 0 []) _ refl many (omega arith) (orderly_exec many w.rest orderly a.process.table);
  }

  pub act_order : (p : Process) (s : Space) → Happened (λ now t. IsInOrder now) (IsOrderly many) w p s
  unfolding ended
  act_order p s = record {
    step = λ regs bytes. of_rest _ many (kept_calls w.notes) refl (omega arith) h.calls orderly;
    trap = λ signal. of_rest _ many (kept_calls w.notes) refl (omega arith) h.calls (orderly_departed many w.rest orderly p.table);
    calls = λ bytes. call_order (ask_of w p s bytes);
  }

  pub rows_orderly : (p : Process) (s : Space) (bytes : List ℕ) → Answers (IsOrderly many) (row (ask_of w p s bytes))
  rows_orderly p s bytes = by_rows (IsOrderly many) (ask_of w p s bytes) (rows_keep_order (ask_of w p s bytes) many small orderly) orderly

  event_order : (pid : ℕ) → Keeps IsInOrder (event w pid)
  event_order pid = by_event (λ now t. IsInOrder now) (IsOrderly many) (λ now t order. order_awake now order) w orderly pid (λ p s lives has. act_order p s.space) rows_orderly

pub events_keep_order : EventsKeepOrder
events_keep_order w pid now t h is = subst (Keeps IsInOrder) is (event_order w h pid)

-- ---- turns

pub turns_keep_order : TurnsKeepOrder
turns_keep_order count pid w h =
    by_turn IsInOrder (λ v own order. event_order v order own) (λ v own access order. record { tree = order.tree; counts = order.counts; tables = order.tables; calls = order.calls }) count pid w h

pub runs_keep_order : RunsKeepOrder
runs_keep_order quanta w h =
    by_turns IsInOrder (λ v own order. event_order v order own) (λ v own access order. record { tree = order.tree; counts = order.counts; tables = order.tables; calls = order.calls }) quanta w h
