-- Counts are exact and the nodes a tree of names after every event, turn and run over one memory.
use Rattle.std.proofs.Common.{◌≡◌, ◌+◌, refl}
use Rattle.machine_world.specs.World.{Rest, World}
use Rattle.machine_world.specs.Ages.{kept_calls}
use Rattle.machine_world.specs.Order.{most_tables, IsInOrder}
use Rattle.machine_world.proofs.InOrder.{IsOrderly}
use Rattle.machine_world.proofs.OrderKept.{order_awake, orderly, act_order, rows_orderly}
use Rattle.memory_world.specs.Physical.{opening_in}
use Rattle.memory_world.specs.Order.{OpeningsKeepOrder, EventsKeepOrderIn, TurnsKeepOrderIn, RunsKeepOrderIn}
use Rattle.memory_world.proofs.ByTurnsIn.{by_turn_in, by_run_in}
use Rattle.memory_world.proofs.ByEventsIn.{Steady, by_event_in}

-- it is said of what is outside of the spaces, and of the calls that are noted
of_outside : (w now : World) → now.rest ≡ w.rest → kept_calls now.notes ≡ kept_calls w.notes → IsInOrder w → IsInOrder now
of_outside w now rest calls h = record { tree = rw rest h.tree; counts = rw rest h.counts; tables = rw rest (rw calls h.tables); calls = rw calls h.calls }

abbrev Orderly : World → Rest → Type 0
Orderly w = IsOrderly (most_tables + kept_calls w.notes)

steady : Steady IsInOrder Orderly
steady = record {
  wakes = order_awake;
  shows = λ memory now h. of_outside now _ refl refl h;
  strays = λ pid seen now h. of_outside now _ refl refl h;
  reaps = λ ended now h. of_outside now _ refl refl h;
  acts = λ w q s h. act_order w h q s;
  rests = orderly;
  rows = λ w q s bytes h. rows_orderly w h q s bytes;
}

pub openings_keep_order : OpeningsKeepOrder
unfolding opening_in
openings_keep_order headers w h = of_outside w _ refl refl h

pub events_keep_order_in : EventsKeepOrderIn
events_keep_order_in = by_event_in IsInOrder Orderly steady

pub turns_keep_order_in : TurnsKeepOrderIn
turns_keep_order_in = by_turn_in (λ p. IsInOrder p.world) events_keep_order_in

pub runs_keep_order_in : RunsKeepOrderIn
runs_keep_order_in = by_run_in (λ p. IsInOrder p.world) events_keep_order_in
