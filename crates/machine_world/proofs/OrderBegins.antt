-- The opening world has exact counts over a tree of names.
use Rattle.std.proofs.Common.{◌≡◌, ℕ, ◌+◌, ◌<◌, ◌≤◌, Bool, true, false, List, [], ◌∷◌, length, Option, Some, None, Result, Ok, Err, refl, sym, ap, subst, arith}
use Rattle.flat_loader.specs.Original.{block_pages}
use Rattle.flat_loader.specs.Frame.{frame_fits}
use Rattle.fd_tables.specs.Files.{OpenFiles}
use Rattle.fd_tables.specs.Changes.{storage, first_table, with_table}
use Rattle.fd_tables.specs.Counts.{Counted}
use Rattle.fd_tables.proofs.CountsMean.{counted-nothing_open}
use Rattle.fd_tables.proofs.TablesCounted.{counted-with_table}
use Rattle.machine_world.specs.World.{Rest, World}
use Rattle.machine_world.specs.Free.{free}
use Rattle.machine_world.specs.Asks.{with_files, storage_of}
use Rattle.machine_world.specs.Boot.{StartLine, BootFault, Found, found, start_path, taken, placed, fitting, located, started, all_started, then_started, empty_world, boot}
use Rattle.machine_world.proofs.FreeNumbers.{free_within, length-one_more}
use Rattle.machine_world.specs.Ages.{kept_calls}
use Rattle.machine_world.specs.Order.{most_tables, IsFresh, BootsBeginInOrder}
use Rattle.machine_world.proofs.InOrder.{IsOrderly}

-- ---- a table more

with_more : (rest : Rest) (n : ℕ) → n < most_tables → IsOrderly n rest → IsOrderly (n + 1) (with_files rest (with_table rest.files))
unfolding with_table
with_more rest n room h = record {
  tree = h.tree;
  counts = counted rest h room;
  tables = omega (arith, length-one_more first_table rest.files.tables, h.tables);
}
  where
    counted : (rest : Rest) → IsOrderly n rest → n < most_tables → Counted (storage rest.tree (with_table rest.files))
    counted rest h room = counted-with_table (storage_of rest) h.counts (omega (arith, free_within rest.files.tables, h.tables, room))

-- ---- the start lines

-- what a start line gives is in order, with one table more at most, and no call is noted
abbrev Begins : ℕ → Result World BootFault → Type 0
Begins n (Ok now) = IsOrderly n now.rest × (kept_calls now.notes ≡ 0)
Begins n (Err fault) = Unit {0}

module _ (w : World) (n : ℕ) (h : IsOrderly n w.rest) (none : kept_calls w.notes ≡ 0) (room : n < most_tables) (s : StartLine) where
  begins_placed : (f : Found) (page : Option ℕ) → Begins (n + 1) (placed w s f page)
  begins_placed f None = tt
  begins_placed f (Some page) = (with_more w.rest n room h, none)

  begins_fitting : (f : Found) (fits : Bool) → Begins (n + 1) (fitting w s f fits)
  begins_fitting f true = begins_placed f (taken w (block_pages f.original) (free w))
  begins_fitting f false = tt

  begins_located : (found : Option Found) → Begins (n + 1) (located w s found)
  begins_located None = tt
  begins_located (Some f) = begins_fitting f (frame_fits f.original s.args [])

  begins_started : Begins (n + 1) (started w s)
  unfolding started
  begins_started = begins_located (found w.rest (start_path s))

begins_all : (ss : List StartLine) (w : World) (n : ℕ) → IsOrderly n w.rest → kept_calls w.notes ≡ 0 → n + length ss ≤ most_tables → Begins most_tables (all_started w ss)
unfolding all_started
begins_all [] w n h none room = (record { tree = h.tree; counts = h.counts; tables = omega (arith, h.tables, room) }, none)
begins_all (s ∷ ss) w n h none room =
    on (started w s) (begins_started w n h none (omega (arith, room)) s) (λ v order quiet. begins_all ss v (n + 1) order quiet (omega (arith, room)))
  where
    on : (r : Result World BootFault) → Begins (n + 1) r → ((v : World) → IsOrderly (n + 1) v.rest → kept_calls v.notes ≡ 0 → Begins most_tables (all_started v ss))
        → Begins most_tables (then_started r (λ now. all_started now ss))
    on (Ok now) begins more = more now begins.0 begins.1
    on (Err fault) begins more = tt

fresh : (rest : Rest) → IsFresh rest → IsOrderly 0 rest
fresh rest f = record {
  tree = f.tree;
  counts = subst (λ (fs : OpenFiles). Counted (storage rest.tree fs)) (sym f.files) (counted-nothing_open rest.tree rest.files.stdin f.closed);
  tables = omega (arith, ap (λ (fs : OpenFiles). length fs.tables) f.files);
}

pub boots_begin_in_order : BootsBeginInOrder
unfolding boot
boots_begin_in_order rest starts w f room is =
    let begins = subst (Begins most_tables) is (begins_all starts (empty_world rest) 0 (fresh rest f) refl (omega (arith, room))) in
    record { tree = begins.0.tree; counts = begins.0.counts; tables = omega (arith, begins.0.tables); calls = omega (arith, begins.1) }
