-- In the opening world what is open is counted exactly.
use Rattle.std.proofs.Common.{◌≡◌, ℕ, ◌+◌, ◌<◌, ◌≤◌, Bool, true, false, List, [], ◌∷◌, length, Option, Some, None, Result, Ok, Err, refl, sym, ap, subst, arith}
use Rattle.flat_loader.specs.Original.{block_pages}
use Rattle.flat_loader.specs.Frame.{frame_fits}
use Rattle.fd_tables.specs.Files.{OpenFiles, nothing_open}
use Rattle.fd_tables.specs.Changes.{storage, first_table, with_table}
use Rattle.fd_tables.proofs.CountsMean.{counted-nothing_open}
use Rattle.fd_tables.proofs.TablesCounted.{counted-with_table}
use Rattle.machine_world.specs.World.{World}
use Rattle.machine_world.specs.Free.{free}
use Rattle.machine_world.specs.Boot.{StartLine, BootFault, Found, found, start_path, taken, placed, fitting, located, started, all_started, then_started, empty_world, boot}
use Rattle.machine_world.specs.Ages.{kept_calls}
use Rattle.machine_world.specs.Order.{most_tables, AreCounted, BootsBeginCounted}
use Rattle.machine_world.proofs.FreeNumbers.{free_within, length-one_more}
use Rattle.machine_world.proofs.Counted.{HasCounted, are_counted}

-- ---- a table more

tables_more : (fs : OpenFiles) → length (with_table fs).tables ≤ length fs.tables + 1
unfolding with_table
tables_more fs = length-one_more first_table fs.tables

with_more : (fs : OpenFiles) (n : ℕ) → n < most_tables → HasCounted n fs → HasCounted (n + 1) (with_table fs)
with_more fs n room h = record {
  counted = are_counted h.counted.nodes (with_table fs) (counted-with_table (storage h.counted.nodes fs) h.counted.counts (omega (arith, free_within fs.tables, h.tables, room)));
  tables = omega (arith, tables_more fs, h.tables);
}

-- ---- the start lines

-- each gives one table more at most, and no call is noted
abbrev Begins : ℕ → Result World BootFault → Type 0
Begins n (Ok now) = HasCounted n now.rest.files × (kept_calls now.notes ≡ 0)
Begins n (Err fault) = Unit {0}

module _ (w : World) (n : ℕ) (h : HasCounted n w.rest.files) (none : kept_calls w.notes ≡ 0) (room : n < most_tables) (s : StartLine) where
  begins_placed : (f : Found) (page : Option ℕ) → Begins (n + 1) (placed w s f page)
  begins_placed f None = tt
  begins_placed f (Some page) = (with_more w.rest.files n room h, none)

  begins_fitting : (f : Found) (fits : Bool) → Begins (n + 1) (fitting w s f fits)
  begins_fitting f true = begins_placed f (taken w (block_pages f.original) (free w))
  begins_fitting f false = tt

  begins_located : (found : Option Found) → Begins (n + 1) (located w s found)
  begins_located None = tt
  begins_located (Some f) = begins_fitting f (frame_fits f.original s.args [])

  begins_started : Begins (n + 1) (started w s)
  unfolding started
  begins_started = begins_located (found w.rest (start_path s))

begins_all : (ss : List StartLine) (w : World) (n : ℕ) → HasCounted n w.rest.files → kept_calls w.notes ≡ 0 → n + length ss ≤ most_tables → Begins most_tables (all_started w ss)
unfolding all_started
begins_all [] w n h none room = (record { counted = h.counted; tables = omega (arith, h.tables, room) }, none)
begins_all (s ∷ ss) w n h none room =
    on (started w s) (begins_started w n h none (omega (arith, room)) s) (λ v counted quiet. begins_all ss v (n + 1) counted quiet (omega (arith, room)))
  where
    on : (r : Result World BootFault) → Begins (n + 1) r → ((v : World) → HasCounted (n + 1) v.rest.files → kept_calls v.notes ≡ 0 → Begins most_tables (all_started v ss))
        → Begins most_tables (then_started r (λ now. all_started now ss))
    on (Ok now) begins more = more now begins.0 begins.1
    on (Err fault) begins more = tt

-- nothing is open over no nodes
nothing_counted : (fs : OpenFiles) → fs ≡ nothing_open fs.stdin → HasCounted 0 fs
nothing_counted fs is = record {
  counted = subst (λ (x : OpenFiles). AreCounted x) (sym is) (are_counted [] (nothing_open fs.stdin) (counted-nothing_open [] fs.stdin (λ id. tt)));
  tables = omega (arith, ap (λ (x : OpenFiles). length x.tables) is);
}

pub boots_begin_counted : BootsBeginCounted
unfolding boot
boots_begin_counted rest starts w closed room is =
    let begins = subst (Begins most_tables) is (begins_all starts (empty_world rest) 0 (nothing_counted rest.files closed) refl (omega (arith, room))) in
    record { counted = begins.0.counted; tables = omega (arith, begins.0.tables); calls = omega (arith, begins.1) }
