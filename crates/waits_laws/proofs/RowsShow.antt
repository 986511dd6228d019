-- What each row leaves of what the descriptors of other tables show of pipes.
use Rattle.std.proofs.Common.{◌≡◌, ℕ, ◌≤◌, List, length, take, Option, Some, None, refl, ap, arith}
use Rattle.std.proofs.Common.{length-take}
use Rattle.std.specs.Prelude.{is_some}
use Rattle.fd_tables.specs.Files.{Table, Pipe, OpenFiles, at_number}
use Rattle.fd_tables.proofs.TablesThere.{has_table, has-duplicated, has-replaced, has-closed, has-moved, has-taken, has-piped, has-opened}
use Rattle.machine_world.proofs.OtherTables.{tables-pipe_taken, tables-pipe_put}
use Rattle.fd_tables.specs.Pipes.{pipe_at, shown_pipe, held_in, pipe_view, pipe_bytes}
use Rattle.machine_world.specs.World.{Rest}
use Rattle.machine_world.specs.Asks.{Ask, storage_of}
use Rattle.machine_world.specs.Descriptors.{table_of}
use Rattle.machine_world.specs.Rows.{row}
use Rattle.machine_world.proofs.EachChange.{EachChange, Answers}
use Rattle.machine_world.proofs.ByRows.{by_rows}
use Rattle.machine_world.specs.Order.{AreCounted}
use Rattle.waits_laws.proofs.Shown.{Shows, shows_itself}
use Rattle.waits_laws.proofs.ShownBehind.{shows-duplicated, shows-replaced, shows-closed, shows-moved, shows-taken, shows-piped, shows-pipe_taken, shows-pipe_put, shows-opened}

-- and whether the caller has a table
abbrev pub ShowsAsIn : ℕ → OpenFiles → Rest → Type 0
ShowsAsIn t old now = Shows t old now.files × (has_table now.files t ≡ has_table old t)

held_is : (o : Option Pipe) → length (held_in o) ≡ (shown_pipe o).held
held_is (Some p) = refl
held_is None = refl

held_bytes : (fs : OpenFiles) (id : ℕ) → length (pipe_bytes fs id) ≡ (pipe_view fs id).held
unfolding pipe_bytes pipe_view
held_bytes fs id = held_is (pipe_at fs id)

front_fits : (fs : OpenFiles) (id n : ℕ) → length (take n (pipe_bytes fs id)) ≤ (pipe_view fs id).held
front_fits fs id n = omega (arith, length-take n (pipe_bytes fs id), held_bytes fs id)

module _ (a : Ask) (counts : AreCounted a.rest.files) where
  abbrev t : ℕ
  t = table_of a

  abbrev files : OpenFiles
  files = a.rest.files

  kept : EachChange (ShowsAsIn t files) a
  kept = record {
    dup = λ free is. (shows-duplicated t files _ _ _, has-duplicated t files t _ _ _);
    dup3 = λ is. (shows-replaced t (storage_of a.rest) _ _ _ counts, has-replaced t (storage_of a.rest) t _ _ _);
    close = λ is. (shows-closed t (storage_of a.rest) _ counts, has-closed t (storage_of a.rest) t _);
    seek = λ v node at shows is. (shows-moved t files _ at, has-moved t files t _ at);
    list = λ v node shows is. (shows-moved t files _ _, has-moved t files t _ _);
    read = λ v node spans shows reads is. (shows-moved t files _ _, has-moved t files t _ _);
    take = λ v spans shows reads. (shows-taken t files _, has-taken t files _);
    write = λ v node bytes nodes shows writes some is. (shows-moved t files _ _, has-moved t files t _ _);
    print = λ v bytes shows writes. (shows_itself t files, refl);
    pipe = λ ends free. (shows-piped t files ends _, has-piped t files t ends _);
    drain = λ v id end spans shows reads. (shows-pipe_taken t files id _ (front_fits files id _), ap (λ (ts : List (Option Table)). is_some (at_number ts t)) (tables-pipe_taken files id _));
    fill = λ v id end bytes shows writes. (shows-pipe_put t files id _, ap (λ (ts : List (Option Table)). is_some (at_number ts t)) (tables-pipe_put files id _));
    make = λ nodes is. (shows_itself t files, refl);
    remove = λ nodes is. (shows_itself t files, refl);
    open_old = λ fd node free is none. (shows-opened t _ fd node _, has-opened t _ t fd node _);
    open_new = λ fd nodes free is may made. (shows-opened t _ fd _ _, has-opened t _ t fd _ _);
  }

  pub rows_show : Answers (ShowsAsIn t files) (row a)
  rows_show = by_rows (ShowsAsIn t files) a kept (shows_itself t files, refl)
