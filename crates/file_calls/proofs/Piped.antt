-- The row of pipe2.
use Rattle.std.proofs.Common.{◌≡◌, ◌==◌, true, false, ◌||◌, [], ◌∷◌, Some, None, refl}
use Rattle.call_log.specs.declared.errno.Errno.TheVariants.{Einval, Emfile}
use Rattle.fd_tables.specs.declared.pipe_view.Ends.{Ends}
use Rattle.fd_tables.specs.Files.{two_free}
use Rattle.fd_tables.specs.Changes.{piped}
use Rattle.machine_world.specs.Asks.{Ask, arg, gives, refuses, with_files}
use Rattle.machine_world.specs.Descriptors.{ends_bytes, pipe2_row}

module _ (a : Ask) where
  pub pipe2_flags : (arg a 1 == 0 || arg a 1 == 524288) ≡ false → pipe2_row a ≡ refuses a Einval
  unfolding pipe2_row
  pipe2_flags bad = rw bad refl

  module _ (fine : (arg a 1 == 0 || arg a 1 == 524288) ≡ true) where
    pub pipe2_full : two_free a.rest.files a.process.table ≡ None → pipe2_row a ≡ refuses a Emfile
    unfolding pipe2_row
    pipe2_full full = rw (fine, full) refl

    pub pipe2_opens : (ends : Ends) → two_free a.rest.files a.process.table ≡ Some ends →
        pipe2_row a ≡ gives a 0 (record { addr = arg a 0; bytes = ends_bytes ends } ∷ []) (with_files a.rest (piped a.rest.files a.process.table ends (arg a 1 == 524288)))
    unfolding pipe2_row
    pipe2_opens ends free = rw (fine, free) refl
