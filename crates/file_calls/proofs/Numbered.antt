-- The row of each call that gives bytes.
use Rattle.std.proofs.Common.{◌≡◌, ◌≢◌, ℕ, true, Result, Ok, Err, ◌∙◌, refl}
use Rattle.std.specs.Prelude.{◌==◌, IfOk}
use Rattle.std.specs.declared.alloc.AllocError.{AllocError}
use Rattle.vfork_exec.proofs.Keyed.{eqb_other}
use Rattle.std.proofs.lemmas.Bool.{eqb-true}
use Rattle.mem_files.specs.Inodes.{Inodes}
use Rattle.fd_tables.specs.Files.{OpenFiles}
use Rattle.machine_world.specs.Descriptors.{pipe2_row, getdents_row, llseek_row}
use Rattle.machine_world.specs.Transfers.{read_row, readv_row}
use Rattle.machine_world.specs.Rows.{row}
use Rattle.file_calls.specs.declared.call.Call.{Call}
use Rattle.file_calls.specs.declared.outcome.Outcome.{Outcome}
use Rattle.file_calls.specs.Calls.{IsOutput, DoesNotWait}
use Rattle.file_calls.specs.Outcomes.{GivesRow, GivesUnlessWaits}
use Rattle.file_calls.proofs.Transferred.{rows_same, replies_same}

-- what is left of the five numbers
pub last_number : (n : ℕ) → IsOutput n → n ≢ 59 → n ≢ 61 → n ≢ 62 → n ≢ 63 → n ≡ 65
last_number n is n59 n61 n62 n63 = from_test (rw (eqb_other n 59 n59, eqb_other n 61 n61, eqb_other n 62 n62, eqb_other n 63 n63) at is)
  where
    from_test : (n == 65) ≡ true → n ≡ 65
    from_test is = eqb-true n 65 is

module _ (call : Call) (tree : Inodes) (files : OpenFiles) (r : Result Outcome AllocError) where
  pub row_pipe2 : call.number ≡ 59 → IfOk r (λ o. (tree : Inodes) → GivesRow pipe2_row call tree files o) → IfOk r (GivesRow row call tree files)
  unfolding row
  row_pipe2 is gives = rows_same row pipe2_row call tree files r (λ a made. rw (made.number ∙ is) refl) (of_tree r gives)
    where
      of_tree : (r : Result Outcome AllocError) → IfOk r (λ o. (tree : Inodes) → GivesRow pipe2_row call tree files o) → IfOk r (GivesRow pipe2_row call tree files)
      of_tree (Ok o) gives = gives tree
      of_tree (Err error) gives = gives

  pub row_getdents : call.number ≡ 61 → IfOk r (GivesRow getdents_row call tree files) → IfOk r (GivesRow row call tree files)
  unfolding row
  row_getdents is = rows_same row getdents_row call tree files r (λ a made. rw (made.number ∙ is) refl)

  pub row_llseek : call.number ≡ 62 → IfOk r (GivesRow llseek_row call tree files) → IfOk r (GivesRow row call tree files)
  unfolding row
  row_llseek is = rows_same row llseek_row call tree files r (λ a made. rw (made.number ∙ is) refl)

  pub row_read : DoesNotWait call files → call.number ≡ 63 → IfOk r (GivesUnlessWaits read_row call tree files) → IfOk r (GivesRow row call tree files)
  unfolding row
  row_read quiet is = replies_same row read_row call tree files r (λ a made. rw (made.number ∙ is) refl) quiet

  pub row_readv : DoesNotWait call files → call.number ≡ 65 → IfOk r (GivesUnlessWaits readv_row call tree files) → IfOk r (GivesRow row call tree files)
  unfolding row
  row_readv quiet is = replies_same row readv_row call tree files r (λ a made. rw (made.number ∙ is) refl) quiet
