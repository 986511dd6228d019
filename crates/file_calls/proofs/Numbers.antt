-- The row of each number.
use Rattle.std.proofs.Common.{◌≡◌, ◌≢◌, ℕ, ◌==◌, true, refl}
use Rattle.std.proofs.lemmas.Bool.{eqb-true}
use Rattle.vfork_exec.proofs.Keyed.{eqb_other}
use Rattle.machine_world.specs.Asks.{Ask}
use Rattle.machine_world.specs.Descriptors.{dup_row, dup3_row, close_row}
use Rattle.machine_world.specs.PathCalls.{mkdirat_row, unlinkat_row, openat_row}
use Rattle.machine_world.specs.Transfers.{read_row, readv_row, write_row, writev_row}
use Rattle.machine_world.specs.Rows.{row}
use Rattle.file_calls.specs.Calls.{IsChange}

module _ (a : Ask) (number : ℕ) (is : a.number ≡ number) where
  pub row_23 : number ≡ 23 → row a ≡ dup_row a
  unfolding row
  row_23 e = rw (is, e) refl

  pub row_24 : number ≡ 24 → row a ≡ dup3_row a
  unfolding row
  row_24 e = rw (is, e) refl

  pub row_34 : number ≡ 34 → row a ≡ mkdirat_row a
  unfolding row
  row_34 e = rw (is, e) refl

  pub row_35 : number ≡ 35 → row a ≡ unlinkat_row a
  unfolding row
  row_35 e = rw (is, e) refl

  pub row_56 : number ≡ 56 → row a ≡ openat_row a
  unfolding row
  row_56 e = rw (is, e) refl

  pub row_57 : number ≡ 57 → row a ≡ close_row a
  unfolding row
  row_57 e = rw (is, e) refl

  pub row_63 : number ≡ 63 → row a ≡ read_row a
  unfolding row
  row_63 e = rw (is, e) refl

  pub row_64 : number ≡ 64 → row a ≡ write_row a a.sent
  unfolding row
  row_64 e = rw (is, e) refl

  pub row_65 : number ≡ 65 → row a ≡ readv_row a
  unfolding row
  row_65 e = rw (is, e) refl

  pub row_66 : number ≡ 66 → row a ≡ writev_row a
  unfolding row
  row_66 e = rw (is, e) refl

-- the number that is left
pub is_last : (n : ℕ) → IsChange n → n ≢ 23 → n ≢ 24 → n ≢ 34 → n ≢ 35 → n ≢ 56 → n ≢ 57 → n ≢ 64 → n ≡ 66
is_last n h n23 n24 n34 n35 n56 n57 n64 = eqb-true n 66 others
  where
    others : (n == 66) ≡ true
    others = rw (eqb_other n 23 n23, eqb_other n 24 n24, eqb_other n 34 n34, eqb_other n 35 n35, eqb_other n 56 n56, eqb_other n 57 n57, eqb_other n 64 n64) at h
