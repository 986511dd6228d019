-- llseek: each answer of the code is that of the row.
use Rattle.std.proofs.Common.{◌≡◌, ℕ, ◌+◌, ◌*◌, ◌^◌, ◌<◌, ◌≤◌, Option, Some, None, refl, sym, ap, ◌∙◌}
use Rattle.std.specs.Prelude.{◌==◌, if◌then◌else◌, slice_index}
use Rattle.call_log.specs.declared.errno.Errno.TheVariants.{Ebadf, Einval, Espipe}
use Rattle.mem_files.specs.Inodes.{Inodes, size_of}
use Rattle.fd_tables.specs.declared.view.View.{View}
use Rattle.fd_tables.specs.declared.view.Target.{Target}
use Rattle.fd_tables.specs.declared.view.Target.TheVariants.{Console, Node, Pipe}
use Rattle.fd_tables.specs.Files.{OpenFiles, view}
use Rattle.machine_world.specs.Asks.{Ask, refuses}
use Rattle.machine_world.specs.Descriptors.{position_from, sought, seek_row, llseek_row}
use Rattle.file_calls.specs.declared.call.Call.{Call}
use Rattle.file_calls.specs.Calls.{MadeBy}
use Rattle.file_calls.proofs.Asked.{arg_is, at_closed, at_open, lt_true, lt_false}

abbrev base_at : Inodes → ℕ → View → ℕ → ℕ
base_at tree node v whence = if whence == 0 then 0 else if whence == 1 then v.at else size_of tree node

module _ (call : Call) (files : OpenFiles) (a : Ask) (made : MadeBy call a) (same : a.rest.files ≡ files) where
  pub llseek_closed : view files call.table (slice_index call.args 0) ≡ None → llseek_row a ≡ refuses a Ebadf
  unfolding llseek_row
  llseek_closed none = at_closed call a made files same (λ v. seek_row a v v.target) none

  module _ (v : View) (is : view files call.table (slice_index call.args 0) ≡ Some v) where
    llseek_open : llseek_row a ≡ seek_row a v v.target
    unfolding llseek_row
    llseek_open = at_open call a made files same (λ w. seek_row a w w.target) v is

    pub llseek_other : (t : Target) → v.target ≡ t → ((node : ℕ) → t ≡ Node node → ⊥) → llseek_row a ≡ refuses a Espipe
    llseek_other Console leads other = llseek_open ∙ ap (seek_row a v) leads
    llseek_other (Pipe id write) leads other = llseek_open ∙ ap (seek_row a v) leads
    llseek_other (Node node) leads other = absurd (other node refl)

    module _ (node : ℕ) (leads : v.target ≡ Node node) where
      pub llseek_whence : 2 < slice_index call.args 4 → llseek_row a ≡ refuses a Einval
      llseek_whence past =
          llseek_open ∙ ap (seek_row a v) leads
          ∙ rw (arg_is call a made 4, lt_true 2 (slice_index call.args 4) past) refl

      pub llseek_found : (tree : Inodes) → a.rest.tree ≡ tree → (base offset : ℕ) (to : Option ℕ) → slice_index call.args 4 ≤ 2 →
          base ≡ base_at tree node v (slice_index call.args 4) → offset ≡ slice_index call.args 1 * 2 ^ 32 + slice_index call.args 2 →
          to ≡ position_from base offset → llseek_row a ≡ sought a to
      llseek_found tree is_tree base offset to few base_is offset_is to_is =
          llseek_open ∙ ap (seek_row a v) leads
          ∙ rw (arg_is call a made 4, lt_false 2 (slice_index call.args 4) few)
          (sym (ap (sought a) (to_is ∙ (λ i. position_from (base_is i) (offset_is i)) ∙ (λ i. position_from (base_at (sym is_tree i) node v (slice_index call.args 4)) (slice_index (sym made.args i) 1 * 2 ^ 32 + slice_index (sym made.args i) 2)))))
