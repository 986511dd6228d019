-- Small facts of a call's reply, behind which the parts are regular.
use Rattle.std.proofs.Common.{◌≡◌, ℕ, Bool, List, length, Option, Some, refl, sym, ap, subst, ◌∙◌}
use Rattle.std.specs.Prelude.{◌≤◌, slice_get, slice_set, Vec}
use Rattle.std.specs.Vec.{with_items}
use Rattle.std.proofs.lemmas.List.{with_items_is, length-set}
use Rattle.call_log.specs.Notes.{Note}
use Rattle.mmap_rules.specs.Held.{Held}
use Rattle.mem_files.specs.Inodes.{Inodes}
use Rattle.fd_tables.specs.Files.{OpenFiles}
use Rattle.rv32im_step.specs.declared.regs.Regs.{Regs}
use Rattle.vfork_exec.specs.Keyed.{find}
use Rattle.vfork_exec.specs.declared.entry.Entry.{Entry}
use Rattle.vfork_exec.specs.Procs.{Listed, Lives, pid_of, value_at, with_value_at}
use Rattle.kept_parts.specs.declared.task.Task.{Task}
use Rattle.kept_parts.specs.Kept.{Kept}
use Rattle.kept_parts.specs.Recorded.{room_beside}
use Rattle.kept_parts.specs.Regular.{Regular}
use Rattle.machine_world.specs.Ages.{kept_calls}
use Rattle.kept_parts.proofs.Common.RunningProcess.{runs_in, value_found}
use Rattle.kept_parts.proofs.Common.StaysRegular.{set_kept, regular_stays}

-- a space that is as it was
pub stays_with : (spaces : List (Option Held)) (i : ℕ) (h : Held) → slice_get spaces i ≡ Some (Some h) → (value : ℕ) → (value ≡ value) × (spaces ≡ slice_set spaces i (Some h))
stays_with spaces i h there value = (refl, sym (set_kept spaces i (Some h) there))

-- a vector after one item was set
pub items_set : {A Z : Type 0} (v : Vec A Z) (ws : List A) (i : ℕ) (x : A) → ws ≡ slice_set v.items i x → (with_items v ws).items ≡ slice_set v.items i x
items_set v ws i x is = with_items_is v ws (ap length is ∙ length-set v.items i x ∙ sym v.ok.0) ∙ is

-- ---- room

-- the log was asked for its room
pub room_is : (k now : Kept) → k ≡ now → (bytes : ℕ) (room b : Bool) → room ≡ room_beside k bytes → room ≡ b → room_beside now bytes ≡ b
room_is k now same bytes room b asked is = ap (λ (x : Kept). room_beside x bytes) (sym same) ∙ sym asked ∙ is

-- ---- what stays regular

module _ (k : Kept) (pid : ℕ) (t : Task) (h : Held) (regular : Regular k) (lives : Lives k.procs pid) (kept : value_at k.procs pid ≡ Some t)
    (home : slice_get k.spaces t.space ≡ Some (Some h)) where
  -- the process with its entry
  record Entered : Type 0 where
    e : Entry Task
    there : find pid_of pid k.procs.entries ≡ Some e
    same : t ≡ e.value

  entered : Entered
  entered =
      let r = runs_in k pid regular lives in
      record { e = r.0; there = r.1.1.lives; same = value_found k.procs pid r.0 r.1.1.lives t kept }

  home_entered : slice_get k.spaces entered.e.value.space ≡ Some (Some h)
  home_entered = sym (ap (λ (x : Task). slice_get k.spaces x.space) entered.same) ∙ home

  -- a process has other registers, its space another break, and there are other files, another memory and another console
  pub regular_replied : (regs : Regs) (brk : ℕ) (mem : List ℕ) (ss : List (Option Held)) (tree : Inodes) (files : OpenFiles) (ps : Listed Task) (notes : List Note) (console : List ℕ) →
      length mem ≡ length k.mem → ss ≡ slice_set k.spaces t.space (Some (record h { brk = brk })) → ps ≡ with_value_at k.procs pid (record t { regs = regs }) →
      kept_calls k.notes ≤ kept_calls notes →
      Regular (record k { mem = mem; spaces = ss; tree = tree; files = files; procs = ps; notes = notes; console = console })
  regular_replied regs brk mem ss tree files ps notes console same spaces procs more =
      let moved : Task → Kept = λ x. record k {
        mem = mem;
        spaces = slice_set k.spaces x.space (Some (record h { brk = brk }));
        tree = tree;
        files = files;
        procs = with_value_at k.procs pid (record x { regs = regs });
        notes = notes;
        console = console;
      } in
      let there : moved entered.e.value ≡ record k { mem = mem; spaces = ss; tree = tree; files = files; procs = ps; notes = notes; console = console } =
      ap moved (sym entered.same)
      ∙ (λ i. record k { mem = mem; spaces = sym spaces i; tree = tree; files = files; procs = sym procs i; notes = notes; console = console }) in
      subst Regular there (regular_stays k pid entered.e h regular entered.there home_entered regs brk mem same notes more tree files console)
