-- What each step of an end leaves: the process goes, and then its space, where no other one lent it.
use Rattle.std.proofs.Common.{◌≡◌, ◌≢◌, ℕ, Bool, true, false, List, Option, Some, None, sym, ap, subst, ◌∙◌}
use Rattle.std.specs.Prelude.{slice_get, slice_set}
use Rattle.mmap_rules.specs.Held.{Held}
use Rattle.mem_files.specs.Inodes.{Inodes}
use Rattle.fd_tables.specs.Files.{OpenFiles}
use Rattle.fd_tables.specs.Changes.{storage, without_table}
use Rattle.nommu_regions.specs.declared.region.Region.{Region}
use Rattle.mmap_rules.specs.Held.{released}
use Rattle.vfork_exec.specs.declared.entry.Entry.{Entry}
use Rattle.vfork_exec.specs.Procs.{Listed, CanRun, process, value_at, borrows, with_end}
use Rattle.kept_parts.specs.declared.task.Task.{Task}
use Rattle.kept_parts.specs.Kept.{Kept}
use Rattle.kept_parts.specs.Regular.{Regular, IsRegular, HasSpace}
use Rattle.kept_parts.specs.Calls.{LivesIn}
use Rattle.call_log.specs.declared.how.How.{How}
use Rattle.kept_parts.specs.Gone.{ended, without_space, space_left, gone}
use Rattle.kept_parts.proofs.Ends.RegularWithout.{regular_ended, regular_without, nobody_left}
use Rattle.kept_parts.proofs.Common.ProcessList.{can_run_lives, own_pid, state_ready}
use Rattle.kept_parts.proofs.Copies.BehindCalls.{copies_ended}
use Rattle.kept_parts.proofs.Common.RunningProcess.{runs_in, value_found}

-- ---- a space is given up

pub regular_given_up : (old k : Kept) → k ≡ old → (number : ℕ) (h : Held) → Regular k → slice_get k.spaces number ≡ Some (Some h)
    → ((pid : ℕ) (e : Entry Task) → process old.procs pid ≡ Some e → e.value.space ≢ number) → (rs : List Region) (ss : List (Option Held))
    → rs ≡ released k.regions h.maps → ss ≡ slice_set k.spaces number None → Regular (record k { regions = rs; spaces = ss })
regular_given_up old k view number h regular there nobody rs ss regions spaces =
    let alone : (pid : ℕ) (e : Entry Task) → process k.procs pid ≡ Some e → e.value.space ≢ number =
    subst (λ (x : Kept). (pid : ℕ) (e : Entry Task) → process x.procs pid ≡ Some e → e.value.space ≢ number) (sym view) nobody in
    subst Regular (λ i. record k { regions = sym regions i; spaces = sym spaces i }) (regular_without k number h regular there alone)

-- ---- a process ends

-- it can run, and its table is dropped; then it goes from the list
module _ (k : Kept) (pid : ℕ) (how : How) (t : Task) (runs : CanRun k.procs pid) (kept : value_at k.procs pid ≡ Some t) (nodes : Inodes) (files : OpenFiles) (ps : Listed Task)
    (closed : storage nodes files ≡ without_table (storage k.tree k.files) t.table)
    (left : (e : Entry Task) → process k.procs pid ≡ Some e → ps ≡ with_end k.procs e how) where
  abbrev pub then_kept : Kept
  then_kept = record k { tree = nodes; files = files; procs = ps }

  pub ended_is : (e : Entry Task) → process k.procs pid ≡ Some e → then_kept ≡ ended k e how
  ended_is e lives =
      let same : t ≡ e.value = value_found k.procs pid e lives t kept in
      let now : storage nodes files ≡ without_table (storage k.tree k.files) e.value.table = closed ∙ ap (λ (x : Task). without_table (storage k.tree k.files) x.table) same in
      λ i. record k { tree = (now i).nodes; files = (now i).files; procs = left e lives i }

  -- what holds of the parts still holds
  pub kept_ended : IsRegular k → IsRegular then_kept
  kept_ended regular =
      let r = runs_in k pid regular.0 (can_run_lives k.procs pid runs) in
      let e : Entry Task = r.0 in (
        subst Regular (sym (ended_is e r.1.1.lives)) (regular_ended k pid e how regular.0 r.1.1.lives (state_ready k.procs pid e r.1.1.lives runs)),
        copies_ended k regular.1 nodes files t.table closed,
      )

  -- its space is there, and where no other one lent it nobody is left in it
  pub home_ended : IsRegular k → HasSpace k.spaces t.space
  home_ended regular =
      let r = runs_in k pid regular.0 (can_run_lives k.procs pid runs) in
      record { held = r.1.0; there = ap (λ (x : Task). slice_get k.spaces x.space) (value_found k.procs pid r.0 r.1.1.lives t kept) ∙ r.1.1.home }

  pub nobody_ended : IsRegular k → borrows k.procs pid ≡ false → (p : ℕ) (f : Entry Task) → process ps p ≡ Some f → f.value.space ≢ t.space
  nobody_ended regular none p f there same =
      let r = runs_in k pid regular.0 (can_run_lives k.procs pid runs) in
      let e : Entry Task = r.0 in
      let lives = r.1.1.lives in
      nobody_left k pid e how regular.0 lives (state_ready k.procs pid e lives runs) (ap (borrows k.procs) (own_pid k.procs pid e lives) ∙ none) p f
      (sym (ap (λ (s : Listed Task). process s p) (left e lives)) ∙ there) (same ∙ ap (λ (x : Task). x.space) (value_found k.procs pid e lives t kept))

  -- the space stays where another one lent it
  pub gone_lent : borrows k.procs pid ≡ true → (e : Entry Task) (h : Held) → LivesIn k pid e h → then_kept ≡ gone k e h how
  gone_lent lent e h runs_here =
      ended_is e runs_here.lives
      ∙ ap (λ (b : Bool). space_left (ended k e how) b e.value.space h) (sym (ap (borrows k.procs) (own_pid k.procs pid e runs_here.lives) ∙ lent))

  pub gone_owned : borrows k.procs pid ≡ false → (new : Kept) → ((h : Held) → slice_get k.spaces t.space ≡ Some (Some h) → new ≡ without_space then_kept t.space h)
      → (e : Entry Task) (h : Held) → LivesIn k pid e h → new ≡ gone k e h how
  gone_owned none new gives_up e h runs_here =
      let same : t ≡ e.value = value_found k.procs pid e runs_here.lives t kept in
      gives_up h (ap (λ (x : Task). slice_get k.spaces x.space) same ∙ runs_here.home)
      ∙ (λ i. without_space (ended_is e runs_here.lives i) (same i).space h)
      ∙ ap (λ (b : Bool). space_left (ended k e how) b e.value.space h) (sym (ap (borrows k.procs) (own_pid k.procs pid e runs_here.lives) ∙ none))
