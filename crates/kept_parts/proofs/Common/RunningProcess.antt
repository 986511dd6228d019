-- A process that runs in its space, and the call at which it stands.
use Rattle.std.proofs.Common.{◌≡◌, ℕ, List, [], ◌∷◌, true, false, inl, inr, Some, Global, sym, ap, ◌∙◌}
use Rattle.std.specs.Prelude.{◌==◌, Vec, Err, option_map, slice_get, slice_index}
use Rattle.std.proofs.lemmas.Option.{same_Some}
use Rattle.byte_words.specs.ByteMap.{Bytes}
use Rattle.call_log.specs.Sent.{sent}
use Rattle.mmap_rules.specs.Held.{Held}
use Rattle.rv32im_step.specs.Registers.{register}
use Rattle.vfork_exec.specs.declared.entry.Entry.{Entry}
use Rattle.vfork_exec.specs.Keyed.{find}
use Rattle.vfork_exec.specs.Procs.{Listed, process, value_at, parent_at, pid_of, Lives}
use Rattle.vfork_exec.proofs.Keyed.{find_head}
use Rattle.vfork_exec.proofs.Places.{found}
use Rattle.machine_world.specs.Event.{number_of, args_of}
use Rattle.kept_parts.specs.declared.task.Task.{Task}
use Rattle.kept_parts.specs.Kept.{Kept}
use Rattle.kept_parts.specs.Regular.{Regular, HasSpace}
use Rattle.kept_parts.specs.Calls.{LivesIn, IsCall, Made}
use Rattle.call_bytes.specs.Reading.{Reads}
use Rattle.call_bytes.specs.declared.unread.Unread.{Unread}
use Rattle.call_bytes.specs.declared.unread.Unread.TheVariants.{Stray, Memory}
use Rattle.call_bytes.proofs.Places.{decide}
use Rattle.kept_parts.proofs.Common.UseCounts.{eqb_is}

-- what is found has the number
pub found_key : {A : Type 0} (key : A → ℕ) (k : ℕ) (xs : List A) (x : A) → find key k xs ≡ Some x → key x ≡ k
unfolding find
found_key key k [] x h = absurd cc
found_key key k (y ∷ ys) x h = elim (decide (key y == k)) [
  | inl is ↦ let same : y ≡ x = let e = sym (find_head key k y ys true is) ∙ h in cc in sym (ap key same) ∙ eqb_is (key y) k is
  | inr is ↦ found_key key k ys x (sym (find_head key k y ys false is) ∙ h)
]

module _ (s : Listed Task) (pid : ℕ) (e : Entry Task) (lives : process s pid ≡ Some e) where
  pub value_found : (t : Task) → value_at s pid ≡ Some t → t ≡ e.value
  value_found t is = same_Some t e.value (sym is ∙ ap (option_map (λ (x : Entry Task). x.value)) lives)

  pub parent_found : (parent : ℕ) → parent_at s pid ≡ Some parent → parent ≡ e.parent
  parent_found parent is = same_Some parent e.parent (sym is ∙ ap (option_map (λ (x : Entry Task). x.parent)) lives)

  pub pid_found : pid ≡ e.pid
  pid_found = sym (found_key pid_of pid s.entries e lives)

-- a process that lives has a live space
pub runs_in : (k : Kept) (pid : ℕ) → Regular k → Lives k.procs pid → (e : Entry Task) × ((h : Held) × LivesIn k pid e h)
runs_in k pid regular lives =
    let f = found pid_of pid k.procs.entries lives in
    let home = regular.runs pid f.0 f.1 in
    (f.0, (home.held, record { lives = f.1; home = home.there }))

-- the same of what is kept of it
pub has_space : (k : Kept) (pid : ℕ) (t : Task) → Regular k → Lives k.procs pid → value_at k.procs pid ≡ Some t → HasSpace k.spaces t.space
has_space k pid t regular lives is =
    let f = found pid_of pid k.procs.entries lives in
    let home = regular.runs pid f.0 f.1 in
    record { held = home.held; there = ap (λ (x : Task). slice_get k.spaces x.space) (value_found k.procs pid f.0 f.1 t is) ∙ home.there }

-- the space of a process is the one that stands at its number
pub home_is : (k : Kept) (pid : ℕ) (e : Entry Task) (h : Held) → LivesIn k pid e h → (t : Task) → value_at k.procs pid ≡ Some t → (g : Held) → slice_get k.spaces t.space ≡ Some (Some g) → g ≡ h
home_is k pid e h runs t kept g home =
    let both : Some (Some g) ≡ Some (Some h) = sym home ∙ ap (λ (x : Task). slice_get k.spaces x.space) (value_found k.procs pid e runs.lives t kept) ∙ runs.home in
    same_Some g h (same_Some (Some g) (Some h) both)

-- ---- the call

sent_same : (n m : ℕ) (xs ys : List ℕ) (b c : Bytes) → n ≡ m → xs ≡ ys → b ≡ c → sent n xs b ≡ sent m ys c
sent_same n m xs ys b c p q r = cc

module _ (k : Kept) (pid : ℕ) (e : Entry Task) (h : Held) (runs : LivesIn k pid e h) (t : Task) (kept : value_at k.procs pid ≡ Some t) where
  same_task : t ≡ e.value
  same_task = value_found k.procs pid e runs.lives t kept

  -- its space stands at the number that was kept
  pub home_at : slice_get k.spaces t.space ≡ Some (Some h)
  home_at = ap (λ (x : Task). slice_get k.spaces x.space) same_task ∙ runs.home

  module _ (args : List ℕ) (made : args ≡ args_of t.regs) where
    same_number : slice_index t.regs.x 17 ≡ number_of e.value.regs
    unfolding register
    same_number = ap (λ (x : Task). slice_index x.regs.x 17) same_task

    same_args : args ≡ args_of e.value.regs
    same_args = made ∙ ap (λ (x : Task). args_of x.regs) same_task

    pub sent_is : (read bytes : Bytes) → read ≡ bytes → sent (number_of e.value.regs) (args_of e.value.regs) bytes ≡ sent (slice_index t.regs.x 17) args read
    sent_is read bytes same = sent_same _ _ _ _ _ _ (sym same_number) (sym same_args) (sym same)

    pub call_is : (parent : ℕ) → parent_at k.procs pid ≡ Some parent → (bytes : Vec ℕ _) →
        IsCall e (record { pid = pid; parent = parent; table = t.table; number = slice_index t.regs.x 17; args = args; sent = bytes })
    call_is parent is bytes = record {
      pid = pid_found k.procs pid e runs.lives;
      parent = parent_found k.procs pid e runs.lives parent is;
      table = ap (λ (x : Task). x.table) same_task;
      number = same_number;
      args = same_args;
    }

    pub unread_is : (read bytes : Bytes) → read ≡ bytes → (unread : Unread) → Reads {Y = Global} (sent (slice_index t.regs.x 17) args read) (Err unread) → Made bytes e (Err unread)
    unread_is read bytes same (Stray addr len) reads = sent_is read bytes same ∙ reads
    unread_is read bytes same Memory reads = tt
