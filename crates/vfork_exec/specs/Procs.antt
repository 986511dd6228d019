-- The processes of a machine, and what each call does with them.
use Rattle.std.specs.Prelude.{◌≡◌, ℕ, ◌+◌, ◌<◌, Bool, List, [], ◌∷◌, map, filter, length, Option, Some, None, option_map, IsSome, Result, Ok, Err}
use Rattle.std.specs.List.{list_any}
use Rattle.call_log.specs.declared.errno.Errno.{Errno}
use Rattle.call_log.specs.declared.errno.Errno.TheVariants.{Eagain}
use Rattle.call_log.specs.declared.how.How.{How}
use Rattle.vfork_exec.specs.declared.family.Who.{Who}
use Rattle.vfork_exec.specs.declared.family.State.{State}
use Rattle.vfork_exec.specs.declared.family.State.TheVariants.{Ready, Waiting, OnPipe, Lent}
use Rattle.vfork_exec.specs.declared.family.Ended.{Ended}
use Rattle.vfork_exec.specs.declared.family.Waited.{Waited}
use Rattle.vfork_exec.specs.declared.family.Waited.TheVariants.{Child, NoneYet, Waits}
use Rattle.vfork_exec.specs.declared.entry.Entry.{Entry}
use Rattle.vfork_exec.specs.Keyed.{find, change, without}
use Rattle.vfork_exec.specs.Families.{is_child, parent_behind, is_ready, is_lent_to, resumed, state_behind, roused, ended_behind, first_ended, without_first, told}

-- the most processes at a time, those that have ended among them
abbrev pub most_entries : ℕ
most_entries = 64

-- the processes that live, newest first; those that have ended, in that order; and the number that the next one gets
pub record Listed (P : Type 0) : Type 0 where
  pub entries : List (Entry P)
  pub ended : List Ended
  pub next_pid : ℕ

module _ {P : Type 0} where
  abbrev pub pid_of : Entry P → ℕ
  pid_of e = e.pid

  abbrev pub with_value : Entry P → P → Entry P
  with_value e value = record e { value = value }

  abbrev pub with_state : Entry P → State → Entry P
  with_state e state = record e { state = state }

  -- the process of a number, if it lives
  abbrev pub process : Listed P → ℕ → Option (Entry P)
  process s pid = find pid_of pid s.entries

  abbrev pub Lives : Listed P → ℕ → Type 0
  Lives s pid = IsSome (process s pid)

  -- what is kept of it
  abbrev pub value_at : Listed P → ℕ → Option P
  value_at s pid = option_map (λ e. e.value) (process s pid)

  abbrev pub parent_at : Listed P → ℕ → Option ℕ
  parent_at s pid = option_map (λ e. e.parent) (process s pid)

  abbrev pub state_at : Listed P → ℕ → Option State
  state_at s pid = option_map (λ e. e.state) (process s pid)

  -- it lives, and neither waits nor stands still
  abbrev pub CanRun : Listed P → ℕ → Type 0
  CanRun s pid = state_at s pid ≡ Some Ready

  -- with something else kept of it
  abbrev pub with_value_at : Listed P → ℕ → P → Listed P
  with_value_at s pid value = record s { entries = change pid_of pid (λ e. with_value e value) s.entries }

  abbrev pub with_state_at : Listed P → ℕ → State → Listed P
  with_state_at s pid state = record s { entries = change pid_of pid (λ e. with_state e state) s.entries }

  abbrev pub none_yet : Listed P
  none_yet = record { entries = []; ended = []; next_pid = 1 }

  -- how many there are, those that have ended among them
  abbrev pub count : Listed P → ℕ
  count s = length s.entries + length s.ended

  -- those that may run, newest first
  unfoldable pub ready : Listed P → List (Entry P)
  ready s = filter (λ e. is_ready e.state) s.entries

  abbrev pub ready_pids : Listed P → List ℕ
  ready_pids s = map pid_of (ready s)

  -- a process runs in the space of another one, that stands still for it
  unfoldable pub borrows : Listed P → ℕ → Bool
  borrows s pid = list_any (λ e. is_lent_to pid e.state) s.entries

  -- ---- a process more

  abbrev pub with_entry : Listed P → (parent : ℕ) → P → Listed P
  with_entry s parent value = record s {
    entries = record { pid = s.next_pid; parent = parent; state = Ready; value = value } ∷ s.entries;
    next_pid = s.next_pid + 1;
  }

  -- that no process started
  abbrev pub with_start : Listed P → P → Listed P
  with_start s value = with_entry s 0 value

  -- where there are 64 nothing starts
  abbrev pub Starts : Listed P → P → Listed P → Option ℕ → Type 0
  Starts old value new None = (count old ≡ most_entries) × (new ≡ old)
  Starts old value new (Some pid) = (count old < most_entries) × (pid ≡ old.next_pid) × (new ≡ with_start old value)

  -- a child, for which its parent stands still
  abbrev pub with_child : Listed P → ℕ → P → Listed P
  with_child s parent value = record s {
    entries = record { pid = s.next_pid; parent = parent; state = Ready; value = value } ∷ change pid_of parent (λ e. with_state e (Lent s.next_pid)) s.entries;
    next_pid = s.next_pid + 1;
  }

  -- EAGAIN where there are 64
  abbrev pub Forks : Listed P → ℕ → P → Listed P → Result ℕ Errno → Type 0
  Forks old parent value new (Ok pid) = (count old < most_entries) × (pid ≡ old.next_pid) × (new ≡ with_child old parent value)
  Forks old parent value new (Err errno) = (count old ≡ most_entries) × (errno ≡ Eagain) × (new ≡ old)

  -- ---- a process leaves its space

  -- it has one of its own from now on
  abbrev pub with_exec : Listed P → ℕ → Listed P
  with_exec s pid = record s { entries = map (λ e. with_state e (resumed pid e.state)) s.entries }

  -- another process behind the end of one with this pid and this parent
  abbrev pub behind : (pid parent : ℕ) → Entry P → Entry P
  behind pid parent e = record e { parent = parent_behind pid e.parent; state = state_behind e.pid pid parent e.state }

  -- it ends
  abbrev pub with_end : Listed P → Entry P → How → Listed P
  with_end s gone how = record s {
    entries = map (behind gone.pid gone.parent) (without pid_of gone.pid s.entries);
    ended = ended_behind (record { pid = gone.pid; parent = gone.parent; how = how }) s.ended;
  }

  -- ---- a process asks for its children

  abbrev pub has_child : Listed P → ℕ → Who → Bool
  has_child s pid who = list_any (λ e. is_child pid who e.pid e.parent) s.entries

  -- what it is told
  abbrev pub looked : Listed P → ℕ → Who → (may_wait : Bool) → Result Waited Errno
  looked s pid who may_wait = told (first_ended pid who s.ended) (has_child s pid who) may_wait

  -- the child that it is told of goes; where it waits, it doesn't run
  abbrev pub with_wait : Listed P → ℕ → Who → Result Waited Errno → Listed P
  with_wait s pid who (Ok (Child child how)) = record s { ended = without_first pid who s.ended }
  with_wait s pid who (Ok NoneYet) = s
  with_wait s pid who (Ok Waits) = with_state_at s pid (Waiting who)
  with_wait s pid who (Err errno) = s

  -- ---- pipes

  -- it waits on a pipe
  abbrev pub with_wait_on : Listed P → ℕ → (pipe : ℕ) → Listed P
  with_wait_on s pid pipe = with_state_at s pid (OnPipe pipe)

  -- those that wait on a pipe make their calls anew
  abbrev pub with_wake : Listed P → (pipe : ℕ) → Listed P
  with_wake s pipe = record s { entries = map (λ e. with_state e (roused pipe e.state)) s.entries }
