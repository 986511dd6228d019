-- What a call leaves of the processes that it isn't about.
use Rattle.std.specs.Prelude.{◌≡◌, ◌≢◌, ℕ, ◌==◌, ◌⊎◌, not, if◌then◌else◌, List, [], ◌∷◌, ◌++◌, filter, Option, Some, None, Result, ⊤}
use Rattle.call_log.specs.declared.errno.Errno.{Errno}
use Rattle.call_log.specs.declared.how.How.{How}
use Rattle.vfork_exec.specs.declared.family.Who.{Who}
use Rattle.vfork_exec.specs.declared.family.State.TheVariants.{Ready, OnPipe}
use Rattle.vfork_exec.specs.declared.family.Ended.{Ended}
use Rattle.vfork_exec.specs.declared.family.Waited.{Waited}
use Rattle.vfork_exec.specs.declared.entry.Entry.{Entry}
use Rattle.vfork_exec.specs.Procs.{Listed, process, with_start, with_child, with_exec, with_end, with_wait, with_wait_on, with_wake}

-- a process behind what another one did: what is kept of it is as before, its parent as before or none, and it stands as before or
-- may run. Who waits on a pipe waits on
pub record RemainsBut {P : Type 0} (e now : Entry P) : Type 0 where
  pub value : now.value ≡ e.value
  pub parent : (now.parent ≡ e.parent) ⊎ (now.parent ≡ 0)
  pub state : (now.state ≡ e.state) ⊎ (now.state ≡ Ready)
  pub on_pipe : (pipe : ℕ) → e.state ≡ OnPipe pipe → now.state ≡ OnPipe pipe

-- a process behind `wake`: it may run just where it waited on this pipe
pub record WakesFor {P : Type 0} (pipe : ℕ) (e now : Entry P) : Type 0 where
  pub value : now.value ≡ e.value
  pub parent : now.parent ≡ e.parent
  pub wakes : e.state ≡ OnPipe pipe → now.state ≡ Ready
  pub remains : e.state ≢ OnPipe pipe → now.state ≡ e.state

-- who lives lives on, and so changed; and no other one lives
abbrev pub LivesOn : {P : Type 0} → (Entry P → Entry P → Type 0) → Option (Entry P) → Option (Entry P) → Type 0
LivesOn change None None = ⊤
LivesOn change None (Some now) = ⊥
LivesOn change (Some e) None = ⊥
LivesOn change (Some e) (Some now) = change e now

-- the others of each call
pub record OthersRemain (P : Type 0) : Type 0 where
  pub start : (s : Listed P) (value : P) (other : ℕ) → other ≢ s.next_pid → process (with_start s value) other ≡ process s other
  pub vfork : (s : Listed P) (parent : ℕ) (value : P) (other : ℕ) → other ≢ s.next_pid → other ≢ parent → process (with_child s parent value) other ≡ process s other
  pub exec_done : (s : Listed P) (pid other : ℕ) → LivesOn RemainsBut (process s other) (process (with_exec s pid) other)
  pub end : (s : Listed P) (gone : Entry P) (how : How) (other : ℕ) → other ≢ gone.pid → LivesOn RemainsBut (process s other) (process (with_end s gone how) other)
  pub wait : (s : Listed P) (pid : ℕ) (who : Who) (told : Result Waited Errno) (other : ℕ) → other ≢ pid → process (with_wait s pid who told) other ≡ process s other
  pub wait_on : (s : Listed P) (pid pipe other : ℕ) → other ≢ pid → process (with_wait_on s pid pipe) other ≡ process s other
  pub wake : (s : Listed P) (pipe other : ℕ) → LivesOn (WakesFor pipe) (process s other) (process (with_wake s pipe) other)

-- those that have ended and aren't this process's children, in their order
abbrev pub ended_of_others : ℕ → List Ended → List Ended
ended_of_others pid ended = filter (λ child. not (child.parent == pid)) ended

-- who has ended stays until its parent asks for it or ends itself
pub record EndedRemain (P : Type 0) : Type 0 where
  pub start : (s : Listed P) (value : P) → (with_start s value).ended ≡ s.ended
  pub vfork : (s : Listed P) (parent : ℕ) (value : P) → (with_child s parent value).ended ≡ s.ended
  pub exec_done : (s : Listed P) (pid : ℕ) → (with_exec s pid).ended ≡ s.ended
  pub end : (s : Listed P) (gone : Entry P) (how : How) → (with_end s gone how).ended ≡
      ended_of_others gone.pid s.ended ++ (if gone.parent == 0 then [] else record { pid = gone.pid; parent = gone.parent; how = how } ∷ [])
  pub wait : (s : Listed P) (pid : ℕ) (who : Who) (told : Result Waited Errno) → ended_of_others pid (with_wait s pid who told).ended ≡ ended_of_others pid s.ended
  pub wait_on : (s : Listed P) (pid pipe : ℕ) → (with_wait_on s pid pipe).ended ≡ s.ended
  pub wake : (s : Listed P) (pipe : ℕ) → (with_wake s pipe).ended ≡ s.ended
