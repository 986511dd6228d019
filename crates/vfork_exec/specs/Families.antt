-- How processes stand to each other (Linux, vfork(2), wait(2), in this project's profile).
use Rattle.std.specs.Prelude.{ℕ, ◌==◌, Bool, true, false, not, ◌&&◌, if◌then◌else◌, List, [], ◌∷◌, ◌++◌, filter, Option, Some, None, Result, Ok, Err}
use Rattle.call_log.specs.declared.errno.Errno.{Errno}
use Rattle.call_log.specs.declared.errno.Errno.TheVariants.{Echild}
use Rattle.vfork_exec.specs.declared.family.Who.{Who}
use Rattle.vfork_exec.specs.declared.family.Who.TheVariants.{All, Pid}
use Rattle.vfork_exec.specs.declared.family.State.{State}
use Rattle.vfork_exec.specs.declared.family.State.TheVariants.{Ready, Waiting, OnPipe, Lent}
use Rattle.vfork_exec.specs.declared.family.Ended.{Ended}
use Rattle.vfork_exec.specs.declared.family.Waited.{Waited}
use Rattle.vfork_exec.specs.declared.family.Waited.TheVariants.{Child, NoneYet, Waits}

-- ---- children

abbrev pub is_meant : Who → ℕ → Bool
is_meant All pid = true
is_meant (Pid id) pid = pid == id

-- a process with this pid and this parent is one of the children that process `own` means
abbrev pub is_child : (own : ℕ) → Who → (pid parent : ℕ) → Bool
is_child own who pid parent = parent == own && is_meant who pid

-- a process has no parent once that has ended
abbrev pub parent_behind : (gone parent : ℕ) → ℕ
parent_behind gone parent = if parent == gone then 0 else parent

-- ---- states

abbrev pub is_ready : State → Bool
is_ready Ready = true
is_ready (Waiting who) = false
is_ready (OnPipe pipe) = false
is_ready (Lent child) = false

-- it stands still for this child
abbrev pub is_lent_to : (child : ℕ) → State → Bool
is_lent_to child Ready = false
is_lent_to child (Waiting who) = false
is_lent_to child (OnPipe pipe) = false
is_lent_to child (Lent pid) = pid == child

-- who stands still for a child goes on when that leaves its space
unfoldable pub resumed : (child : ℕ) → State → State
resumed child state = if is_lent_to child state then Ready else state

-- process `own` waits for a child that has ended: it makes its call anew
abbrev pub woken : (own pid parent : ℕ) → State → State
woken own pid parent Ready = Ready
woken own pid parent (Waiting who) = if is_child own who pid parent then Ready else Waiting who
woken own pid parent (OnPipe pipe) = OnPipe pipe
woken own pid parent (Lent child) = Lent child

-- process `own` behind the end of a process with this pid and this parent
unfoldable pub state_behind : (own pid parent : ℕ) → State → State
state_behind own pid parent state = resumed pid (woken own pid parent state)

-- the bytes of a pipe change, or one of its ends closes: who waits on it makes its call anew
unfoldable pub roused : (pipe : ℕ) → State → State
roused pipe Ready = Ready
roused pipe (Waiting who) = Waiting who
roused pipe (OnPipe id) = if id == pipe then Ready else OnPipe id
roused pipe (Lent child) = Lent child

-- ---- those that have ended, in the order in which they ended

-- one more: its own children go, and without a parent it goes at once
unfoldable pub ended_behind : Ended → List Ended → List Ended
ended_behind e ended = filter (λ child. not (child.parent == e.pid)) ended ++ (if e.parent == 0 then [] else e ∷ [])

-- of the children that a process means, the one that ended first
unfoldable pub first_ended : (own : ℕ) → Who → List Ended → Option Ended
first_ended own who [] = None
first_ended own who (e ∷ es) = if is_child own who e.pid e.parent then Some e else first_ended own who es

-- the list without that one
unfoldable pub without_first : (own : ℕ) → Who → List Ended → List Ended
without_first own who [] = []
without_first own who (e ∷ es) = if is_child own who e.pid e.parent then es else e ∷ without_first own who es

-- ECHILD without such a child; else what a process is told that may wait, or that may not
abbrev pub none_ended : (has_child may_wait : Bool) → Result Waited Errno
none_ended false may_wait = Err Echild
none_ended true true = Ok Waits
none_ended true false = Ok NoneYet

-- by the child that ended first, and whether such a child lives
unfoldable pub told : Option Ended → (has_child may_wait : Bool) → Result Waited Errno
told (Some e) has_child may_wait = Ok (Child e.pid e.how)
told None has_child may_wait = none_ended has_child may_wait
