-- Processes: a parent, its vfork child, and what each call does with them.
use Rattle.std.proofs.Common.{◌≡◌, ℕ, true, false, List, [], ◌∷◌, map, Some, None, refl}
use Rattle.std.specs.Prelude.{Ok, Err}
use Rattle.call_log.specs.declared.errno.Errno.TheVariants.{Echild}
use Rattle.call_log.specs.declared.how.How.{How}
use Rattle.call_log.specs.declared.how.How.TheVariants.{Exit, Signal}
use Rattle.vfork_exec.specs.declared.family.Who.TheVariants.{All, Pid}
use Rattle.vfork_exec.specs.declared.family.State.{State}
use Rattle.vfork_exec.specs.declared.family.State.TheVariants.{Ready, Waiting, OnPipe, Lent}
use Rattle.vfork_exec.specs.declared.family.Ended.{Ended}
use Rattle.vfork_exec.specs.declared.family.Waited.TheVariants.{Child, NoneYet, Waits}
use Rattle.vfork_exec.specs.declared.entry.Entry.{Entry}
use Rattle.vfork_exec.specs.Keyed.{find, change, without}
use Rattle.vfork_exec.specs.Families.{resumed, state_behind, roused, ended_behind, first_ended, without_first, told}
use Rattle.vfork_exec.specs.Procs.{Listed, none_yet, state_at, parent_at, value_at, ready, ready_pids, borrows, with_value_at, with_start, with_child, with_exec, with_end, looked, with_wait, with_wait_on, with_wake}

-- ---- process 1, of which 70 is kept, and its child 2, of which 80 is kept

abbrev parent : State → Entry ℕ
parent state = record { pid = 1; parent = 0; state = state; value = 70 }

abbrev child : State → Entry ℕ
child state = record { pid = 2; parent = 1; state = state; value = 80 }

abbrev dead : (pid parent : ℕ) → How → Ended
dead pid parent how = record { pid = pid; parent = parent; how = how }

abbrev listed : List (Entry ℕ) → List Ended → (next : ℕ) → Listed ℕ
listed entries ended next = record { entries = entries; ended = ended; next_pid = next }

starts : with_start none_yet 70 ≡ listed (parent Ready ∷ []) [] 2
starts = refl

-- the parent stands still for it
forks : with_child (listed (parent Ready ∷ []) [] 2) 1 80 ≡ listed (child Ready ∷ parent (Lent 2) ∷ []) [] 3
unfolding change
forks = refl

abbrev both : Listed ℕ
both = listed (child Ready ∷ parent (Lent 2) ∷ []) [] 3

abbrev apart : Listed ℕ
apart = listed (child Ready ∷ parent Ready ∷ []) [] 3

runs-child : ready_pids both ≡ 2 ∷ []
unfolding ready
runs-child = refl

runs-both : ready_pids apart ≡ 2 ∷ 1 ∷ []
unfolding ready
runs-both = refl

lends : (borrows both 2 ∷ borrows both 1 ∷ borrows apart 2 ∷ []) ≡ true ∷ false ∷ false ∷ []
unfolding borrows
lends = refl

-- a number that none has
shows : (parent_at both 2 ∷ value_at both 1 ∷ parent_at both 3 ∷ []) ≡ Some 1 ∷ Some 70 ∷ None ∷ []
unfolding find
shows = refl

keeps : with_value_at both 1 90 ≡ listed (child Ready ∷ record (parent (Lent 2)) { value = 90 } ∷ []) [] 3
unfolding change
keeps = refl

-- ---- it leaves the space of its parent, which goes on

execs : with_exec both 2 ≡ apart
unfolding resumed
execs = refl

-- for process 1 nobody stands still
execs-parent : with_exec both 1 ≡ both
unfolding resumed
execs-parent = refl

-- the child ends: it is kept for its parent, which goes on too
ends : with_end both (child Ready) (Exit 3) ≡ listed (parent Ready ∷ []) (dead 2 1 (Exit 3) ∷ []) 3
unfolding without resumed state_behind ended_behind
ends = refl

-- the parent ends: nobody asks for it, and the child has none any more
ends-parent : with_end apart (parent Ready) (Signal 9) ≡ listed (record (child Ready) { parent = 0 } ∷ []) [] 3
unfolding without resumed state_behind ended_behind
ends-parent = refl

-- nor does anybody ask for its children that have ended
ends-children : ended_behind (dead 1 0 (Exit 0)) (dead 2 1 (Exit 3) ∷ dead 4 3 (Exit 5) ∷ []) ≡ dead 4 3 (Exit 5) ∷ []
unfolding ended_behind
ends-children = refl

-- ---- the parent asks for its children

abbrev ended : Listed ℕ
ended = listed (parent Ready ∷ []) (dead 2 1 (Exit 3) ∷ []) 3

abbrev waiting : Listed ℕ
waiting = listed (child Ready ∷ parent (Waiting All) ∷ []) [] 3

-- one has ended; one lives, and it may wait, or not; there is no such child; and the child has none
asks :
    (looked ended 1 All true ∷ looked apart 1 (Pid 2) true ∷ looked apart 1 All false ∷ looked apart 1 (Pid 3) true ∷ looked apart 2 All true ∷ [])
    ≡ Ok (Child 2 (Exit 3)) ∷ Ok Waits ∷ Ok NoneYet ∷ Err Echild ∷ Err Echild ∷ []
unfolding first_ended told
asks = refl

waits :
    (with_wait ended 1 All (Ok (Child 2 (Exit 3))) ∷ with_wait apart 1 All (Ok Waits) ∷ with_wait apart 1 All (Ok NoneYet) ∷ with_wait apart 1 (Pid 3) (Err Echild) ∷ [])
    ≡ listed (parent Ready ∷ []) [] 3 ∷ waiting ∷ apart ∷ apart ∷ []
unfolding change without_first
waits = refl

-- it goes on when the child ends, and stays where it waits for another one
wakes : with_end waiting (child Ready) (Exit 3) ≡ ended
unfolding without resumed state_behind ended_behind
wakes = refl

wakes-not : state_at (with_end (listed (child Ready ∷ parent (Waiting (Pid 3)) ∷ []) [] 4) (child Ready) (Exit 3)) 1 ≡ Some (Waiting (Pid 3))
unfolding find without resumed state_behind ended_behind
wakes-not = refl

-- of several the one that ended first goes, and none where none is meant
abbrev three : List Ended
three = dead 6 1 (Exit 0) ∷ dead 5 2 (Exit 0) ∷ dead 4 1 (Exit 0) ∷ []

goes : (without_first 1 All three ∷ without_first 1 (Pid 4) three ∷ without_first 1 (Pid 5) three ∷ [])
    ≡ (dead 5 2 (Exit 0) ∷ dead 4 1 (Exit 0) ∷ []) ∷ (dead 6 1 (Exit 0) ∷ dead 5 2 (Exit 0) ∷ []) ∷ three ∷ []
unfolding without_first
goes = refl

-- ---- pipes

abbrev on_pipe : Listed ℕ
on_pipe = listed (child (OnPipe 5) ∷ parent Ready ∷ []) [] 3

waits-pipe : with_wait_on apart 2 5 ≡ on_pipe
unfolding change
waits-pipe = refl

-- that pipe, and another one
wakes-pipe : (with_wake on_pipe 5 ∷ with_wake on_pipe 6 ∷ []) ≡ apart ∷ on_pipe ∷ []
unfolding roused
wakes-pipe = refl

-- who waits for something else doesn't go on
rouses : map (roused 5) (Ready ∷ Waiting All ∷ OnPipe 5 ∷ OnPipe 6 ∷ Lent 5 ∷ []) ≡ Ready ∷ Waiting All ∷ Ready ∷ OnPipe 6 ∷ Lent 5 ∷ []
unfolding roused
rouses = refl
