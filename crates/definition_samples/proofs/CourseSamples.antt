-- Processes call by call: who may run behind each, which child a parent is told of, and the list at its limit.
use Rattle.std.proofs.Common.{◌≡◌, ℕ, zero, suc, Bool, true, false, List, [], ◌∷◌, ◌++◌, Option, Some, None, refl}
use Rattle.std.specs.Prelude.{Result, Ok, Err, reverse}
use Rattle.call_log.specs.declared.errno.Errno.{Errno}
use Rattle.call_log.specs.declared.errno.Errno.TheVariants.{Echild}
use Rattle.call_log.specs.declared.how.How.TheVariants.{Exit}
use Rattle.vfork_exec.specs.declared.family.Who.{Who}
use Rattle.vfork_exec.specs.declared.family.Who.TheVariants.{All, Pid}
use Rattle.vfork_exec.specs.declared.family.Waited.{Waited}
use Rattle.vfork_exec.specs.declared.family.Waited.TheVariants.{Child, NoneYet, Waits}
use Rattle.vfork_exec.specs.declared.entry.Entry.{Entry}
use Rattle.vfork_exec.specs.Keyed.{find, change, without}
use Rattle.vfork_exec.specs.Families.{resumed, state_behind, roused, ended_behind, first_ended, without_first, told}
use Rattle.vfork_exec.specs.Procs.{Listed, none_yet, count, process, ready, ready_pids, with_start, with_child, with_exec, with_end, looked, with_wait, with_wait_on, with_wake}

-- what happens to a process: it starts, or one of a number makes a vfork child, carries out a program, ends, asks for a child and may
-- wait or not, or waits on a pipe; or a pipe lets those go on that wait on it
data Step : Type 0 where
  starts : Step
  forks : ℕ → Step
  execs : ℕ → Step
  ends : ℕ → Step
  waits : ℕ → Who → (may_wait : Bool) → Step
  stays : (pid pipe : ℕ) → Step
  wakes : (pipe : ℕ) → Step

-- who ends, ends with its number
abbrev end_of : Listed ℕ → Option (Entry ℕ) → Listed ℕ
end_of s None = s
end_of s (Some e) = with_end s e (Exit e.pid)

abbrev behind : Step → Listed ℕ → Listed ℕ
behind starts s = with_start s 0
behind (forks pid) s = with_child s pid 0
behind (execs pid) s = with_exec s pid
behind (ends pid) s = end_of s (process s pid)
behind (waits pid who may_wait) s = with_wait s pid who (looked s pid who may_wait)
behind (stays pid pipe) s = with_wait_on s pid pipe
behind (wakes pipe) s = with_wake s pipe

-- what it is told that asks for a child
abbrev told_to : Step → Listed ℕ → List (Result Waited Errno)
told_to (waits pid who may_wait) s = looked s pid who may_wait ∷ []
told_to _ s = []

-- who may run behind each step, oldest first
runs : Listed ℕ → List Step → List (List ℕ)
runs s [] = []
runs s (step ∷ steps) = reverse (ready_pids (behind step s)) ∷ runs (behind step s) steps

answers : Listed ℕ → List Step → List (Result Waited Errno)
answers s [] = []
answers s (step ∷ steps) = told_to step s ++ answers (behind step s) steps

-- ---- families

abbrev families : List Step
families =
    -- the parent stands still until the child's execve or end, and no other child's
    starts ∷ forks 1 ∷ execs 2 ∷ forks 1 ∷ execs 2 ∷ ends 2 ∷ ends 3 ∷
    -- of two that have ended it is told of the one that ended first, or of the one that it means
    forks 1 ∷ ends 4 ∷ waits 1 All true ∷ waits 1 (Pid 4) true ∷ waits 1 All false ∷ waits 1 All true ∷
    -- it waits for one of two, and the end of the other one changes nothing
    forks 1 ∷ execs 5 ∷ forks 1 ∷ execs 6 ∷ waits 1 All false ∷ waits 1 (Pid 7) true ∷ waits 1 (Pid 5) true ∷ ends 6 ∷ ends 5 ∷ waits 1 (Pid 5) true ∷
    -- where the parent ends the child goes on, and goes at once when it ends; so do those that had ended
    forks 1 ∷ forks 7 ∷ ends 7 ∷ forks 8 ∷ ends 9 ∷ ends 8 ∷ ends 1 ∷ []

families-run :
    runs none_yet families
    ≡ (1 ∷ []) ∷ (2 ∷ []) ∷ (1 ∷ 2 ∷ []) ∷ (2 ∷ 3 ∷ []) ∷ (2 ∷ 3 ∷ []) ∷ (3 ∷ []) ∷ (1 ∷ []) ∷
    (4 ∷ []) ∷ (1 ∷ []) ∷ (1 ∷ []) ∷ (1 ∷ []) ∷ (1 ∷ []) ∷ (1 ∷ []) ∷
    (5 ∷ []) ∷ (1 ∷ 5 ∷ []) ∷ (5 ∷ 6 ∷ []) ∷ (1 ∷ 5 ∷ 6 ∷ []) ∷ (1 ∷ 5 ∷ 6 ∷ []) ∷ (1 ∷ 5 ∷ 6 ∷ []) ∷ (5 ∷ 6 ∷ []) ∷ (5 ∷ []) ∷ (1 ∷ []) ∷ (1 ∷ []) ∷
    (7 ∷ []) ∷ (8 ∷ []) ∷ (1 ∷ 8 ∷ []) ∷ (1 ∷ 9 ∷ []) ∷ (1 ∷ 8 ∷ []) ∷ (1 ∷ []) ∷ [] ∷ []
unfolding find change without resumed state_behind ended_behind first_ended without_first told ready runs
families-run = refl

families-told :
    answers none_yet families
    ≡ Ok (Child 2 (Exit 2)) ∷ Ok (Child 4 (Exit 4)) ∷ Ok (Child 3 (Exit 3)) ∷ Err Echild ∷
    Ok NoneYet ∷ Err Echild ∷ Ok Waits ∷ Ok (Child 5 (Exit 5)) ∷ []
unfolding find change without resumed state_behind ended_behind first_ended without_first told ready answers
families-told = refl

-- ---- pipes

abbrev pipes : List Step
pipes =
    starts ∷ starts ∷ forks 2 ∷ execs 3 ∷
    -- where all wait none may run, and a pipe that none waits on changes nothing
    stays 1 5 ∷ stays 2 6 ∷ stays 3 5 ∷ wakes 7 ∷ wakes 4 ∷
    -- a pipe lets all go on that wait on it, and no other
    wakes 6 ∷ wakes 6 ∷ wakes 5 ∷
    -- the end of a child doesn't let its parent go on that waits on a pipe
    stays 2 5 ∷ ends 3 ∷ wakes 5 ∷ waits 2 All true ∷
    -- a pipe with a child's number lets none go on that stands still or waits for the child
    forks 1 ∷ wakes 4 ∷ execs 4 ∷ waits 1 (Pid 4) true ∷ stays 2 4 ∷ wakes 4 ∷ ends 4 ∷ []

pipes-run :
    runs none_yet pipes
    ≡ (1 ∷ []) ∷ (1 ∷ 2 ∷ []) ∷ (1 ∷ 3 ∷ []) ∷ (1 ∷ 2 ∷ 3 ∷ []) ∷
    (2 ∷ 3 ∷ []) ∷ (3 ∷ []) ∷ [] ∷ [] ∷ [] ∷
    (2 ∷ []) ∷ (2 ∷ []) ∷ (1 ∷ 2 ∷ 3 ∷ []) ∷
    (1 ∷ 3 ∷ []) ∷ (1 ∷ []) ∷ (1 ∷ 2 ∷ []) ∷ (1 ∷ 2 ∷ []) ∷
    (2 ∷ 4 ∷ []) ∷ (2 ∷ 4 ∷ []) ∷ (1 ∷ 2 ∷ 4 ∷ []) ∷ (2 ∷ 4 ∷ []) ∷ (4 ∷ []) ∷ (2 ∷ 4 ∷ []) ∷ (1 ∷ 2 ∷ []) ∷ []
unfolding find change without resumed state_behind roused ended_behind first_ended without_first told ready runs
pipes-run = refl

pipes-told : answers none_yet pipes ≡ Ok (Child 3 (Exit 3)) ∷ Ok Waits ∷ []
unfolding find change without resumed state_behind roused ended_behind first_ended without_first told ready answers
pipes-told = refl

-- ---- the list at its limit: one lives, and so many children of it have ended

children : ℕ → Listed ℕ → Listed ℕ
children zero s = s
children (suc more) s = children more (behind (ends s.next_pid) (behind (forks 1) s))

abbrev full : Listed ℕ
full = children 63 (behind starts none_yet)

-- those that have ended count, up to 64
abbrev told_once : Listed ℕ
told_once = behind (waits 1 All true) full

counts : (count full ∷ full.next_pid ∷ count told_once ∷ count (behind (forks 1) told_once) ∷ []) ≡ 64 ∷ 65 ∷ 63 ∷ 64 ∷ []
unfolding find change without resumed state_behind ended_behind first_ended without_first told children
counts = refl

-- it is told of the first one, and makes another child, which is left when it ends and its children that have ended go with it
abbrev last : List Step
last = waits 1 All true ∷ forks 1 ∷ ends 1 ∷ starts ∷ []

last-run : runs full last ≡ (1 ∷ []) ∷ (65 ∷ []) ∷ (65 ∷ []) ∷ (65 ∷ 66 ∷ []) ∷ []
unfolding find change without resumed state_behind ended_behind first_ended without_first told ready runs children
last-run = refl

last-told : answers full last ≡ Ok (Child 2 (Exit 2)) ∷ []
unfolding find change without resumed state_behind ended_behind first_ended without_first told ready answers children
last-told = refl
