-- How the processes of a world stand to each other (Linux, vfork(2), wait(2), in this project's profile).
use Rattle.std.specs.Prelude.{◌≡◌, ℕ, ◌+◌, ◌==◌, Bool, true, false, nat_le, if◌then◌else◌, List, [], ◌∷◌, length, map, filter, Option, Some, option_map}
use Rattle.std.specs.List.{list_any}
use Rattle.vfork_exec.specs.declared.family.Who.{Who}
use Rattle.vfork_exec.specs.declared.family.State.{State}
use Rattle.vfork_exec.specs.declared.family.State.TheVariants.{Ready, Waiting, OnPipe, Lent}
use Rattle.vfork_exec.specs.Keyed.{find, without}
use Rattle.vfork_exec.specs.Families.{is_child, parent_behind, is_ready, is_lent_to, resumed, state_behind, roused}
use Rattle.vfork_exec.specs.Procs.{most_entries}
use Rattle.machine_world.specs.World.{Process, LiveSpace, World, pid_of, id_of}

-- ---- who may run

-- newest first
unfoldable pub ready_pids : List Process → List ℕ
ready_pids procs = map pid_of (filter (λ p. is_ready p.state) procs)

abbrev pub state_at : World → ℕ → Option State
state_at w pid = option_map (λ p. p.state) (find pid_of pid w.procs)

abbrev pub MayRun : World → ℕ → Type 0
MayRun w pid = state_at w pid ≡ Some Ready

-- 64 processes, those that have ended among them
unfoldable pub is_full : World → Bool
is_full w = nat_le most_entries (length w.procs + length w.ended)

-- ---- who leaves a space

-- whether it runs in a space that another process lent it
unfoldable pub borrows : Process → List Process → Bool
borrows p procs = list_any (λ q. is_lent_to p.pid q.state) procs

-- the space that a process leaves goes with its owner; a lent one stays
unfoldable pub spaces_left : Process → List Process → List LiveSpace → List LiveSpace
spaces_left p procs spaces = if borrows p procs then spaces else without id_of p.space spaces

-- another process behind an execve of the one with this pid
abbrev pub let_go : ℕ → Process → Process
let_go pid q = record q { state = resumed pid q.state }

-- another process behind the end of this one
abbrev pub left_by : Process → Process → Process
left_by gone q = record q { parent = parent_behind gone.pid q.parent; state = state_behind q.pid gone.pid gone.parent q.state }

unfoldable pub all_left_by : Process → List Process → List Process
all_left_by gone procs = map (left_by gone) (without pid_of gone.pid procs)

-- ---- who waits on pipes

-- another process, once this pipe has changed
abbrev pub roused_by : (pipe : ℕ) → Process → Process
roused_by pipe q = record q { state = roused pipe q.state }

-- once these have
unfoldable pub all_roused : (pipes : List ℕ) → List Process → List Process
all_roused [] procs = procs
all_roused (pipe ∷ pipes) procs = all_roused pipes (map (roused_by pipe) procs)

-- ---- who asks for its children

unfoldable pub has_child : ℕ → Who → List Process → Bool
has_child pid who procs = list_any (λ q. is_child pid who q.pid q.parent) procs

-- ---- one runner a space

-- the processes of a space, newest first
unfoldable pub sharing : ℕ → List Process → List Process
sharing i procs = filter (λ p. p.space == i) procs

abbrev pub is_lent : State → Bool
is_lent Ready = false
is_lent (Waiting who) = false
is_lent (OnPipe pipe) = false
is_lent (Lent child) = true

-- each stands still for the one before it
abbrev pub AreLenders : (child : ℕ) → List Process → Type 0
AreLenders child [] = Unit {0}
AreLenders child (q ∷ qs) = (q.state ≡ Lent child) × AreLenders q.pid qs

-- the owner stands last, before it its vfork child, and so on: each stands still for its child, but the newest
abbrev pub IsChain : List Process → Type 0
IsChain [] = Unit {0}
IsChain (p ∷ qs) = (is_lent p.state ≡ false) × AreLenders p.pid qs

abbrev pub AreChains : List Process → Type 0
AreChains procs = (i : ℕ) → IsChain (sharing i procs)
