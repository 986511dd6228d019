-- In which space a process runs, and which calls were made in a space, as the notes tell it.
use Rattle.std.specs.Prelude.{◌≡◌, ℕ, ◌+◌, ◌==◌, Bool, false, not, ◌&&◌, if◌then◌else◌, List, [], ◌∷◌, ◌++◌, map, length, Option, Some, None, slice_get}
use Rattle.call_log.specs.Notes.{CallEntry, Note, call_note, load_note, end_note, stray_note}
use Rattle.call_log.specs.Numbers as numbers
use Rattle.vfork_exec.specs.Keyed.{find}
use Rattle.flat_loader.specs.Alone.{Item, is_errno}
use Rattle.machine_world.specs.World.{Process, World, pid_of}
use Rattle.alone_laws.specs.Stays.{Stay}

-- a clone that wasn't refused: its reply is the child's pid
abbrev pub forks : CallEntry → Bool
forks e = e.call == numbers.clone && not (is_errno e.reply)

-- how many load notes there are, among notes that stand newest first
unfoldable pub loads_in : List Note → ℕ
loads_in [] = 0
loads_in (load_note l ∷ notes) = loads_in notes + 1
loads_in (call_note e ∷ notes) = loads_in notes
loads_in (end_note pid how ∷ notes) = loads_in notes
loads_in (stray_note pid seen ∷ notes) = loads_in notes

-- the space in which a process runs: a load note puts its process into a new one, and a clone its child into its caller's
unfoldable pub home : ℕ → List Note → Option ℕ
home pid [] = None
home pid (load_note l ∷ notes) = if l.pid == pid then Some (loads_in notes) else home pid notes
home pid (call_note e ∷ notes) = if forks e && (e.reply == pid) then home e.pid notes else home pid notes
home pid (end_note who how ∷ notes) = home pid notes
home pid (stray_note who seen ∷ notes) = home pid notes

abbrev pub is_in : ℕ → Option ℕ → Bool
is_in i None = false
is_in i (Some space) = space == i

-- the calls that were made in a space, oldest first
unfoldable pub calls_at : ℕ → List Note → List CallEntry
calls_at i [] = []
calls_at i (call_note e ∷ notes) = calls_at i notes ++ (if is_in i (home e.pid notes) then e ∷ [] else [])
calls_at i (load_note l ∷ notes) = calls_at i notes
calls_at i (end_note pid how ∷ notes) = calls_at i notes
calls_at i (stray_note pid seen ∷ notes) = calls_at i notes

-- the calls of a stay, if there is one
abbrev pub items_of : Option Stay → List Item
items_of None = []
items_of (Some y) = y.items

abbrev pub entries_of : List Item → List CallEntry
entries_of items = map (λ (i : Item). i.entry) items

-- the notes tell each process's space, and of each space the calls of its stay
pub record AreAtHome (ys : List Stay) (w : World) : Type 0 where
  pub count : length ys ≡ w.loads
  pub loads : loads_in w.notes ≡ w.loads
  pub homes : (pid : ℕ) (p : Process) → find pid_of pid w.procs ≡ Some p → home pid w.notes ≡ Some p.space
  pub calls : (i : ℕ) → calls_at i w.notes ≡ entries_of (items_of (slice_get ys i))
