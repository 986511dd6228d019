-- Who is in a space after some notes, as a set of pids.
use Rattle.std.specs.Prelude.{◌≡◌, ℕ, ◌==◌, nat_eq, Bool, if◌then◌else◌, List}
use Rattle.call_log.specs.Notes.{Note}
use Rattle.indexmap.specs.IndexSet.{IndexSet, contains}
use Rattle.recording_laws.specs.Homes.{loads_in, home, is_in}
use Rattle.recorded_items.specs.declared.members.Members.{Members}

module _ {S : Type 0} where
  abbrev pub is_member : ℕ → IndexSet ℕ S → Bool
  is_member pid pids = contains nat_eq pids pid

  -- one process is in from now on, or isn't, and each other one is as it was
  abbrev pub Puts : ℕ → Bool → IndexSet ℕ S → IndexSet ℕ S → Type 0
  Puts pid inside old new = (one : ℕ) → is_member one new ≡ (if pid == one then inside else is_member one old)

  -- the numbers are those of a space and of the load notes, and the pids those that have their home in the space
  pub record Follow (space own count : ℕ) (pids : IndexSet ℕ S) (notes : List Note) : Type 0 where
    pub same : own ≡ space
    pub loads : count ≡ loads_in notes
    pub homes : (pid : ℕ) → is_member pid pids ≡ is_in space (home pid notes)

abbrev pub AreMembers : ℕ → Members → List Note → Type 0
AreMembers space m notes = Follow space m.space m.loads m.pids notes
