-- No end is noted at boot.
use Rattle.std.proofs.Common.{ℕ, Bool, true, false, List, [], ◌∷◌, Option, Some, None, Result, Ok, Err, subst}
use Rattle.call_log.specs.Notes.{Note}
use Rattle.flat_loader.specs.Original.{block_pages}
use Rattle.flat_loader.specs.Frame.{frame_fits}
use Rattle.machine_world.specs.World.{World}
use Rattle.machine_world.specs.Free.{free}
use Rattle.machine_world.specs.Boot.{StartLine, BootFault, Found, found, start_path, taken, placed, fitting, located, started, then_started, all_started, empty_world, boot}
use Rattle.end_laws.specs.Laws.{BootsEndNone}
use Rattle.end_laws.proofs.NewNotes.{AllEnds, end_at}

-- none of these notes is of an end
abbrev NoneEnds : List Note → Type 0
NoneEnds = AllEnds (λ pid how. ⊥)

-- a start line adds the note of its load alone
abbrev Starts : Result World BootFault → Type 0
Starts (Ok now) = NoneEnds now.notes
Starts (Err fault) = Unit {0}

module _ (w : World) (none : NoneEnds w.notes) (s : StartLine) where
  starts_placed : (f : Found) (page : Option ℕ) → Starts (placed w s f page)
  starts_placed f None = tt
  starts_placed f (Some page) = (tt, none)

  starts_fitting : (f : Found) (fits : Bool) → Starts (fitting w s f fits)
  starts_fitting f true = starts_placed f (taken w (block_pages f.original) (free w))
  starts_fitting f false = tt

  starts_located : (o : Option Found) → Starts (located w s o)
  starts_located None = tt
  starts_located (Some f) = starts_fitting f (frame_fits f.original s.args [])

  starts_started : Starts (started w s)
  unfolding started
  starts_started = starts_located (found w.rest (start_path s))

starts_all : (ss : List StartLine) (w : World) → NoneEnds w.notes → Starts (all_started w ss)
unfolding all_started
starts_all [] w none = none
starts_all (s ∷ ss) w none = on (started w s) (starts_started w none s) (λ v h. starts_all ss v h)
  where
    on : (r : Result World BootFault) → Starts r → ((v : World) → NoneEnds v.notes → Starts (all_started v ss)) → Starts (then_started r (λ now. all_started now ss))
    on (Ok now) h more = more now h
    on (Err fault) h more = tt

pub boots_end_none : BootsEndNone
unfolding boot
boots_end_none rest starts w is i pid how there = end_at (λ n h. ⊥) w.notes i pid how (subst Starts is (starts_all starts (empty_world rest) tt)) there
