-- The call of a run that goes on is an event of it.
use Rattle.std.proofs.Common.{◌≡◌, ℕ, Bool, true, false, Option, Some, None, refl, sym, ap, ◌∙◌}
use Rattle.std.specs.Prelude.{if◌then◌else◌}
use Rattle.byte_words.specs.declared.access.Access.{Access}
use Rattle.rv32im_step.specs.declared.stop.Stop.TheVariants.{Call}
use Rattle.machine_world.specs.Event.{stray_in, event, called, stray}
use Rattle.machine_world.specs.Courses.{StandsAt}
use Rattle.machine_world.proofs.States.{is_called}
use Rattle.memory_world.specs.Physical.{Physical, has_stray, first_stray_in, with_stray, event_in, carried_out, called_in}
use Rattle.memory_world.specs.Courses.{StandsIn}
use Rattle.memory_world.proofs.Moves.{carried_called}
use Rattle.kept_parts.specs.InMemory.{first_range, called_on}
use Rattle.syscall_layer.specs.CallEvents.{CallsAreEvents}

module _ (p : Physical) (pid : ℕ) (stands_in : StandsIn p pid Call) (stands : has_stray p.world.notes ≡ false → StandsAt p.world pid Call) where
  event_called : has_stray p.world.notes ≡ false → event p.world pid ≡ called p.world pid
  event_called quiet = let s = stands quiet in is_called p.world pid s.process s.space s.lives s.has s.means

  same_range : (was : Bool) → has_stray p.world.notes ≡ was → (if was then None else stray_in (called p.world pid)) ≡ (if was then None else stray_in (event p.world pid))
  same_range true is = refl
  same_range false is = ap stray_in (sym (event_called is))

  range_is : first_range p pid ≡ first_stray_in p pid
  unfolding first_range stray
  range_is = same_range (has_stray p.world.notes) refl

  -- its note changes nothing of what it does
  called_noted : (range : Option Access) → carried_out (with_stray pid range p) pid ≡ called_in (with_stray pid range p) pid
  called_noted None = let s = stands_in in carried_called p pid s.process s.space s.lives s.has s.means
  called_noted (Some access) = let s = stands_in in carried_called (with_stray pid (Some access) p) pid s.process s.space s.lives s.has s.means

  pub call_is_event : called_on p pid ≡ event_in p pid
  unfolding called_on event_in
  call_is_event = ap (λ (range : Option Access). called_in (with_stray pid range p) pid) range_is ∙ sym (called_noted (first_stray_in p pid))

pub calls_are_events : CallsAreEvents
calls_are_events p pid stands_in stands = call_is_event p pid stands_in stands
