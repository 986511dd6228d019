-- The event of the run's first stray access: behind its note the turn goes on as from before it.
use Rattle.std.proofs.Common.{◌≡◌, ℕ, suc, Bool, true, false, Option, Some, None, refl, sym, ap, ◌∙◌}
use Rattle.std.specs.Prelude.{if◌then◌else◌}
use Rattle.byte_words.specs.declared.access.Access.{Access}
use Rattle.rv32im_step.specs.Meaning.{meaning}
use Rattle.mmap_rules.specs.Space.{Space, writable_in}
use Rattle.vfork_exec.specs.Keyed.{find}
use Rattle.machine_world.specs.World.{Process, LiveSpace, World, pid_of, id_of}
use Rattle.machine_world.specs.Families.{MayRun}
use Rattle.machine_world.specs.Event.{Outcome, effect, in_space, by_process, at_process, event, stray_in, stray}
use Rattle.memory_world.specs.Physical.{Physical, After, after, no_room, nobody, has_stray, first_stray_in, with_stray, event_in, carried_out, turn_in, turned_in, WalkIn}
use Rattle.memory_world.proofs.Moves.{noted_unstrayed, event_in_strays, event_in_calm}
use Rattle.memory_world.proofs.TurnsIn.{turn_in_next}
use Rattle.flat_machine.proofs.StillIn.{StillIn, still_in}

-- its access was noted, and nothing of it was carried out
pub record StraysIn (pid : ℕ) (old new : Physical) : Type 0 where
  pub access : Access
  pub first : first_stray_in old pid ≡ Some access
  pub noted : new ≡ with_stray pid (Some access) old

-- ---- who strays lives in a space

abbrev act_in : World → Process → Space → Outcome
act_in w p s = effect w p s (meaning p.regs s.bytes (writable_in s.maps))

record IsThere (w : World) (pid : ℕ) (access : Access) : Type 0 where
  process : Process
  space : LiveSpace
  lives : find pid_of pid w.procs ≡ Some process
  has : find id_of process.space w.spaces ≡ Some space
  strays : stray_in (act_in w process space.space) ≡ Some access

there_of : (w : World) (pid : ℕ) (access : Access) → stray w pid ≡ Some access → IsThere w pid access
unfolding stray event at_process
there_of w pid access is = found (find pid_of pid w.procs) refl is
  where
    in_its : (p : Process) → find pid_of pid w.procs ≡ Some p → (o : Option LiveSpace) → find id_of p.space w.spaces ≡ o → stray_in (in_space (act_in w) p o) ≡ Some access → IsThere w pid access
    in_its p lives None has is = absurd cc
    in_its p lives (Some s) has is = record { process = p; space = s; lives = lives; has = has; strays = is }

    found : (o : Option Process) → find pid_of pid w.procs ≡ o → stray_in (by_process w.spaces (act_in w) o) ≡ Some access → IsThere w pid access
    found None lives is = absurd cc
    found (Some p) lives is = in_its p lives (find id_of p.space w.spaces) refl is

first_is_stray : (p : Physical) (pid : ℕ) (access : Access) → first_stray_in p pid ≡ Some access → stray p.world pid ≡ Some access
first_is_stray p pid access is = by (has_stray p.world.notes) (stray p.world pid) is
  where
    by : (was : Bool) (o : Option Access) → (if was then None else o) ≡ Some access → o ≡ Some access
    by true o is = absurd cc
    by false o is = is

-- and no stray access was noted before
pub first_is_quiet : (p : Physical) (pid : ℕ) (access : Access) → first_stray_in p pid ≡ Some access → has_stray p.world.notes ≡ false
first_is_quiet p pid access is = by (has_stray p.world.notes) (stray p.world pid) is
  where
    by : (was : Bool) (o : Option Access) → (if was then None else o) ≡ Some access → was ≡ false
    by true o is = absurd cc
    by false o is = refl

-- ---- the event, and the turn

module _ (pid : ℕ) (at mid : Physical) (x : StraysIn pid at mid) where
  was_noted : has_stray mid.world.notes ≡ true
  was_noted = ap (λ (p : Physical). has_stray p.world.notes) x.noted

  pub before_is : event_in at pid ≡ carried_out mid pid
  before_is = event_in_strays at pid x.access x.first ∙ ap (λ (p : Physical). carried_out p pid) (sym x.noted)

  pub behind_is : event_in mid pid ≡ carried_out mid pid
  behind_is = event_in_calm mid pid (noted_unstrayed mid pid was_noted)

  module _ (may : MayRun mid.world pid) where
    somebody : StillIn pid (carried_out mid pid)
    somebody =
        let s = there_of at.world pid x.access (first_is_stray at pid x.access x.first) in
        still_in mid pid s.process s.space (ap (λ (p : Physical). find pid_of pid p.world.procs) x.noted ∙ s.lives) (ap (λ (p : Physical). find id_of s.process.space p.world.spaces) x.noted ∙ s.has) may

    same_turned : (more : Physical → WalkIn) (a : After) → StillIn pid a → turned_in more at a ≡ turned_in more mid a
    same_turned more (after now over) still = refl
    same_turned more (no_room now) still = refl
    same_turned more nobody still = absurd still

    pub strays_on : (n : ℕ) → turn_in (suc n) pid at ≡ turn_in (suc n) pid mid
    strays_on n =
        turn_in_next pid at n (carried_out mid pid) before_is ∙ same_turned (turn_in n pid) (carried_out mid pid) somebody
        ∙ sym (turn_in_next pid mid n (carried_out mid pid) behind_is)
