-- One process in its space, behind instructions over one memory.
use Rattle.std.proofs.Common.{◌≡◌, ℕ, ◌+◌, Bool, true, false, List, map, Option, Some, None, refl, sym, ap, subst, ◌∙◌, arith}
use Rattle.std.specs.Prelude.{option_map, if◌then◌else◌}
use Rattle.byte_words.specs.ByteMap.{Bytes}
use Rattle.rv32im_step.specs.declared.regs.Regs.{Regs}
use Rattle.byte_words.specs.declared.access.Access.{Access}
use Rattle.rv32im_step.specs.Meaning.{Meaning, next, call, trap, refused, meaning}
use Rattle.call_log.specs.Notes.{stray_note}
use Rattle.mmap_rules.specs.Space.{Space, own_in, writable_in}
use Rattle.region_watch.specs.Private.{only}
use Rattle.vfork_exec.specs.Keyed.{find, change}
use Rattle.vfork_exec.proofs.Keyed.{find_map, change_map}
use Rattle.machine_world.specs.World.{Process, LiveSpace, World, pid_of, id_of}
use Rattle.machine_world.specs.Event.{noted, effect, stepped, stray_in, stray}
use Rattle.machine_world.specs.Courses.{moved}
use Rattle.machine_world.specs.Recordings.{is_recorded}
use Rattle.machine_world.proofs.Raised.{raised_twice}
use Rattle.machine_world.proofs.States.{with_regs, with_own, change_twice, lives_moved, has_moved, not_moved, event_is}
use Rattle.memory_world.specs.Physical.{Physical, After, in_memory, shown_space, showing, settled_in, outside, killed, answer_in, moved_in, effect_in, at_process_in, next_meaning, carried_out, called_in, died_in, has_stray, first_stray_in, with_stray, event_in}
use Rattle.memory_world.specs.Wider.{IsWithin, Widens}
use Rattle.memory_world.specs.Courses.{IsShown}
use Rattle.memory_world.proofs.Widened.{wide_meaning}
use Rattle.memory_world.proofs.InMemory.{map_twice, space_shows, shown_showing, showing_shown}

same_both : (test : Bool) (o : Option Access) → (if test then o else o) ≡ o
same_both true o = refl
same_both false o = refl

-- a space as this memory shows it
abbrev pub own_now : Bytes → Space → Space
own_now m space = record space { bytes = only (own_in space.maps) m }

-- a space that was put in, shown
shown_change : (k : ℕ) (space : Space) (m : Bytes) (spaces : List LiveSpace)
    → map (shown_space m) (change id_of k (λ l. with_own l space) spaces) ≡ change id_of k (λ l. with_own l (own_now m space)) (map (shown_space m) spaces)
shown_change k space m spaces =
    change_map id_of id_of k (shown_space m) (λ l. refl) (λ l. with_own l space) (λ l. with_own l (own_now m space)) (λ l. refl) spaces

change_shown_twice : (k : ℕ) (space : Space) (first all : Bytes) (spaces : List LiveSpace)
    → map (shown_space all) (change id_of k (λ l. with_own l (own_now first space)) (map (shown_space first) (change id_of k (λ l. with_own l space) spaces)))
    ≡ map (shown_space all) (change id_of k (λ l. with_own l space) spaces)
change_shown_twice k space first all spaces =
    let last : LiveSpace → LiveSpace = λ l. with_own l (own_now all space) in
    shown_change k (own_now first space) all (map (shown_space first) (change id_of k (λ l. with_own l space) spaces))
    ∙ ap (change id_of k last) (map_twice all first (change id_of k (λ l. with_own l space) spaces) ∙ shown_change k space all spaces)
    ∙ change_twice id_of k last last last (λ l. refl) (λ l. refl) (map (shown_space all) spaces)
    ∙ sym (shown_change k space all spaces)

-- twice
pub moved_in_twice : (p : Physical) (q : Process) (after regs : Regs) (space : Space) (first all : Bytes) (i j : ℕ)
    → moved_in (moved_in p q space after first i) (with_regs q after) (own_now first space) regs all j ≡ moved_in p q space regs all (i + j)
moved_in_twice p q after regs space first all i j =
    let procs : change pid_of q.pid (λ o. with_regs o regs) (change pid_of q.pid (λ o. with_regs o after) p.world.procs) ≡ change pid_of q.pid (λ o. with_regs o regs) p.world.procs =
    change_twice pid_of q.pid (λ o. with_regs o after) (λ o. with_regs o regs) (λ o. with_regs o regs) (λ o. refl) (λ o. refl) p.world.procs in
    let events : p.world.events + i + j ≡ p.world.events + (i + j) = omega arith in
    let passed = raised_twice (is_recorded p.world.recording q.space) i j p.world.recording.events in
    rw (procs, change_shown_twice q.space space first all p.world.spaces, events, passed) refl

-- memory is shown
pub moved_shown : (p : Physical) (q : Process) (space : Space) (regs : Regs) (memory : Bytes) (done : ℕ) → IsShown (moved_in p q space regs memory done)
moved_shown p q space regs memory done = shown_showing memory (moved p.world q regs space done)

module _ (p : Physical) (pid : ℕ) (q : Process) (s : LiveSpace) (lives : find pid_of pid p.world.procs ≡ Some q) (has : find id_of q.space p.world.spaces ≡ Some s) where
  pub lives_in : (regs : Regs) (memory : Bytes) (done : ℕ) → find pid_of pid (moved_in p q s.space regs memory done).world.procs ≡ Some (with_regs q regs)
  lives_in regs memory done = lives_moved p.world pid q s lives has regs s.space done

  pub has_in : (regs : Regs) (memory : Bytes) (done : ℕ) → find id_of q.space (moved_in p q s.space regs memory done).world.spaces ≡ Some (shown_space memory s)
  has_in regs memory done =
      find_map id_of id_of q.space (shown_space memory) (λ l. refl) (moved p.world q regs s.space done).spaces
      ∙ ap (option_map (shown_space memory)) (has_moved p.world pid q s lives has regs s.space done)

  -- not at all
  pub moved_none : IsShown p → moved_in p q s.space q.regs p.memory 0 ≡ p
  moved_none shown =
      ap (λ (w : World). record p { world = showing p.memory w }) (not_moved p.world pid q s lives has)
      ∙ ap (λ (w : World). record p { world = w }) (showing_shown p.memory p.world shown)

  -- it is found as it is shown
  pub found_shown : IsShown p → find id_of q.space p.world.spaces ≡ Some (shown_space p.memory s)
  found_shown shown =
      ap (find id_of q.space) (sym shown) ∙ find_map id_of id_of q.space (shown_space p.memory) (λ l. refl) p.world.spaces ∙ ap (option_map (shown_space p.memory)) has

  pub found_is_shown : IsShown p → shown_space p.memory s ≡ s
  found_is_shown shown = let both = sym (found_shown shown) ∙ has in cc

  -- what comes of an act
  pub acts_in : (act : Process → Space → After) → at_process_in p pid act ≡ act q s.space
  unfolding at_process_in
  acts_in act = rw (lives, has) refl

  -- and of an event that isn't the first that strays
  pub event_in_is : first_stray_in p pid ≡ None → event_in p pid ≡ effect_in p q s.space (next_meaning p q)
  unfolding event_in carried_out
  event_in_is none =
      ap (λ (o : Option Access). carried_out (with_stray pid o p) pid) none ∙ acts_in (λ o l. effect_in p o l (next_meaning p o))

  -- an instruction that is carried out over the process's own bytes doesn't stray
  pub steps_unstrayed : (after : Regs) (now : Bytes) → meaning q.regs s.space.bytes (writable_in s.space.maps) ≡ next after now → first_stray_in p pid ≡ None
  unfolding stray stepped
  steps_unstrayed after now is =
      let none : stray p.world pid ≡ None = ap stray_in (event_is p.world pid q s lives has ∙ ap (effect p.world q s.space) is) in
      ap (λ (o : Option Access). if has_stray p.world.notes then None else o) none ∙ same_both (has_stray p.world.notes) None

-- nor does any, once one was noted
pub noted_unstrayed : (p : Physical) (pid : ℕ) → has_stray p.world.notes ≡ true → first_stray_in p pid ≡ None
noted_unstrayed p pid was = rw was refl

-- where none was noted it is the one of the world that memory shows
pub first_strays : (p : Physical) (pid : ℕ) (access : Access) → has_stray p.world.notes ≡ false → stray p.world pid ≡ Some access → first_stray_in p pid ≡ Some access
first_strays p pid access none is = rw (none, is) refl

-- it is noted, and then carried out as any other
pub event_in_carried : (p : Physical) (pid : ℕ) → event_in p pid ≡ carried_out (with_stray pid (first_stray_in p pid) p) pid
unfolding event_in
event_in_carried p pid = refl

pub event_in_strays : (p : Physical) (pid : ℕ) (access : Access) → first_stray_in p pid ≡ Some access
    → event_in p pid ≡ carried_out (record p { world = noted (stray_note pid access) p.world }) pid
event_in_strays p pid access is = event_in_carried p pid ∙ ap (λ (o : Option Access). carried_out (with_stray pid o p) pid) is

pub event_in_calm : (p : Physical) (pid : ℕ) → first_stray_in p pid ≡ None → event_in p pid ≡ carried_out p pid
event_in_calm p pid none = event_in_carried p pid ∙ ap (λ (o : Option Access). carried_out (with_stray pid o p) pid) none

-- by the next instruction
module _ (p : Physical) (pid : ℕ) (q : Process) (s : LiveSpace) (lives : find pid_of pid p.world.procs ≡ Some q) (has : find id_of q.space p.world.spaces ≡ Some s) where
  pub carried_is : carried_out p pid ≡ effect_in p q s.space (next_meaning p q)
  unfolding carried_out
  carried_is = acts_in p pid q s lives has (λ o l. effect_in p o l (next_meaning p o))

  pub carried_called : next_meaning p q ≡ call → carried_out p pid ≡ called_in p pid
  unfolding called_in
  carried_called is = carried_is ∙ ap (effect_in p q s.space) is ∙ sym (acts_in p pid q s lives has (λ o l. settled_in (answer_in p o l)))

  pub carried_trapped : (signal : ℕ) → next_meaning p q ≡ trap signal → carried_out p pid ≡ died_in p pid signal
  unfolding died_in
  carried_trapped signal is = carried_is ∙ ap (effect_in p q s.space) is ∙ sym (acts_in p pid q s lives has (λ o l. settled_in (killed p o signal)))

  pub carried_refused : (access : Access) → next_meaning p q ≡ refused access → carried_out p pid ≡ died_in p pid outside
  unfolding died_in
  carried_refused access is = carried_is ∙ ap (effect_in p q s.space) is ∙ sym (acts_in p pid q s lives has (λ o l. settled_in (killed p o outside)))

  -- a call and a trap over the process's own bytes are so over all of memory
  module _ (shown : IsShown p) (within : IsWithin (own_in s.space.maps) (writable_in s.space.maps)) (inside : IsWithin (in_memory p.world) (writable_in s.space.maps)) where
    widens : Widens (own_in s.space.maps) (writable_in s.space.maps) p.memory (meaning q.regs s.space.bytes (writable_in s.space.maps)) (next_meaning p q)
    widens =
        let P : Bytes → Type 0 = λ bytes. Widens (own_in s.space.maps) (writable_in s.space.maps) p.memory (meaning q.regs bytes (writable_in s.space.maps)) (next_meaning p q) in
        subst P (sym (space_shows p.memory s (found_is_shown p pid q s lives has shown)))
        (wide_meaning (own_in s.space.maps) (writable_in s.space.maps) (in_memory p.world) q.regs p.memory within inside)

    pub calls_in : meaning q.regs s.space.bytes (writable_in s.space.maps) ≡ call → next_meaning p q ≡ call
    calls_in is = same (next_meaning p q) (subst (λ m. Widens (own_in s.space.maps) (writable_in s.space.maps) p.memory m (next_meaning p q)) is widens)
      where
        same : (m : Meaning) → Widens (own_in s.space.maps) (writable_in s.space.maps) p.memory call m → m ≡ call
        same call w = refl
        same (next regs memory) w = absurd w
        same (trap signal) w = absurd w
        same (refused access) w = absurd w

    pub traps_in : (signal : ℕ) → meaning q.regs s.space.bytes (writable_in s.space.maps) ≡ trap signal → next_meaning p q ≡ trap signal
    traps_in signal is = same (next_meaning p q) (subst (λ m. Widens (own_in s.space.maps) (writable_in s.space.maps) p.memory m (next_meaning p q)) is widens)
      where
        same : (m : Meaning) → Widens (own_in s.space.maps) (writable_in s.space.maps) p.memory (trap signal) m → m ≡ trap signal
        same (trap other) w = ap trap w
        same (next regs memory) w = absurd w
        same call w = absurd w
        same (refused access) w = absurd w
