-- One memory stands for every world of a run, so that the bytes of a space are there exactly in its own ranges.
use Rattle.std.proofs.Common.{◌≡◌, ℕ, zero, suc, Bool, true, false, List, [], ◌∷◌, Option, Some, None, refl, ap, subst, ◌∙◌, arith}
use Rattle.std.specs.Prelude.{is_some, if◌then◌else◌, map}
use Rattle.byte_words.specs.declared.access.Access.{Access}
use Rattle.byte_words.specs.ByteMap.{Bytes}
use Rattle.region_watch.specs.Private.{only}
use Rattle.mmap_rules.specs.Space.{own_in}
use Rattle.call_log.specs.Notes.{stray_note}
use Rattle.quantum_sched.specs.declared.Quantum.{Quantum}
use Rattle.quantum_sched.specs.Picked.{picked}
use Rattle.machine_world.specs.World.{World}
use Rattle.machine_world.specs.Families.{MayRun, ready_pids}
use Rattle.machine_world.specs.Event.{Trace, Outcome, went, strays, full, idle, noted, event}
use Rattle.machine_world.specs.Turns.{Walk, End, stray_at, traced, remains_at, turned, turn, going_on, quantum_turn, turns}
use Rattle.machine_world.proofs.TurnLaws.{turn_strays}
use Rattle.machine_world.proofs.Runnable.{may_run_still, ready_found}
use Rattle.alone_laws.specs.Sound.{IsSound}
use Rattle.alone_laws.proofs.SoundRuns.{boots_are_sound, events_keep_sound, turns_keep_sound}
use Rattle.memory_world.specs.Physical.{Physical, in_memory, shown_space, opening_in}
use Rattle.go_on_laws.specs.Alike.{Stands}
use Rattle.go_on_laws.specs.OwnBytes.{OwnBytesAreThere, ShownBytesAreThere, RunsHaveOwnBytes}
use Rattle.go_on_laws.proofs.Pages.{own_inside}
use Rattle.go_on_laws.proofs.Behind.{found_shows}
use Rattle.go_on_laws.proofs.Boots.{boots_go_on}
use Rattle.go_on_laws.proofs.Events.{events_go_on}

-- ---- a world for which memory stands

module _ (w : World) (p : Physical) (sound : IsSound w) (stands : Stands w p) where
  shown : map (shown_space p.memory) w.spaces ≡ w.spaces
  shown = subst (λ (v : World). map (shown_space p.memory) v.spaces ≡ v.spaces) stands.world stands.shown

  -- memory has a byte at each address of a space
  there : (own : Bool) (a : ℕ) → (own ≡ true → in_memory w a ≡ true) → is_some (if own then p.memory a else None) ≡ own
  there true a inside = stands.all a ∙ inside refl
  there false a inside = refl

  pub own_bytes_there : OwnBytesAreThere w
  unfolding only
  own_bytes_there i s found a =
      ap (λ (m : Bytes). is_some (m a)) (found_shows p.memory i s w.spaces shown found)
      ∙ there (own_in s.space.maps a) a (own_inside w sound i s found a)

pub shown_bytes_are_there : ShownBytesAreThere
shown_bytes_are_there w p sound stands = own_bytes_there w p sound stands

-- ---- along a run

-- what is kept
record Stood (w : World) : Type 0 where
  sound : IsSound w
  memory : Physical
  stands : Stands w memory

stood_bytes : (w : World) → Stood w → OwnBytesAreThere w
stood_bytes w h = own_bytes_there w h.memory h.sound h.stands

abbrev StoodBehind : Walk → Type 0
StoodBehind walk = Stood walk.world

module _ (w : World) (pid : ℕ) (may : MayRun w pid) (h : Stood w) where
  stood_went : (now : World) (t : Trace) → event w pid ≡ went now t → Stood now
  stood_went now t is =
      let leads = events_go_on w h.memory pid now t h.sound h.stands is in
      record { sound = events_keep_sound w pid now t h.sound may is; memory = leads.behind; stands = leads.stands }

  -- a note changes nothing of it
  stood_strays : (access : Access) → event w pid ≡ strays access → StoodBehind (remains_at (noted (stray_note pid access) w) (Some (stray_at pid access)))
  stood_strays access is = record {
    sound = subst (λ (walk : Walk). IsSound walk.world) (turn_strays pid w access is 1 (omega arith)) (turns_keep_sound 1 pid w h.sound may);
    memory = record h.memory { world = noted (stray_note pid access) w };
    stands = record { world = refl; shown = shown w h.memory h.sound h.stands; all = h.stands.all; copies = h.stands.copies; headers = h.stands.headers };
  }

  stood_turned : (more : World → Walk) → ((v : World) → MayRun v pid → Stood v → StoodBehind (more v)) → (o : Outcome) → event w pid ≡ o → StoodBehind (turned more w pid o)
  stood_turned more on (went now t) is = over t.over refl
    where
      over : (b : Bool) → t.over ≡ b → StoodBehind (traced t (if b then remains_at now None else more now))
      over true ends = stood_went now t is
      over false ends = on now (may_run_still w pid now t may is ends) (stood_went now t is)
  stood_turned more on (strays access) is = stood_strays access is
  stood_turned more on full is = h
  stood_turned more on idle is = h

stood_turn : (count pid : ℕ) (w : World) → MayRun w pid → Stood w → StoodBehind (turn count pid w)
unfolding turn
stood_turn zero pid w may h = h
stood_turn (suc count) pid w may h = stood_turned w pid may h (turn count pid) (λ v still k. stood_turn count pid v still k) (event w pid) refl

stood_quantum : (more : World → Walk) (w : World) (count : ℕ) (chosen : Option ℕ) → ((pid : ℕ) → chosen ≡ Some pid → MayRun w pid) → Stood w
    → ((v : World) → Stood v → StoodBehind (more v)) → StoodBehind (quantum_turn more w count chosen)
stood_quantum more w count None may h on = h
stood_quantum more w count (Some pid) may h on = goes (turn count pid w) (stood_turn count pid w (may pid refl) h)
  where
    goes : (walk : Walk) → StoodBehind walk → StoodBehind (going_on more walk)
    goes walk k = at walk.end
      where
        at : (end : Option End) → StoodBehind (going_on more (record walk { end = end }))
        at (Some end) = k
        at None = on walk.world k

stood_turns : (quanta : List Quantum) (w : World) → Stood w → StoodBehind (turns quanta w)
unfolding turns
stood_turns [] w h = h
stood_turns (q ∷ qs) w h =
    stood_quantum (turns qs) w q.count (picked q.pick (ready_pids w.procs)) (λ pid is. ready_found w.procs w.next_pid q.pick pid is h.sound.pids) h
    (λ v k. stood_turns qs v k)

pub runs_have_own_bytes : RunsHaveOwnBytes
runs_have_own_bytes rest starts w quanta can few is =
    stood_bytes (turns quanta w).world
    (stood_turns quanta w
    (record {
      sound = boots_are_sound rest starts w can few is;
      memory = opening_in [] w;
      stands = boots_go_on rest starts w [] can few (λ i header there. absurd cc) is;
    }))
