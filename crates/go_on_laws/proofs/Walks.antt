-- Turns and runs.
use Rattle.std.proofs.Common.{◌≡◌, ℕ, zero, suc, Bool, true, false, List, [], ◌∷◌, ◌++◌, length, Option, Some, None, refl, sym, ap, subst, ◌∙◌, append_assoc}
use Rattle.std.specs.Prelude.{◌==◌, if◌then◌else◌, IsSome, option_map}
use Rattle.std.proofs.lemmas.Option.{none-some}
use Rattle.byte_words.specs.declared.access.Access.{Access}
use Rattle.call_log.specs.Notes.{Note, stray_note}
use Rattle.mmap_rules.specs.Space.{Space}
use Rattle.quantum_sched.specs.declared.Quantum.{Quantum}
use Rattle.quantum_sched.specs.Picked.{picked}
use Rattle.vfork_exec.specs.declared.family.State.TheVariants.{Ready}
use Rattle.vfork_exec.specs.Keyed.{find}
use Rattle.machine_world.specs.World.{Process, LiveSpace, Rest, World, pid_of, id_of}
use Rattle.machine_world.specs.Families.{MayRun, ready_pids}
use Rattle.machine_world.specs.Asks.{Ask, Row, replies, waits}
use Rattle.machine_world.specs.Event.{Trace, Outcome, went, strays, full, idle, noted, ended, ask_of, event, stray}
use Rattle.machine_world.specs.Turns.{Walk, End, all_ended, stuck, out_of_quanta, stray_at, log_full, remains_at, traced, turned, turn, going_on, none_runs, quantum_turn, last_end, turns}
use Rattle.machine_world.proofs.EachChange.{Answers}
use Rattle.machine_world.proofs.ByEvents.{Went, Answered, Happened, by_event}
use Rattle.machine_world.proofs.Runnable.{may_run_still, ready_found}
use Rattle.alone_laws.specs.Sound.{IsSound}
use Rattle.alone_laws.proofs.SoundRuns.{events_keep_sound, turns_keep_sound}
use Rattle.memory_world.specs.Physical.{Physical, After, after, no_room, nobody, carried_out, has_stray, event_in, WalkIn, remains_at_in, turned_in, turn_in, going_on_in, quantum_turn_in, turns_in}
use Rattle.memory_world.specs.Growth.{Adds}
use Rattle.memory_world.proofs.Moves.{first_strays, noted_unstrayed, event_in_strays, event_in_calm}
use Rattle.memory_world.proofs.Growth.{turns_add, runs_add}
use Rattle.go_on_laws.specs.Alike.{Stands}
use Rattle.go_on_laws.specs.Laws.{LeadsTo, EndsAlike, GoesPast, GoesAlike, TurnsGoOn, RunsGoOn}
use Rattle.go_on_laws.proofs.Behind.{Goes}
use Rattle.go_on_laws.proofs.Events.{goes_event, calm, events_go_on, full_events_go_on}
use Rattle.go_on_laws.proofs.Done.{Done, done_carried_out}

-- ---- an event that doesn't stray notes no stray access

answers_any : (r : Row) → Answers (λ (rest : Rest). Unit {0}) r
answers_any (replies r) = tt
answers_any (waits state) = tt

module _ (w : World) where
  abbrev Unstrayed : World → Trace → Type 0
  Unstrayed now t = has_stray now.notes ≡ has_stray w.notes

  call_unstrayed : (a : Ask) → Answered Unstrayed (λ rest. Unit {0}) w a
  unfolding ended
  call_unstrayed a = record {
    reply = λ ended r m holds room. refl;
    wait = λ state. refl;
    exit = λ room. refl;
    fork = λ few room. refl;
    load = λ f s page is fits room. refl;
  }

  act_unstrayed : (q : Process) (s : Space) → Happened Unstrayed (λ rest. Unit {0}) w q s
  unfolding ended
  act_unstrayed q s = record { step = λ regs bytes. refl; trap = λ signal. refl; calls = λ bytes. call_unstrayed (ask_of w q s bytes) }

  still_unstrayed : (pid : ℕ) (now : World) (t : Trace) → event w pid ≡ went now t → has_stray w.notes ≡ false → has_stray now.notes ≡ false
  still_unstrayed pid now t is none =
      subst (Went Unstrayed) is
      (by_event Unstrayed (λ rest. Unit {0}) (λ now t h. h) w tt pid (λ q s lives has. act_unstrayed q s.space) (λ q s bytes. answers_any _)) ∙ none

-- ---- an event that strays

-- a process that may run lives in a live space
record Lives (w : World) (pid : ℕ) : Type 0 where
  process : Process
  space : LiveSpace
  lives : find pid_of pid w.procs ≡ Some process
  has : find id_of process.space w.spaces ≡ Some space

some_lives : (w : World) (pid : ℕ) → IsSound w → MayRun w pid → Lives w pid
some_lives w pid sound may = by (find pid_of pid w.procs) refl may
  where
    by_space : (q : Process) → find pid_of pid w.procs ≡ Some q → (o : Option LiveSpace) → find id_of q.space w.spaces ≡ o → IsSome o → Lives w pid
    by_space q lives None has some = absurd cc
    by_space q lives (Some s) has some = record { process = q; space = s; lives = lives; has = has }

    by : (o : Option Process) → find pid_of pid w.procs ≡ o → option_map (λ q. q.state) o ≡ Some Ready → Lives w pid
    by None lives e = absurd (none-some Ready e)
    by (Some q) lives e = by_space q lives (find id_of q.space w.spaces) refl (sound.homes pid q lives)

-- what a turn makes of an event that is made doesn't depend on where it stood
turned_same : (more : Physical → WalkIn) (p q : Physical) (a : After) → Done a → turned_in more p a ≡ turned_in more q a
turned_same more p q (after now over) done = refl
turned_same more p q (no_room now) done = refl
turned_same more p q nobody done = absurd done

module _ (p : Physical) (pid : ℕ) (access : Access) (sound : IsSound p.world) (may : MayRun p.world pid) (none : has_stray p.world.notes ≡ false) (is : event p.world pid ≡ strays access) where
  abbrev there : Physical
  there = record p { world = noted (stray_note pid access) p.world }

  first_is : stray p.world pid ≡ Some access
  unfolding stray
  first_is = rw is refl

  same_event : event_in p pid ≡ event_in there pid
  same_event =
      event_in_strays p pid access (first_strays p pid access none first_is)
      ∙ sym (event_in_calm there pid (noted_unstrayed there pid refl))

  is_done : Done (event_in p pid)
  is_done =
      let l = some_lives p.world pid sound may in
      subst Done (sym (event_in_strays p pid access (first_strays p pid access none first_is))) (done_carried_out there pid l.process l.space l.lives l.has)

  same_turn : (n : ℕ) → turn_in (suc n) pid p ≡ turn_in (suc n) pid there
  unfolding turn_in
  same_turn n = turned_same (turn_in n pid) p there (event_in p pid) is_done ∙ ap (turned_in (turn_in n pid) there) same_event

  strayed_adds : (n : ℕ) → Adds (noted (stray_note pid access) p.world) (turn_in (suc n) pid p).now.world
  strayed_adds n = subst (λ (walk : WalkIn). Adds there.world walk.now.world) (sym (same_turn n)) (turns_add (suc n) pid there)

-- ---- turns

goes_turn : (count pid : ℕ) (w : World) (p : Physical) → IsSound w → MayRun w pid → Stands w p → has_stray w.notes ≡ false
    → GoesAlike (turn count pid w).world (turn_in count pid p) (turn count pid w).end
unfolding turn turn_in
goes_turn zero pid w p sound may stands none = record { stands = stands; ends = refl; unstrayed = none }
goes_turn (suc n) pid w p sound may stands none =
    by (event w pid) refl (λ now behind kept still on unstrayed. goes_turn n pid now behind kept still on unstrayed)
  where
    by : (o : Outcome) → event w pid ≡ o
        → ((now : World) (behind : Physical) → IsSound now → MayRun now pid → Stands now behind → has_stray now.notes ≡ false
        → GoesAlike (turn n pid now).world (turn_in n pid behind) (turn n pid now).end)
        → GoesAlike (turned (turn n pid) w pid o).world (turned_in (turn_in n pid) p (event_in p pid)) (turned (turn n pid) w pid o).end
    by (went now t) is more =
        let lead : LeadsTo p pid now t.over = events_go_on w p pid now t sound stands is in
        let unstrayed = still_unstrayed w pid now t is none in
        subst (λ (a : After). GoesAlike (turned (turn n pid) w pid (went now t)).world (turned_in (turn_in n pid) p a) (turned (turn n pid) w pid (went now t)).end) (sym lead.comes.1)
        (over t.over refl lead.behind lead.stands unstrayed)
      where
        over : (b : Bool) → t.over ≡ b → (behind : Physical) → Stands now behind → has_stray now.notes ≡ false
            → GoesAlike (traced t (if b then remains_at now None else turn n pid now)).world (if b then remains_at_in behind None else turn_in n pid behind)
            (traced t (if b then remains_at now None else turn n pid now)).end
        over true ends behind on unstrayed = record { stands = on; ends = refl; unstrayed = unstrayed }
        over false ends behind on unstrayed = more now behind (events_keep_sound w pid now t sound may is) (may_run_still w pid now t may is ends) on unstrayed
    by (strays access) is more =
        subst (λ (v : World). IsSound v → MayRun v pid → has_stray v.notes ≡ false → event v pid ≡ strays access
        → GoesPast (noted (stray_note pid access) v) (turn_in (suc n) pid p) pid access) stands.world
        (λ s m u e. record { before = p.world; newest = refl; first = u; adds = strayed_adds p pid access s m u e n }) sound may none is
    by full is more =
        subst (λ (a : After). GoesAlike w (turned_in (turn_in n pid) p a) (Some log_full)) (sym (full_events_go_on w p pid sound stands is).1)
        (record { stands = stands; ends = refl; unstrayed = none })
    by idle is more =
        let nothing : event_in p pid ≡ nobody =
        subst (λ (v : World). IsSound v → Stands v p → event v pid ≡ idle → event_in p pid ≡ nobody) stands.world
        (λ s h e. calm p pid idle e refl ∙ subst (λ (o : Outcome). Goes p o (carried_out p pid)) e (goes_event p s h pid)) sound stands is in
        subst (λ (a : After). GoesAlike w (turned_in (turn_in n pid) p a) None) (sym nothing) (record { stands = stands; ends = refl; unstrayed = none })

pub turns_go_on : TurnsGoOn
turns_go_on = goes_turn

-- ---- runs

adds_on : (a b c : World) → Adds a b → Adds b c → Adds a c
adds_on a b c first second = (
  (second.0.0 ++ first.0.0, second.0.1 ∙ ap (λ (ns : List Note). second.0.0 ++ ns) first.0.1 ∙ sym (append_assoc second.0.0 first.0.0 a.notes)),
  (first.1.0 ++ second.1.0, second.1.1 ∙ ap (λ (bs : List ℕ). bs ++ second.1.0) first.1.1 ∙ append_assoc a.rest.console first.1.0 second.1.0),
)

-- a run that stops where no access strays
abbrev IsCalm : End → Type 0
IsCalm (stray_at pid access) = ⊥
IsCalm end = Unit {0}

on_stops : (w : World) (p : Physical) (end : End) → IsCalm end → Stands w p → has_stray w.notes ≡ false → GoesAlike w (remains_at_in p (Some end)) (Some end)
on_stops w p all_ended is stands none = record { stands = stands; ends = refl; unstrayed = none }
on_stops w p stuck is stands none = record { stands = stands; ends = refl; unstrayed = none }
on_stops w p out_of_quanta is stands none = record { stands = stands; ends = refl; unstrayed = none }
on_stops w p (stray_at pid access) is stands none = absurd is
on_stops w p log_full is stands none = record { stands = stands; ends = refl; unstrayed = none }

none_calm : (w : World) → IsCalm (none_runs w)
none_calm w = by (length w.procs == 0)
  where
    by : (b : Bool) → IsCalm (if b then all_ended else stuck)
    by true = tt
    by false = tt

last_calm : (w : World) (pids : List ℕ) → IsCalm (last_end w pids)
last_calm w [] = none_calm w
last_calm w (pid ∷ pids) = tt

-- a turn, and the run that goes on behind it
going_none : (more : Physical → WalkIn) (walk : WalkIn) → walk.end ≡ None → going_on_in more walk ≡ more walk.now
going_none more walk is = rw is refl

going_some : (more : Physical → WalkIn) (walk : WalkIn) (end : End) → walk.end ≡ Some end → going_on_in more walk ≡ walk
going_some more walk end is = rw is refl

going_adds : (more : Physical → WalkIn) (w : World) (walk : WalkIn) → ((p : Physical) → Adds p.world (more p).now.world) → Adds w walk.now.world → Adds w (going_on_in more walk).now.world
going_adds more w walk adds before = by walk.end refl
  where
    by : (end : Option End) → walk.end ≡ end → Adds w (going_on_in more walk).now.world
    by None is = subst (λ (v : WalkIn). Adds w v.now.world) (sym (going_none more walk is)) (adds_on w walk.now.world (more walk.now).now.world before (adds walk.now))
    by (Some end) is = subst (λ (v : WalkIn). Adds w v.now.world) (sym (going_some more walk end is)) before

module _ (more : World → Walk) (more_in : Physical → WalkIn) (adds : (p : Physical) → Adds p.world (more_in p).now.world)
    (on : (w : World) (p : Physical) → IsSound w → Stands w p → has_stray w.notes ≡ false → GoesAlike (more w).world (more_in p) (more w).end) where
  goes_going : (walk : Walk) (here : WalkIn) → IsSound walk.world → GoesAlike walk.world here walk.end → GoesAlike (going_on more walk).world (going_on_in more_in here) (going_on more walk).end
  goes_going walk here sound h = at walk.end h
    where
      stops : (end : End) → IsCalm end → EndsAlike walk.world here (Some end) → GoesAlike walk.world (going_on_in more_in here) (Some end)
      stops end is h =
          subst (λ (v : WalkIn). GoesAlike walk.world v (Some end)) (sym (going_some more_in here end h.ends))
          (subst (λ (e : Option End). GoesAlike walk.world (record here { end = e }) (Some end)) (sym h.ends) (on_stops walk.world here.now end is h.stands h.unstrayed))

      at : (end : Option End) → GoesAlike walk.world here end
          → GoesAlike (going_on more (record walk { end = end })).world (going_on_in more_in here) (going_on more (record walk { end = end })).end
      at None h = subst (λ (v : WalkIn). GoesAlike (more walk.world).world v (more walk.world).end) (sym (going_none more_in here h.ends)) (on walk.world here.now sound h.stands h.unstrayed)
      at (Some (stray_at pid access)) h =
          record { before = h.before; newest = h.newest; first = h.first; adds = going_adds more_in walk.world here adds h.adds }
      at (Some all_ended) h = stops all_ended tt h
      at (Some stuck) h = stops stuck tt h
      at (Some out_of_quanta) h = stops out_of_quanta tt h
      at (Some log_full) h = stops log_full tt h

  goes_quantum : (p : Physical) (count : ℕ) (chosen : Option ℕ) → IsSound p.world → Stands p.world p → has_stray p.world.notes ≡ false → ((pid : ℕ) → chosen ≡ Some pid → MayRun p.world pid)
      → GoesAlike (quantum_turn more p.world count chosen).world (quantum_turn_in more_in p count chosen) (quantum_turn more p.world count chosen).end
  goes_quantum p count None sound stands none may = on_stops p.world p (none_runs p.world) (none_calm p.world) stands none
  goes_quantum p count (Some pid) sound stands none may =
      goes_going (turn count pid p.world) (turn_in count pid p) (turns_keep_sound count pid p.world sound (may pid refl)) (goes_turn count pid p.world p sound (may pid refl) stands none)

goes_run : (quanta : List Quantum) (w : World) (p : Physical) → IsSound w → Stands w p → has_stray w.notes ≡ false → GoesAlike (turns quanta w).world (turns_in quanta p) (turns quanta w).end
unfolding turns turns_in
goes_run [] w p sound stands none =
    subst (λ (v : World). Stands v p → has_stray v.notes ≡ false → GoesAlike v (remains_at_in p (Some (last_end p.world (ready_pids p.world.procs)))) (Some (last_end v (ready_pids v.procs)))) stands.world
    (λ s n. on_stops p.world p (last_end p.world (ready_pids p.world.procs)) (last_calm p.world (ready_pids p.world.procs)) s n) stands none
goes_run (q ∷ qs) w p sound stands none =
    let on : (v : World) (r : Physical) → IsSound v → Stands v r → has_stray v.notes ≡ false → GoesAlike (turns qs v).world (turns_in qs r) (turns qs v).end =
    (λ v r s h n. goes_run qs v r s h n) in
    subst (λ (v : World). IsSound v → Stands v p → has_stray v.notes ≡ false
    → GoesAlike (quantum_turn (turns qs) v q.count (picked q.pick (ready_pids v.procs))).world (quantum_turn_in (turns_in qs) p q.count (picked q.pick (ready_pids p.world.procs)))
    (quantum_turn (turns qs) v q.count (picked q.pick (ready_pids v.procs))).end) stands.world
    (λ s h n. goes_quantum (turns qs) (turns_in qs) (λ r. runs_add qs r) on p q.count (picked q.pick (ready_pids p.world.procs)) s h n
    (λ pid is. ready_found p.world.procs p.world.next_pid q.pick pid is s.pids)) sound stands none

pub runs_go_on : RunsGoOn
runs_go_on = goes_run
