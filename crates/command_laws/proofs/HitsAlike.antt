-- Where nothing strays, the accesses over the one memory hit as those over private spaces do.
use Rattle.std.proofs.Common.{◌≡◌, ◌≢◌, ℕ, zero, suc, Bool, true, false, List, [], ◌∷◌, ◌++◌, append-nil, Option, Some, None, refl, sym, ap, subst, ◌∙◌}
use Rattle.std.specs.Prelude.{if◌then◌else◌}
use Rattle.std.proofs.lemmas.Option.{none-some}
use Rattle.byte_words.specs.ByteMap.{Bytes}
use Rattle.byte_words.specs.declared.access.Access.{Access}
use Rattle.rv32im_step.specs.declared.regs.Regs.{Regs}
use Rattle.rv32im_step.specs.Asked.{Asked, asked}
use Rattle.rv32im_step.specs.Meaning.{Meaning, next, call, trap, refused, meaning}
use Rattle.mmap_rules.specs.Space.{own_in, writable_in}
use Rattle.region_watch.specs.Private.{only}
use Rattle.region_watch.specs.Instructions.{instructions, all_asked}
use Rattle.quantum_sched.specs.declared.Quantum.{Quantum}
use Rattle.quantum_sched.specs.Picked.{picked}
use Rattle.vfork_exec.specs.Keyed.{find}
use Rattle.machine_world.specs.World.{Process, LiveSpace, World, pid_of, id_of}
use Rattle.machine_world.specs.Families.{MayRun, ready_pids}
use Rattle.machine_world.specs.Event.{Trace, Outcome, went, strays, full, idle, effect, in_space, by_process, at_process, stray_in, event}
use Rattle.machine_world.specs.Turns.{End, Walk, stray_at, remains_at, traced, turn, going_on, quantum_turn, turns}
use Rattle.machine_world.proofs.Runnable.{may_run_still, ready_found}
use Rattle.machine_world.proofs.TurnLaws.{turn_next}
use Rattle.alone_laws.specs.Sound.{IsSound}
use Rattle.alone_laws.proofs.SoundRuns.{events_keep_sound, turns_keep_sound}
use Rattle.memory_world.specs.Physical.{Physical, After, after as moves, no_room, nobody, in_memory, carried_out, has_stray, event_in, WalkIn, turn_in}
use Rattle.memory_world.specs.Wider.{IsWithin, Widens}
use Rattle.memory_world.proofs.Widened.{wide_meaning}
use Rattle.go_on_laws.specs.Alike.{Stands}
use Rattle.go_on_laws.specs.Laws.{LeadsTo, EndsAlike, GoesAlike}
use Rattle.go_on_laws.proofs.Behind.{Goes}
use Rattle.go_on_laws.proofs.Pages.{may_own, may_inside}
use Rattle.go_on_laws.proofs.Writes.{bytes_are}
use Rattle.go_on_laws.proofs.Events.{goes_event, calm, events_go_on, full_events_go_on}
use Rattle.go_on_laws.proofs.Walks.{turns_go_on}
use Rattle.watch_points.specs.declared.hits.Hit.{Hit}
use Rattle.watch_points.specs.declared.point.PointKind.{PointKind}
use Rattle.watch_points.specs.declared.span.Span.{Span}
use Rattle.watch_points.specs.Points.{hits_in}
use Rattle.flat_machine.specs.Hits.{asked_in_space, asked_of, event_asked, behind, turn_hits, behind_turn, quantum_hits, hits, asked_in_memory, asked_of_in, event_asked_in, behind_in, turn_hits_in, behind_turn_in, quantum_hits_in, hits_in_memory}
use Rattle.flat_machine.proofs.HitsAsked.{called_quiet, trapped_quiet, all_alike}
use Rattle.flat_machine.proofs.HitsOn.{no_hits, no_hits_in, hits_next, hits_next_in}
use Rattle.command_laws.specs.HitsAlike.{HitsAlike}
use Rattle.command_laws.proofs.GoOn.{ends_alike}

-- ---- an instruction

one_asked : (w : ℕ → Bool) (regs : Regs) (m : Bytes) (after : Regs) (now : Bytes) → meaning regs m w ≡ next after now → all_asked 1 w regs m ≡ asked regs m w
unfolding all_asked
one_asked w regs m after now is = rw is (append-nil (asked regs m w))

one_done : (w : ℕ → Bool) (regs : Regs) (m : Bytes) (after : Regs) (now : Bytes) → meaning regs m w ≡ next after now → (instructions 1 w regs m).done ≡ 1
unfolding instructions
one_done w regs m after now is = rw is refl

module _ (kind : PointKind) (spans : List Span) (pid : ℕ) where
  abbrev found : List Asked → List Hit
  found = hits_in kind spans pid

  -- one that isn't refused over own bytes
  step_alike : (own may wide : ℕ → Bool) (regs : Regs) (mem : Bytes) → IsWithin own may → IsWithin wide may → ((access : Access) → meaning regs (only own mem) may ≢ refused access)
      → found (asked regs (only own mem) may) ≡ found (asked regs mem wide)
  step_alike own may wide regs mem within inside never =
      by (meaning regs (only own mem) may) (meaning regs mem wide) refl refl (wide_meaning own may wide regs mem within inside) never
    where
      by : (small large : Meaning) → meaning regs (only own mem) may ≡ small → meaning regs mem wide ≡ large → Widens own may mem small large → ((access : Access) → small ≢ refused access)
          → found (asked regs (only own mem) may) ≡ found (asked regs mem wide)
      by (next after part) (next there all) small large wider never =
          sym (ap found (one_asked may regs (only own mem) after part small))
          ∙ (all_alike kind spans pid 1 own may wide regs mem within inside).same
          ∙ ap (λ (n : ℕ). found (all_asked n wide regs mem)) (one_done may regs (only own mem) after part small)
          ∙ ap found (one_asked wide regs mem there all large)
      by call call small large wider never = called_quiet kind spans pid regs (only own mem) may small ∙ sym (called_quiet kind spans pid regs mem wide large)
      by (trap signal) (trap other) small large wider never = trapped_quiet kind spans pid regs (only own mem) may signal small ∙ sym (trapped_quiet kind spans pid regs mem wide other large)
      by (refused access) large small is wider never = absurd (never access refl)
      by (next after part) call small large wider never = absurd wider
      by (next after part) (trap signal) small large wider never = absurd wider
      by (next after part) (refused access) small large wider never = absurd wider
      by call (next there all) small large wider never = absurd wider
      by call (trap signal) small large wider never = absurd wider
      by call (refused access) small large wider never = absurd wider
      by (trap signal) (next there all) small large wider never = absurd wider
      by (trap signal) call small large wider never = absurd wider
      by (trap signal) (refused access) small large wider never = absurd wider

-- ---- an event

module _ (kind : PointKind) (spans : List Span) (pid : ℕ) (p : Physical) (sound : IsSound p.world) (stands : Stands p.world p) where
  space_alike : (q : Process) (o : Option LiveSpace) → find id_of q.space p.world.spaces ≡ o
      → ((access : Access) → in_space (λ q s. effect p.world q s (meaning q.regs s.bytes (writable_in s.maps))) q o ≢ strays access)
      → hits_in kind spans pid (asked_in_space q o) ≡ hits_in kind spans pid (asked_in_memory p q o)
  space_alike q None has never = refl
  space_alike q (Some s) has never =
      let may = writable_in s.space.maps in
      subst (λ (bytes : Bytes). ((access : Access) → effect p.world q s.space (meaning q.regs bytes may) ≢ strays access)
      → hits_in kind spans pid (asked q.regs bytes may) ≡ hits_in kind spans pid (asked q.regs p.memory (in_memory p.world))) (sym (bytes_are p sound stands q.space s has))
      (λ never. step_alike kind spans pid (own_in s.space.maps) may (in_memory p.world) q.regs p.memory (may_own p.world sound q.space s has) (may_inside p.world sound q.space s has)
      (λ access is. never access (ap (effect p.world q s.space) is))) never

  process_alike : (o : Option Process)
      → ((access : Access) → by_process p.world.spaces (λ q s. effect p.world q s (meaning q.regs s.bytes (writable_in s.maps))) o ≢ strays access)
      → hits_in kind spans pid (asked_of p.world o) ≡ hits_in kind spans pid (asked_of_in p o)
  process_alike None never = refl
  process_alike (Some q) never = space_alike q (find id_of q.space p.world.spaces) refl never

  event_alike : ((access : Access) → event p.world pid ≢ strays access) → hits_in kind spans pid (event_asked p.world pid) ≡ hits_in kind spans pid (event_asked_in p pid)
  unfolding event at_process event_asked event_asked_in
  event_alike never = process_alike (find pid_of pid p.world.procs) never

-- an event that doesn't stray
abbrev IsCalm : Outcome → Type 0
IsCalm o = stray_in o ≡ None

calm_never : (o : Outcome) → IsCalm o → (access : Access) → o ≢ strays access
calm_never o is access same = none-some access (sym is ∙ ap stray_in same)

module _ (kind : PointKind) (spans : List Span) (pid : ℕ) (w : World) (p : Physical) (sound : IsSound w) (stands : Stands w p) where
  same_hits : (o : Outcome) → event w pid ≡ o → IsCalm o → hits_in kind spans pid (event_asked w pid) ≡ hits_in kind spans pid (event_asked_in p pid)
  same_hits o is none =
      subst (λ (v : World). IsSound v → Stands v p → event v pid ≡ o → hits_in kind spans pid (event_asked v pid) ≡ hits_in kind spans pid (event_asked_in p pid)) stands.world
      (λ sound stands is. event_alike kind spans pid p sound stands (λ access strays. calm_never o none access (sym is ∙ strays))) sound stands is

  nobody_there : event w pid ≡ idle → event_in p pid ≡ nobody
  nobody_there is =
      subst (λ (v : World). IsSound v → Stands v p → event v pid ≡ idle → event_in p pid ≡ nobody) stands.world
      (λ s h e. calm p pid idle e refl ∙ subst (λ (o : Outcome). Goes p o (carried_out p pid)) e (goes_event p s h pid)) sound stands is

-- ---- a turn

abbrev Never : Option End → Type 0
Never end = (pid : ℕ) (access : Access) → end ≢ Some (stray_at pid access)

-- no stray access is noted behind an event that is carried out
module _ (pid : ℕ) (w : World) (now : World) (t : Trace) (is : event w pid ≡ went now t) where
  one_turn : turn 1 pid w ≡ record { world = now; traces = t ∷ []; end = None }
  unfolding turn
  one_turn = turn_next pid w 0 (went now t) is ∙ by t.over
    where
      by : (over : Bool) → traced t (if over then remains_at now None else turn 0 pid now) ≡ record { world = now; traces = t ∷ []; end = None }
      by true = refl
      by false = refl

  still_unstrayed : (p : Physical) → IsSound w → MayRun w pid → Stands w p → has_stray w.notes ≡ false → has_stray now.notes ≡ false
  still_unstrayed p sound may stands none =
      let alike : EndsAlike now (turn_in 1 pid p) None =
      subst (λ (walk : Walk). GoesAlike walk.world (turn_in 1 pid p) walk.end) one_turn (turns_go_on 1 pid w p sound may stands none) in
      alike.unstrayed

  end_on : (n : ℕ) → t.over ≡ false → (turn (suc n) pid w).end ≡ (turn n pid now).end
  end_on n over = ap (λ (walk : Walk). walk.end) (turn_next pid w n (went now t) is) ∙ (rw over refl)

module _ (kind : PointKind) (spans : List Span) (pid : ℕ) where
  abbrev T : ℕ → World → List Hit
  T = turn_hits kind spans pid

  abbrev T_in : ℕ → Physical → List Hit
  T_in = turn_hits_in kind spans pid

  -- an event more
  next_alike : (n : ℕ) (w : World) (p : Physical) → IsSound w → Stands w p → (o : Outcome) (a : After) → event w pid ≡ o → IsCalm o → event_in p pid ≡ a
      → behind (T n) o ≡ behind_in (T_in n) a → T (suc n) w ≡ T_in (suc n) p
  next_alike n w p sound stands o a is none comes same =
      hits_next kind spans pid n w o is
      ∙ ap (λ (xs : List Hit). xs ++ behind (T n) o) (same_hits kind spans pid w p sound stands o is none)
      ∙ ap (λ (xs : List Hit). hits_in kind spans pid (event_asked_in p pid) ++ xs) same
      ∙ sym (hits_next_in kind spans pid n p a comes)

  turn_alike : (n : ℕ) (w : World) (p : Physical) → IsSound w → MayRun w pid → Stands w p → has_stray w.notes ≡ false → Never (turn n pid w).end → T n w ≡ T_in n p
  turn_alike zero w p sound may stands none never = no_hits kind spans pid w ∙ sym (no_hits_in kind spans pid p)
  turn_alike (suc n) w p sound may stands none never =
      by (event w pid) refl (λ now on kept still there unstrayed calms. turn_alike n now on kept still there unstrayed calms)
    where
      by : (o : Outcome) → event w pid ≡ o
          → ((now : World) (on : Physical) → IsSound now → MayRun now pid → Stands now on → has_stray now.notes ≡ false → Never (turn n pid now).end → T n now ≡ T_in n on)
          → T (suc n) w ≡ T_in (suc n) p
      by (went now t) is more =
          let lead : LeadsTo p pid now t.over = events_go_on w p pid now t sound stands is in
          let unstrayed = still_unstrayed pid w now t is p sound may stands none in
          next_alike n w p sound stands (went now t) (moves lead.behind t.over) is refl lead.comes.1 (over t.over refl lead.behind lead.stands unstrayed)
        where
          over : (b : Bool) → t.over ≡ b → (on : Physical) → Stands now on → has_stray now.notes ≡ false → (if b then [] else T n now) ≡ (if b then [] else T_in n on)
          over true ends on there unstrayed = refl
          over false ends on there unstrayed =
              more now on (events_keep_sound w pid now t sound may is) (may_run_still w pid now t may is ends) there unstrayed
              (λ i access is_stray. never i access (end_on pid w now t is n ends ∙ is_stray))
      by (strays access) is more = absurd (never pid access (ap (λ (walk : Walk). walk.end) (turn_next pid w n (strays access) is)))
      by full is more = next_alike n w p sound stands full (no_room p) is refl (full_events_go_on w p pid sound stands is).1 refl
      by idle is more = next_alike n w p sound stands idle nobody is refl (nobody_there kind spans pid w p sound stands is) refl

-- ---- a run

module _ (kind : PointKind) (spans : List Span) (turns_on : World → Walk) (more : World → List Hit) (more_in : Physical → List Hit)
    (on : (w : World) (p : Physical) → IsSound w → Stands w p → has_stray w.notes ≡ false → Never (turns_on w).end → more w ≡ more_in p) where
  walk_never : (walk : Walk) → Never (going_on turns_on walk).end → Never walk.end
  walk_never walk never = by walk.end never
    where
      by : (end : Option End) → Never (going_on turns_on (record walk { end = end })).end → Never end
      by None never = λ pid access is. cc
      by (Some end) never = never

  behind_alike : (walk : Walk) (here : WalkIn) → IsSound walk.world → EndsAlike walk.world here walk.end → Never (going_on turns_on walk).end
      → behind_turn more walk.world walk.end ≡ behind_turn_in more_in here.now here.end
  behind_alike walk here sound alike never =
      by walk.end alike.ends never
    where
      by : (end : Option End) → here.end ≡ end → Never (going_on turns_on (record walk { end = end })).end → behind_turn more walk.world end ≡ behind_turn_in more_in here.now here.end
      by None is never = rw is (on walk.world here.now sound alike.stands alike.unstrayed never)
      by (Some end) is never = rw is refl

  quantum_alike : (p : Physical) (count : ℕ) (chosen : Option ℕ) → IsSound p.world → Stands p.world p → has_stray p.world.notes ≡ false → ((pid : ℕ) → chosen ≡ Some pid → MayRun p.world pid)
      → Never (quantum_turn turns_on p.world count chosen).end → quantum_hits kind spans more p.world count chosen ≡ quantum_hits_in kind spans more_in p count chosen
  quantum_alike p count None sound stands none may never = refl
  quantum_alike p count (Some pid) sound stands none may never =
      let runs = may pid refl in
      let walk = turn count pid p.world in
      let here = turn_in count pid p in
      let calms = walk_never walk never in
      let alike = ends_alike walk here (turns_go_on count pid p.world p sound runs stands none) calms in
      ap (λ (xs : List Hit). xs ++ behind_turn more walk.world walk.end) (turn_alike kind spans pid count p.world p sound runs stands none calms)
      ∙ ap (λ (xs : List Hit). turn_hits_in kind spans pid count p ++ xs) (behind_alike walk here (turns_keep_sound count pid p.world sound runs) alike never)

run_alike : (kind : PointKind) (spans : List Span) (quanta : List Quantum) (w : World) (p : Physical) → IsSound w → Stands w p → has_stray w.notes ≡ false → Never (turns quanta w).end
    → hits kind spans quanta w ≡ hits_in_memory kind spans quanta p
unfolding turns hits hits_in_memory
run_alike kind spans [] w p sound stands none never = refl
run_alike kind spans (q ∷ qs) w p sound stands none never =
    let on : (v : World) (r : Physical) → IsSound v → Stands v r → has_stray v.notes ≡ false → Never (turns qs v).end → hits kind spans qs v ≡ hits_in_memory kind spans qs r =
    (λ v r s h n calms. run_alike kind spans qs v r s h n calms) in
    subst (λ (v : World). IsSound v → Stands v p → has_stray v.notes ≡ false → Never (quantum_turn (turns qs) v q.count (picked q.pick (ready_pids v.procs))).end
    → quantum_hits kind spans (hits kind spans qs) v q.count (picked q.pick (ready_pids v.procs))
    ≡ quantum_hits_in kind spans (hits_in_memory kind spans qs) p q.count (picked q.pick (ready_pids p.world.procs))) stands.world
    (λ s h n calms. quantum_alike kind spans (turns qs) (hits kind spans qs) (hits_in_memory kind spans qs) on p q.count (picked q.pick (ready_pids p.world.procs)) s h n
    (λ pid is. ready_found p.world.procs p.world.next_pid q.pick pid is s.pids) calms) sound stands none never

pub hits_alike : HitsAlike
hits_alike = run_alike
