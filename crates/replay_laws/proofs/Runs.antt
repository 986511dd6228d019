-- A replay says yes to the items that a run records.
use Rattle.std.proofs.Common.{◌≡◌, ℕ, zero, suc, ◌≤◌, List, length, Option, Some, None, Ok, refl, sym, ap, subst, ◌∙◌}
use Rattle.std.specs.Prelude.{option_map, slice_get}
use Rattle.std.proofs.lemmas.Option.{same_Some, slice_get-map}
use Rattle.call_log.specs.Notes.{LoadEntry}
use Rattle.items_text.specs.Items.{ItemsValue}
use Rattle.machine_world.specs.World.{Process, Program, Rest, World}
use Rattle.mmap_rules.specs.Space.{Space}
use Rattle.quantum_sched.specs.declared.Quantum.{Quantum}
use Rattle.machine_world.specs.Asks.{Ask}
use Rattle.machine_world.specs.Event.{ended, ask_of, event}
use Rattle.machine_world.specs.Turns.{turns}
use Rattle.machine_world.specs.Boot.{StartLine, empty_world, boot}
use Rattle.machine_world.proofs.EachChange.{kept_outside}
use Rattle.machine_world.proofs.ByRows.{by_rows}
use Rattle.machine_world.proofs.ByEvents.{Answered, Happened, Keeps, by_event, by_turns}
use Rattle.vfork_exec.specs.Procs.{most_entries}
use Rattle.alone_laws.specs.Laws.{CanBoot}
use Rattle.alone_laws.specs.Stays.{Stay, AreRight, first_stays, loads_of, head_of, loaded_head, original_at}
use Rattle.alone_laws.proofs.StaysRuns.{boots_begin_stays, runs_keep_stays}
use Rattle.replay_check.specs.declared.verdict.Verdict.TheVariants.{Yes}
use Rattle.replay_check.specs.Replays.{OriginalFile, replayed}
use Rattle.recorded_items.specs.Laws.{items_of_stay, stay_of, stays_behind, AreStrings}
use Rattle.recorded_items.proofs.ByBoots.{by_boots}
use Rattle.recorded_items.proofs.KeptItems.{items_are_of_the_stay, sound, readable}
use Rattle.replay_laws.specs.Files.{IsFileOf}
use Rattle.replay_laws.specs.Laws.{load_of, ItemsAreAccepted}
use Rattle.replay_laws.proofs.Accepted.{stays_are_accepted}

-- ---- programs stay as they are

module _ (ps : List Program) where
  abbrev Has : Rest → Type 0
  Has rest = rest.programs ≡ ps

  module _ (w : World) (h : Has w.rest) where
    call_leaves : (a : Ask) → Answered (λ now t. Has now.rest) Has w a
    unfolding ended
    call_leaves a = record {
      reply = λ ended r m same room. same;
      wait = λ state. h;
      exit = λ room. h;
      fork = λ few room. h;
      load = λ f s page is fits room. h;
    }

    act_leaves : (p : Process) (s : Space) → Happened (λ now t. Has now.rest) Has w p s
    unfolding ended
    act_leaves p s = record { step = λ regs bytes. h; trap = λ signal. h; calls = λ bytes. call_leaves (ask_of w p s bytes) }

    event_leaves : (pid : ℕ) → Keeps (λ now. Has now.rest) (event w pid)
    event_leaves pid =
        by_event (λ now t. Has now.rest) Has (λ now t kept. kept) w h pid (λ p s lives has. act_leaves p s.space)
        (λ p s bytes. by_rows Has (ask_of w p s bytes) (kept_outside (λ programs pages kind. programs ≡ ps) (ask_of w p s bytes) h) h)

  programs_stay : (quanta : List Quantum) (w : World) → Has w.rest → Has (turns quanta w).world.rest
  programs_stay quanta w h = by_turns (λ now. Has now.rest) (λ v pid holds. event_leaves v holds pid) (λ v pid access holds. holds) quanta w h

same_programs : (rest : Rest) (starts : List StartLine) (w : World) (quanta : List Quantum) → boot rest starts ≡ Ok w → (turns quanta w).world.rest.programs ≡ rest.programs
same_programs rest starts w quanta is = programs_stay rest.programs quanta w (by_boots (λ v. v.rest.programs ≡ rest.programs) (λ v index l h. h) rest starts w refl is)

-- ---- the program of a load note is that of its stay

module _ (ys : List Stay) (w : World) (right : AreRight ys w) (programs : List Program) (same : w.rest.programs ≡ programs) where
  named : (i : ℕ) (y : Stay) (load : LoadEntry) → slice_get ys i ≡ Some y → slice_get (loads_of w.notes) i ≡ Some load → Some y.loading.original ≡ original_at programs load.program
  named i y load there noted =
      let heads : Some (head_of y) ≡ Some (loaded_head w.rest.programs load) =
      sym (ap (option_map head_of) there) ∙ sym (slice_get-map head_of ys i) ∙ ap (λ hs. slice_get hs i) right.loads ∙ slice_get-map (loaded_head w.rest.programs) (loads_of w.notes) i
      ∙ ap (option_map (loaded_head w.rest.programs)) noted in
      ap (λ h. h.2) (same_Some (head_of y) (loaded_head w.rest.programs load) heads) ∙ ap (λ ps. original_at ps load.program) same

-- ---- the stay that was recorded

module _ (rest : Rest) (starts : List StartLine) (w : World) (quanta : List Quantum) (load : LoadEntry) (p : Program) (file : OriginalFile) (items : ItemsValue)
    (can : CanBoot rest) (few : length starts ≤ most_entries) (clear : AreStrings starts) (is : boot rest starts ≡ Ok w) (there : slice_get rest.programs load.program ≡ Some p)
    (of_file : IsFileOf file p.original) where
  abbrev now : World
  now = (turns quanta w).world

  abbrev ys : List Stay
  ys = stays_behind rest starts w quanta

  right : AreRight ys now
  right = runs_keep_stays (first_stays (empty_world rest) starts) quanta w (sound rest starts w quanta can few is) (boots_begin_stays rest starts w can is)

  by_stay : (space : ℕ) (o : Option Stay) → slice_get ys space ≡ o → slice_get (loads_of now.notes) space ≡ Some load → option_map items_of_stay o ≡ Some items → replayed file items ≡ Ok Yes
  by_stay space None at noted its = absurd cc
  by_stay space (Some y) at noted its =
      let same : y.loading.original ≡ p.original =
      same_Some y.loading.original p.original
      (named ys now right rest.programs (same_programs rest starts w quanta is) space y load at noted ∙ ap (option_map (λ (q : Program). q.original)) there) in
      subst (λ (i : ItemsValue). replayed file i ≡ Ok Yes) (same_Some (items_of_stay y) items its)
      (stays_are_accepted ys now space y file right (readable rest starts w quanta can few is clear) at (subst (IsFileOf file) (sym same) of_file))

  by_keep : (keep : ℕ) → load_of keep now.notes ≡ Some load → option_map items_of_stay (stay_of keep ys) ≡ Some items → replayed file items ≡ Ok Yes
  by_keep zero noted its = absurd cc
  by_keep (suc space) noted its = by_stay space (slice_get ys space) refl noted its

pub items_are_accepted : ItemsAreAccepted
items_are_accepted rest starts w quanta load p file items can few clear is within noted there of_file tells =
    by_keep rest starts w quanta load p file items can few clear is there of_file rest.keep noted (sym (items_are_of_the_stay rest starts w quanta can few is within) ∙ tells)
