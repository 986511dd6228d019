-- The end of a process keeps what is told of the stays right: a space goes with its owner, and a lent one stays.
use Rattle.std.proofs.Common.{◌≡◌, ℕ, Bool, true, false, inl, inr, List, [], ◌∷◌, ◌++◌, Some, None, Ok, refl, sym, ap, subst, ◌∙◌}
use Rattle.std.specs.Prelude.{◌==◌, ◌||◌, ◌&&◌, if◌then◌else◌}
use Rattle.std.proofs.lemmas.Bool.{cases_Bool}
use Rattle.std.proofs.lemmas.List.{append-nil}
use Rattle.rv32im_step.specs.Meaning.{call, trap}
use Rattle.call_log.specs.Notes.{weight_of}
use Rattle.call_log.specs.Sent.{sent}
use Rattle.vfork_exec.specs.declared.family.State.TheVariants.{Ready}
use Rattle.vfork_exec.specs.Keyed.{find}
use Rattle.vfork_exec.proofs.Keyed.{find_gone}
use Rattle.flat_loader.specs.Alone.{Runner, Solo, Item, memory_of, number_of, args_of, replied, is_errno, leaves_space, with_items, solo_effect, solo_step, none_left}
use Rattle.machine_world.specs.World.{Process, LiveSpace, World, pid_of, id_of}
use Rattle.machine_world.specs.Families.{borrows, spaces_left, all_left_by}
use Rattle.machine_world.specs.Recordings.{room_in}
use Rattle.machine_world.specs.Event.{went, full, ended, trapped, ask_of, entry_of, plain_item, exited, is_exit}
use Rattle.machine_world.proofs.States.{with_regs}
use Rattle.alone_laws.specs.Stays.{Stay, collect, runner_of, runners, alone_end, Agrees, kept_calls_of, loads_of, AreRight}
use Rattle.alone_laws.specs.Sound.{IsSound}
use Rattle.alone_laws.proofs.Lists.{if_yes}
use Rattle.alone_laws.proofs.Runners.{runners_left, runners_beside_without, runners_without}
use Rattle.alone_laws.proofs.SpacesLeft.{space_lent, space_gone, space_beside}
use Rattle.alone_laws.proofs.SoundEnds.{alone_there}
use Rattle.alone_laws.proofs.Frame.{entries_of}
use Rattle.alone_laws.proofs.SoloRuns.{alone_more}
use Rattle.alone_laws.proofs.EventStays.{solo_of, tells, Keeps, keeps_if, below, solo, first, end_of, right_after, means, steps, takes}

module _ (ys : List Stay) (w : World) (sound : IsSound w) (right : AreRight ys w) (p : Process) (s : LiveSpace)
    (lives : find pid_of p.pid w.procs ≡ Some p) (ready : p.state ≡ Ready) (has : find id_of p.space w.spaces ≡ Some s) where
  abbrev those : List Runner
  those = below ys w sound right p s lives ready has

  abbrev before : Solo
  before = solo ys w sound right p s lives ready has

  -- without a lender it is alone
  pub none_still : borrows p w.procs ≡ false → those ≡ []
  none_still owns = let one : runner_of p ∷ those ≡ runner_of p ∷ [] = sym (first ys w sound right p s lives ready has) ∙ alone_there w sound p.pid p s lives ready has owns in cc

  -- its space behind it, by processes and spaces that are without it
  pub left_there : (now : World) (y z : Stay) → runners p.space now.procs ≡ those → find id_of p.space now.spaces ≡ find id_of p.space (spaces_left p w.procs w.spaces)
      → alone_end z ≡ Some (record { stack = those; memory = memory_of s.space }) → Agrees p.space now.procs z (find id_of p.space now.spaces)
  left_there now y z runs spaces end = elim (cases_Bool (borrows p w.procs)) [
    | inl lent ↦
        subst (λ o. Agrees p.space now.procs z o) (sym (spaces ∙ ap (find id_of p.space) (space_lent p w.procs w.spaces lent) ∙ has))
        (end ∙ ap (λ l. Some (record { stack = l; memory = memory_of s.space })) (sym runs))
    | inr owns ↦
        subst (λ o. Agrees p.space now.procs z o) (sym (spaces ∙ ap (find id_of p.space) (space_gone p w.procs w.spaces owns) ∙ find_gone id_of p.space w.spaces))
        (record { end = record { stack = those; memory = memory_of s.space }; is = end; empty = none_still owns })
  ]

  keeps_departed : (now : World) (items : List Item) → now.loads ≡ w.loads → now.rest.programs ≡ w.rest.programs → loads_of now.notes ≡ loads_of w.notes → kept_calls_of now.notes ≡ kept_calls_of w.notes ++ entries_of items
      → now.procs ≡ all_left_by p w.procs → now.spaces ≡ spaces_left p w.procs w.spaces → solo_step before items ≡ Some (record { stack = those; memory = memory_of s.space }, [])
      → AreRight (collect ys (record { space = p.space; events = 1; items = items; begins = None; over = true })) now
  keeps_departed now items loads programs load_notes calls procs spaces steps =
      right_after ys w sound right p s lives ready has now items true loads programs load_notes calls
      (record {
        procs = λ j other old. ap (runners j) procs ∙ runners_left p j w.procs ∙ runners_beside_without w.next_pid p w.procs sound.pids lives j (λ e. other (sym e));
        spaces = λ j other old. ap (find id_of j) spaces ∙ space_beside p w.procs w.spaces j other;
      })
      (λ y there.
      left_there now y _
      (ap (runners p.space) procs ∙ runners_left p p.space w.procs ∙ runners_without w.next_pid p w.procs sound.pids lives those (first ys w sound right p s lives ready has))
      (ap (find id_of p.space) spaces)
      (alone_more y.loading y.pid y.items items y.events before (end_of ys w sound right p s lives ready has y there) ∙ ap none_left steps))

  pub keeps_trapped : (signal : ℕ) → means ys w sound right p s lives ready has ≡ trap signal → Keeps ys (trapped w p signal)
  unfolding trapped ended kept_calls_of loads_of
  keeps_trapped signal is =
      keeps_departed _ [] refl refl refl (sym (append-nil (kept_calls_of w.notes))) refl refl (steps ys w sound right p s lives ready has [] (trap signal) is)

  pub keeps_exited : (is : means ys w sound right p s lives ready has ≡ call) (bytes : List ℕ) → sent (number_of p.regs) (args_of p.regs) s.space.bytes ≡ Ok bytes
      → is_exit (number_of p.regs) ≡ true → Keeps ys (exited w (ask_of w p s.space bytes))
  unfolding exited ended kept_calls_of loads_of
  keeps_exited is bytes reads exits =
      let i : Item = plain_item (entry_of (ask_of w p s.space bytes) 0 []) in
      let now : Solo = solo_of (with_regs p (replied p.regs 0)) those s.space in
      let leaves : leaves_space i.entry ≡ true = ap (λ (b : Bool). b || (number_of p.regs == 221 && true)) exits in
      keeps_if ys (room_in w (weight_of bytes [])) (went _ (record { space = p.space; events = 1; items = i ∷ []; begins = None; over = true })) full
      (keeps_departed _ (i ∷ []) refl refl refl refl refl refl
      (takes ys w sound right p s lives ready has is bytes reads i (tells p s.space w bytes 0 [])
      ∙ ap (with_items []) (if_yes (leaves_space i.entry) (Some (record { stack = those; memory = memory_of s.space })) (if is_errno 0 then Some now else solo_effect now p.regs i) leaves)))
      tt
