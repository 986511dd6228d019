-- An execve keeps what is told of the stays right: it leaves the old space, and a stay begins in a new one.
use Rattle.std.proofs.Common.{◌≡◌, ◌≢◌, ℕ, ◌+◌, ◌<◌, true, false, inl, inr, List, [], ◌∷◌, ◌++◌, map, length, Option, Some, None, Result, Ok, Err, refl, sym, ap, subst, ◌∙◌, arith, length-append}
use Rattle.std.specs.Prelude.{◌==◌, ◌||◌, ◌&&◌, slice_get, if◌then◌else◌}
use Rattle.std.proofs.lemmas.List.{map-append}
use Rattle.rv32im_step.specs.Meaning.{call}
use Rattle.call_log.specs.declared.errno.Errno.{Errno}
use Rattle.call_log.specs.declared.errno.Errno.TheVariants.{E2big, Enomem, Enametoolong}
use Rattle.call_log.specs.Notes.{call_note, weight_of}
use Rattle.call_log.specs.Strings.{ProgramStrings, program_strings}
use Rattle.call_log.specs.Sent.{has_zero, sent}
use Rattle.vfork_exec.specs.declared.family.State.TheVariants.{Ready}
use Rattle.vfork_exec.specs.Keyed.{find, change}
use Rattle.vfork_exec.proofs.Keyed.{find_head}
use Rattle.flat_loader.specs.Original.{Original, block_pages}
use Rattle.flat_loader.specs.Frame.{frame_fits}
use Rattle.flat_loader.specs.Begin.{Loading, begin_space}
use Rattle.flat_loader.specs.Alone.{Runner, Solo, Item, memory_of, number_of, args_of, replied, is_errno, leaves_space, with_items, solo_effect, solo_step, none_left}
use Rattle.machine_world.specs.World.{Process, LiveSpace, World, pid_of, id_of}
use Rattle.machine_world.specs.Families.{spaces_left}
use Rattle.machine_world.specs.FamilyCalls.{runs}
use Rattle.machine_world.specs.Free.{free}
use Rattle.machine_world.specs.Found.{Found, address_of, taken}
use Rattle.machine_world.specs.Asks.{Ask, arg, refuses}
use Rattle.machine_world.specs.PathCalls.{path_of}
use Rattle.machine_world.specs.Recordings.{room_in}
use Rattle.machine_world.specs.Event.{Trace, went, full, counted_in, noted, ask_of, entry_of, plain_item, with_exec, load_of, answered, executed, exec_at, exec_program, exec_strings, exec, is_exit}
use Rattle.machine_world.proofs.States.{with_regs}
use Rattle.machine_world.proofs.Chains.{begun}
use Rattle.alone_laws.specs.Stays.{Stay, change_at, longer, collect, runner_of, runners, Agrees, kept_calls_of, loads_of, original_at, head_of, loaded_head, AreRight}
use Rattle.alone_laws.specs.Sound.{IsSound}
use Rattle.alone_laws.proofs.Lists.{if_yes, eqb_same, eqb_is, eqb_other, length-change_at, map-change_at, more_item}
use Rattle.alone_laws.proofs.Runners.{runners_sharing, runners_exec, runners_beside_change, runners_moved, runners_new}
use Rattle.alone_laws.proofs.SpacesLeft.{space_beside}
use Rattle.alone_laws.proofs.SoundBegins.{none_new}
use Rattle.alone_laws.proofs.Frame.{BesideSpace, agree_after, told_after, told_new}
use Rattle.alone_laws.proofs.Named.{runs_names}
use Rattle.alone_laws.proofs.SoloRuns.{alone_more, begins_alone}
use Rattle.alone_laws.proofs.EventStays.{solo_of, tells, Keeps, keeps_if, below, solo, first, given, has_stay, end_of, means, takes, keeps_answered}
use Rattle.alone_laws.proofs.Ends.{left_there}
use Rattle.alone_laws.proofs.PlainCalls.{follows_refused}

module _ (ys : List Stay) (w : World) (sound : IsSound w) (right : AreRight ys w) (p : Process) (s : LiveSpace)
    (lives : find pid_of p.pid w.procs ≡ Some p) (ready : p.state ≡ Ready) (has : find id_of p.space w.spaces ≡ Some s)
    (is : means ys w sound right p s lives ready has ≡ call) (bytes : List ℕ) (reads : sent (number_of p.regs) (args_of p.regs) s.space.bytes ≡ Ok bytes)
    (execs : (number_of p.regs == 221) ≡ true) where
  abbrev a : Ask
  a = ask_of w p s.space bytes

  abbrev those : List Runner
  those = below ys w sound right p s lives ready has

  abbrev before : Solo
  before = solo ys w sound right p s lives ready has

  number : number_of p.regs ≡ 221
  number = eqb_is (number_of p.regs) 221 execs

  stays : is_exit (number_of p.regs) ≡ false
  stays = ap (λ (n : ℕ). n == 93 || n == 94) number

  old_below : p.space < w.loads
  old_below = given ys w sound right p s lives ready has

  module _ (index : ℕ) (l : Loading) (names : Some l.original ≡ original_at w.rest.programs index) where
    abbrev procs : List Process
    procs = (with_exec w p l).procs

    abbrev its : LiveSpace
    its = record { id = w.loads; space = begin_space l }

    abbrev spaces : List LiveSpace
    spaces = its ∷ spaces_left p w.procs w.spaces

    abbrev item : Item
    item = plain_item (entry_of a 0 [])

    abbrev behind : World
    behind = noted (load_of p index l) (noted (call_note (entry_of a 0 [])) (counted_in p.space (with_exec w p l)))

    abbrev trace : Trace
    trace = record { space = p.space; events = 1; items = item ∷ []; begins = Some (record { loading = l; pid = p.pid }); over = false }

    abbrev new : Stay
    new = record { loading = l; pid = p.pid; items = []; events = 0 }

    abbrev olds : List Stay
    olds = change_at p.space (longer trace) ys

    -- ---- the processes

    new_other : p.space ≢ w.loads
    new_other = let less = old_below in omega (arith, less)

    as_changed : (i : ℕ) → runners i procs ≡ runners i (change pid_of p.pid (begun w p l) w.procs)
    as_changed i = runners_exec p.pid (begun w p l) (λ q. refl) i w.procs

    runs_old : runners p.space procs ≡ those
    runs_old =
        as_changed p.space
        ∙ runners_moved w.next_pid p w.procs sound.pids lives those (first ys w sound right p s lives ready has) (begun w p l) (λ e. new_other (sym e))

    runs_new : runners w.loads procs ≡ runner_of (begun w p l p) ∷ []
    runs_new =
        as_changed w.loads
        ∙ runners_new w.next_pid p w.procs sound.pids lives (begun w p l) w.loads refl new_other (runners_sharing w.loads w.procs ∙ ap (map runner_of) (none_new w sound))

    runs_beside : (j : ℕ) → j ≢ p.space → j < w.loads → runners j procs ≡ runners j w.procs
    runs_beside j other old =
        as_changed j
        ∙ runners_beside_change w.next_pid p w.procs sound.pids lives (begun w p l) j (λ e. other (sym e)) (let isnt : w.loads ≢ j = omega (arith, old) in isnt)

    -- ---- and spaces

    space_old : (j : ℕ) → j < w.loads → find id_of j spaces ≡ find id_of j (spaces_left p w.procs w.spaces)
    space_old j old = find_head id_of j its (spaces_left p w.procs w.spaces) false (eqb_other w.loads j (omega (arith, old)))

    space_new : find id_of w.loads spaces ≡ Some its
    space_new = find_head id_of w.loads its (spaces_left p w.procs w.spaces) true (eqb_same w.loads w.loads refl)

    -- ---- alone

    leaves_alone : solo_step before (item ∷ []) ≡ Some (record { stack = those; memory = memory_of s.space }, [])
    leaves_alone =
        let at : Solo = solo_of (with_regs p (replied p.regs 0)) those s.space in
        let leaves : leaves_space item.entry ≡ true = ap (λ (n : ℕ). n == 93 || n == 94 || (n == 221 && true)) number in
        takes ys w sound right p s lives ready has is bytes reads item (tells p s.space w bytes 0 [])
        ∙ ap (with_items []) (if_yes (leaves_space item.entry) (Some (record { stack = those; memory = memory_of s.space })) (if is_errno 0 then Some at else solo_effect at p.regs item) leaves)

    beside : BesideSpace p.space w behind
    beside = record {
      procs = runs_beside;
      spaces = λ j other old. space_old j old ∙ space_beside p w.procs w.spaces j other;
    }

    agree_old : (j : ℕ) (y : Stay) → slice_get olds j ≡ Some y → Agrees j procs y (find id_of j spaces)
    agree_old =
        agree_after ys w behind p.space (longer trace) right.count right.agree beside
        (λ y there.
        left_there ys w sound right p s lives ready has behind y (longer trace y) runs_old (space_old p.space old_below)
        (alone_more y.loading y.pid y.items (item ∷ []) y.events before (end_of ys w sound right p s lives ready has y there) ∙ ap none_left leaves_alone))

    agree_new : Agrees w.loads procs new (find id_of w.loads spaces)
    agree_new =
        subst (λ o. Agrees w.loads procs new o) (sym space_new)
        (begins_alone l p.pid ∙ ap (λ rs. Some (record { stack = rs; memory = memory_of (begin_space l) })) (sym runs_new))

    right_executed : AreRight (collect ys trace) behind
    unfolding kept_calls_of loads_of
    right_executed =
        let len : length olds ≡ w.loads = length-change_at (longer trace) p.space ys ∙ right.count in
        record {
          count = length-append olds (new ∷ []) ∙ ap (λ (n : ℕ). n + 1) len;
          loads =
              map-append head_of olds (new ∷ [])
              ∙ ap (λ hs. hs ++ head_of new ∷ []) (map-change_at (longer trace) head_of (λ y. refl) p.space ys ∙ right.loads)
              ∙ ap (λ (o : Option Original). map (loaded_head w.rest.programs) (loads_of w.notes) ++ (p.pid, l.block, o) ∷ []) names
              ∙ sym (map-append (loaded_head w.rest.programs) (loads_of w.notes) (_ ∷ []));
          agree = λ j y there. elim (more_item olds new j y there) [
            | inl old ↦ agree_old j y old
            | inr new_one ↦
                let at : w.loads ≡ j = omega (arith, new_one.0, len) in
                subst (λ k. Agrees k procs y (find id_of k spaces)) at (subst (λ z. Agrees w.loads procs z (find id_of w.loads spaces)) (sym new_one.1) agree_new)
          ];
          told =
              told_new olds behind.notes new refl
              (told_after ys w.notes behind.notes p.space 1 (item ∷ []) (Some (record { loading = l; pid = p.pid })) false (has_stay ys w sound right p s lives ready has) right.told refl);
        }

    keeps_executed : Keeps ys (executed w a index l)
    unfolding executed
    keeps_executed = keeps_if ys (room_in w (weight_of bytes [])) (went behind trace) full right_executed tt

  refused_here : (e : Errno) → Keeps ys (answered w a (refuses a e))
  refused_here e = keeps_answered ys w sound right p s lives ready has is bytes reads (refuses a e) (follows_refused w p those s.space bytes stays e) refl

  keeps_exec_at : (f : Found) → Some f.original ≡ original_at w.rest.programs f.index → (strings : ProgramStrings) (page : Option ℕ) → Keeps ys (exec_at w a f strings page)
  keeps_exec_at f names strings None = refused_here Enomem
  keeps_exec_at f names strings (Some page) = keeps_executed f.index (record { original = f.original; block = address_of page; args = strings.args; env = strings.env }) names

  keeps_exec_program : (strings : ProgramStrings) (o : Result Found Errno) → runs w.rest (path_of a) ≡ o → Keeps ys (exec_program w a strings o)
  keeps_exec_program strings (Ok f) is =
      keeps_if ys (frame_fits f.original strings.args strings.env) (exec_at w a f strings (taken w (block_pages f.original) (free w))) (answered w a (refuses a E2big))
      (keeps_exec_at f (runs_names w.rest (path_of a) f is) strings (taken w (block_pages f.original) (free w))) (refused_here E2big)
  keeps_exec_program strings (Err e) is = refused_here e

  keeps_exec_strings : (o : Option ProgramStrings) → Keeps ys (exec_strings w a o)
  keeps_exec_strings (Some strings) = keeps_exec_program strings (runs w.rest (path_of a)) refl
  keeps_exec_strings None = refused_here E2big

  pub keeps_exec : Keeps ys (exec w a)
  unfolding exec
  keeps_exec =
      keeps_if ys (has_zero bytes) (exec_strings w a (program_strings bytes (arg a 1) (arg a 2))) (answered w a (refuses a Enametoolong))
      (keeps_exec_strings (program_strings bytes (arg a 1) (arg a 2))) (refused_here Enametoolong)
