-- A sound world that a process has left.
use Rattle.std.proofs.Common.{◌≡◌, ◌≢◌, ℕ, ◌≤◌, false, inl, inr, List, [], ◌∷◌, map, Some, sym, ap, subst, ◌∙◌}
use Rattle.std.specs.Prelude.{IsSome}
use Rattle.std.proofs.lemmas.Bool.{cases_Bool}
use Rattle.call_log.specs.Notes.{Note}
use Rattle.vfork_exec.specs.declared.family.State.TheVariants.{Ready}
use Rattle.vfork_exec.specs.declared.family.Ended.{Ended}
use Rattle.vfork_exec.specs.Keyed.{find}
use Rattle.machine_world.specs.World.{Process, LiveSpace, Recording, Rest, World, pid_of, id_of}
use Rattle.machine_world.specs.Families.{borrows, spaces_left, all_left_by}
use Rattle.machine_world.proofs.States.{find_has}
use Rattle.machine_world.proofs.Chains.{owner_alone, chains_left, falls_left}
use Rattle.alone_laws.specs.Stays.{runners, runner_of}
use Rattle.alone_laws.specs.Sound.{IsSpace, IsSound}
use Rattle.alone_laws.proofs.Moved.{Goes, copies_stay, given_still, own_pid, own_lives}
use Rattle.alone_laws.proofs.Runners.{runners_sharing, in_runners}
use Rattle.alone_laws.proofs.SpacesLeft.{space_lent, falls_spaces, space_was, space_beside, apart_left, found_left}

abbrev pub left_to : World → Process → List Ended → Rest → List Note → ℕ → Recording → World
left_to w p ended rest notes events recording = record {
  procs = all_left_by p w.procs;
  ended = ended;
  spaces = spaces_left p w.procs w.spaces;
  loads = w.loads;
  next_pid = w.next_pid;
  rest = rest;
  notes = notes;
  events = events;
  recording = recording;
}

module _ (w : World) (h : IsSound w) (pid : ℕ) (p : Process) (s : LiveSpace) (lives : find pid_of pid w.procs ≡ Some p) (ready : p.state ≡ Ready) (has : find id_of p.space w.spaces ≡ Some s) where
  pub alone_there : borrows p w.procs ≡ false → runners p.space w.procs ≡ runner_of p ∷ []
  alone_there owns = runners_sharing p.space w.procs ∙ ap (map runner_of) (owner_alone w.procs pid p h.chains lives ready owns)

  -- no other process is in the space of its owner
  pub other_space : borrows p w.procs ≡ false → (k : ℕ) (q : Process) → find pid_of k w.procs ≡ Some q → k ≢ pid → q.space ≢ p.space
  other_space owns k q found other e =
      let same : q.pid ≡ p.pid = in_runners p.space q (runner_of p) w.procs k found e (alone_there owns) in
      other (sym (find_has pid_of k w.procs q found) ∙ same ∙ own_pid w h pid p s lives ready has)

  -- each other process has its space still
  pub home_left : (k : ℕ) (q : Process) → find pid_of k w.procs ≡ Some q → k ≢ pid → IsSome (find id_of q.space (spaces_left p w.procs w.spaces))
  home_left k q found other = elim (cases_Bool (borrows p w.procs)) [
    | inl lent ↦ subst (λ (ss : List LiveSpace). IsSome (find id_of q.space ss)) (sym (space_lent p w.procs w.spaces lent)) (h.homes k q found)
    | inr owns ↦ subst IsSome (sym (space_beside p w.procs w.spaces q.space (other_space owns k q found other))) (h.homes k q found)
  ]

  pub left_sound : (ended : List Ended) (rest : Rest) (notes : List Note) (events : ℕ) (recording : Recording) → Goes w rest notes → IsSound (left_to w p ended rest notes events recording)
  left_sound ended rest notes events recording goes = record {
    some = subst (λ (n : ℕ). 1 ≤ n) (sym goes.pages) h.some;
    most = subst (λ (n : ℕ). n ≤ 16384) (sym goes.pages) h.most;
    pids = falls_left w.procs p w.next_pid h.pids;
    numbers = falls_spaces p w.procs w.spaces w.loads h.numbers;
    given = given_still w h rest notes goes;
    homes = λ k q found. (
        let r = found_left p k q w.procs found in
        subst (λ (x : Process). IsSome (find id_of x.space (spaces_left p w.procs w.spaces))) r.3
        (home_left k r.0 r.2 (λ e. r.1 (e ∙ sym (own_pid w h pid p s lives ready has)))));
    chains = chains_left w.procs p w.next_pid h.chains h.pids (own_lives w h pid p s lives ready has) ready;
    spaces = λ i l found. subst (λ (n : ℕ). IsSpace n l.space.maps) (sym goes.pages) (h.spaces i l (space_was p w.procs w.spaces i l found));
    apart = apart_left p w.procs w.spaces w.loads s [] h.numbers has h.apart;
    copies = λ i l found. copies_stay w h rest notes goes i l (space_was p w.procs w.spaces i l found);
    changes = goes.changes;
    calls = goes.calls;
  }
