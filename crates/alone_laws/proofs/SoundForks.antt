-- A sound world in which a process has a child, and stands still for it.
use Rattle.std.proofs.Common.{◌≡◌, ℕ, ◌+◌, ◌≤◌, true, false, inl, inr, List, Some, sym, subst, ◌∙◌, arith, refl}
use Rattle.std.specs.Prelude.{◌==◌, IsSome}
use Rattle.std.proofs.lemmas.Bool.{cases_Bool}
use Rattle.std.proofs.lemmas.Option.{same_Some}
use Rattle.call_log.specs.Notes.{Note}
use Rattle.vfork_exec.specs.declared.family.State.TheVariants.{Ready}
use Rattle.vfork_exec.specs.Keyed.{find}
use Rattle.vfork_exec.proofs.Keyed.{find_head}
use Rattle.fd_tables.specs.Changes.{with_copy}
use Rattle.machine_world.specs.World.{Process, LiveSpace, Recording, World, pid_of, id_of}
use Rattle.machine_world.specs.Asks.{Ask, with_files}
use Rattle.machine_world.specs.Ages.{kept_calls}
use Rattle.machine_world.specs.Event.{ask_of, child_of, with_child}
use Rattle.machine_world.proofs.Chains.{parent_now, chains_forked, falls_forked}
use Rattle.alone_laws.specs.Sound.{IsSound}
use Rattle.alone_laws.proofs.Moved.{Goes, by_changed, copies_stay, own_lives}

module _ (w : World) (h : IsSound w) (pid : ℕ) (p : Process) (s : LiveSpace) (lives : find pid_of pid w.procs ≡ Some p) (ready : p.state ≡ Ready) (has : find id_of p.space w.spaces ≡ Some s)
    (bytes : List ℕ) where
  abbrev a : Ask
  a = ask_of w p s.space bytes

  abbrev pub forked_to : List Note → ℕ → Recording → World
  forked_to notes events recording = record (with_child w a) { notes = notes; events = events; recording = recording }

  -- a process of the world after that
  by_pid : (P : Process → Type 0) (k : ℕ) (q : Process) → find pid_of k (with_child w a).procs ≡ Some q → P (child_of w a) → P (parent_now w a p)
      → ((x : Process) → find pid_of k w.procs ≡ Some x → P x) → P q
  by_pid P k q found child parent away = elim (cases_Bool (w.next_pid == k)) [
    | inl that ↦ subst P (same_Some (child_of w a) q (sym (find_head pid_of k (child_of w a) _ true that) ∙ found)) child
    | inr other ↦
        by_changed pid_of (parent_now w a) (λ x. refl) p w.procs (own_lives w h pid p s lives ready has) P k q
        (sym (find_head pid_of k (child_of w a) _ false other) ∙ found) parent (λ ne was. away q was)
  ]

  pub forked_sound : (notes : List Note) (events : ℕ) (recording : Recording) → Goes w (with_files w.rest (with_copy w.rest.files p.table)) notes → kept_calls w.notes + 1 ≤ kept_calls notes
      → IsSound (forked_to notes events recording)
  forked_sound notes events recording goes more = record {
    some = h.some;
    most = h.most;
    pids = falls_forked w a h.pids;
    numbers = h.numbers;
    given = let given = h.given in omega (arith, given, more);
    homes = λ k q found. by_pid (λ x. IsSome (find id_of x.space w.spaces)) k q found (h.homes pid p lives) (h.homes pid p lives) (λ x was. h.homes k x was);
    chains = chains_forked w a h.chains h.pids (own_lives w h pid p s lives ready has) ready;
    spaces = h.spaces;
    apart = h.apart;
    copies = λ i l found. copies_stay w h (with_files w.rest (with_copy w.rest.files p.table)) notes goes i l found;
    changes = goes.changes;
    calls = goes.calls;
  }
