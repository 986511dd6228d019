-- A sound world in which a process has gone on to another program, in a space of its own.
use Rattle.std.proofs.Common.{◌≡◌, ℕ, ◌≤◌, true, false, inl, inr, List, ◌∷◌, Some, sym, ap, subst, ◌∙◌, arith, refl}
use Rattle.std.specs.Prelude.{◌==◌, IsSome}
use Rattle.std.proofs.lemmas.Bool.{cases_Bool, cases_eq, eq-eqb, ne_eqb}
use Rattle.std.proofs.lemmas.Option.{same_Some}
use Rattle.call_log.specs.Notes.{Note}
use Rattle.vfork_exec.specs.declared.family.State.TheVariants.{Ready}
use Rattle.vfork_exec.specs.Keyed.{find}
use Rattle.vfork_exec.proofs.Keyed.{find_head}
use Rattle.flat_loader.specs.Original.{block_pages}
use Rattle.flat_loader.specs.Begin.{Loading, begin_space}
use Rattle.machine_world.specs.World.{Process, LiveSpace, Recording, Rest, World, pid_of, id_of}
use Rattle.machine_world.specs.Families.{let_go, spaces_left}
use Rattle.machine_world.specs.Free.{free}
use Rattle.machine_world.specs.Found.{address_of, taken}
use Rattle.machine_world.specs.MapCalls.{all_maps}
use Rattle.machine_world.specs.Event.{with_exec}
use Rattle.machine_world.proofs.Chains.{begun, find_exec, find_exec_own, falls_exec, chains_exec, find_let_go}
use Rattle.alone_laws.specs.Sound.{IsSpace, HoldCopies, IsSound}
use Rattle.alone_laws.proofs.FreePages.{free_apart}
use Rattle.alone_laws.proofs.Moved.{Goes, copies_stay, given_still, own_pid, own_lives}
use Rattle.alone_laws.proofs.SpacesLeft.{falls_spaces, space_was, apart_left, found_through}
use Rattle.alone_laws.proofs.SoundEnds.{home_left}
use Rattle.alone_laws.proofs.SoundBegins.{block_space, block_holds, block_apart, some_pages, old_space, none_new, pages_free}

abbrev pub exec_to : World → Process → Loading → Rest → List Note → ℕ → Recording → World
exec_to w p l rest notes events recording = record (with_exec w p l) { rest = rest; notes = notes; events = events; recording = recording }

module _ (w : World) (h : IsSound w) (pid : ℕ) (p : Process) (s : LiveSpace) (lives : find pid_of pid w.procs ≡ Some p) (ready : p.state ≡ Ready) (has : find id_of p.space w.spaces ≡ Some s)
    (page : ℕ) (l : Loading) (is : l.block ≡ address_of page) (chosen : taken w (block_pages l.original) (free w) ≡ Some page) where
  abbrev its : LiveSpace
  its = record { id = w.loads; space = begin_space l }

  abbrev others : List LiveSpace
  others = spaces_left p w.procs w.spaces

  own : find pid_of p.pid w.procs ≡ Some p
  own = own_lives w h pid p s lives ready has

  by_id : (P : LiveSpace → Type 0) (i : ℕ) (x : LiveSpace) → find id_of i (its ∷ others) ≡ Some x → P its → (find id_of i w.spaces ≡ Some x → P x) → P x
  by_id P i x found here away = elim (cases_Bool (w.loads == i)) [
    | inl that ↦ subst P (same_Some its x (sym (find_head id_of i its others true that) ∙ found)) here
    | inr other ↦ away (space_was p w.procs w.spaces i x (sym (find_head id_of i its others false other) ∙ found))
  ]

  new_home : IsSome (find id_of w.loads (its ∷ others))
  new_home = subst IsSome (sym (find_head id_of w.loads its others true (eq-eqb w.loads w.loads refl))) (is_some its)
    where
      is_some : (x : LiveSpace) → IsSome (Some x)
      is_some x = refl

  -- a process of the world after that
  exec_homes : (k : ℕ) (q : Process) → find pid_of k (with_exec w p l).procs ≡ Some q → IsSome (find id_of q.space (its ∷ others))
  exec_homes k q found = elim (cases_eq k p.pid) [
    | inl at ↦
        subst (λ (x : Process). IsSome (find id_of x.space (its ∷ others)))
        (same_Some (begun w p l (let_go p.pid p)) q (sym (find_exec_own w p l own) ∙ ap (λ (n : ℕ). find pid_of n (with_exec w p l).procs) (sym at) ∙ found)) new_home
    | inr other ↦ (
        let r = found_through (let_go p.pid) (λ x. refl) k q w.procs (find_let_go p.pid k w.procs ∙ sym (find_exec w p l k other) ∙ found) in
        let old : IsSome (find id_of r.0.space others) = home_left w h pid p s lives ready has k r.0 r.1 (λ e. other (e ∙ sym (own_pid w h pid p s lives ready has))) in
        subst (λ (x : Process). IsSome (find id_of x.space (its ∷ others))) r.2
        (subst IsSome (sym (find_head id_of r.0.space its others false (ne_eqb w.loads r.0.space (λ e. old_space w h k r.0 r.1 (sym e))))) old))
  ]

  pub exec_sound : (rest : Rest) (notes : List Note) (events : ℕ) (recording : Recording) → Goes w rest notes → IsSound (exec_to w p l rest notes events recording)
  exec_sound rest notes events recording goes = record {
    some = subst (λ (n : ℕ). 1 ≤ n) (sym goes.pages) h.some;
    most = subst (λ (n : ℕ). n ≤ 16384) (sym goes.pages) h.most;
    pids = falls_exec w p l w.next_pid h.pids;
    numbers = (omega arith, falls_spaces p w.procs w.spaces w.loads h.numbers);
    given = given_still w h rest notes goes;
    homes = exec_homes;
    chains = chains_exec w p l h.chains h.pids own ready (none_new w h);
    spaces = λ i x found.
        subst (λ (n : ℕ). IsSpace n x.space.maps) (sym goes.pages)
        (by_id (λ y. IsSpace w.rest.pages y.space.maps) i x found (block_space l page is w.rest.pages (some_pages l.original) (pages_free w page l chosen).inside) (λ was. h.spaces i x was));
    apart = apart_left p w.procs w.spaces w.loads s (begin_space l).maps h.numbers has
        (block_apart l page is (all_maps w.spaces) h.apart
        (λ m begins long. free_apart w.rest.pages w.loads w.spaces page (block_pages l.original) m h.numbers (pages_free w page l chosen) begins long));
    copies = λ i x found. by_id (λ y. HoldCopies rest.tree y.space) i x found (block_holds l page is rest.tree) (λ was. copies_stay w h rest notes goes i x was);
    changes = goes.changes;
    calls = goes.calls;
  }
