-- What is told of the first stays is right for the opening world.
use Rattle.std.proofs.Common.{◌≡◌, ◌≢◌, ℕ, ◌+◌, ◌≤◌, Bool, true, false, inl, inr, List, [], ◌∷◌, ◌++◌, length, map, Option, Some, None, Result, Ok, Err, refl, sym, ap, subst, ◌∙◌, arith, length-append}
use Rattle.std.specs.Prelude.{slice_get}
use Rattle.std.proofs.lemmas.List.{map-append, append-nil}
use Rattle.std.proofs.Common.{append_assoc}
use Rattle.vfork_exec.specs.declared.family.State.TheVariants.{Ready}
use Rattle.vfork_exec.specs.Keyed.{find}
use Rattle.vfork_exec.proofs.Keyed.{find_head}
use Rattle.flat_loader.specs.Original.{Original, block_pages}
use Rattle.flat_loader.specs.Frame.{frame_fits}
use Rattle.flat_loader.specs.Begin.{Loading, begin_space, begin_regs}
use Rattle.flat_loader.specs.Alone.{memory_of}
use Rattle.fd_tables.specs.Files.{free_number}
use Rattle.machine_world.specs.World.{Process, Rest, World, id_of}
use Rattle.machine_world.specs.Free.{free}
use Rattle.machine_world.specs.Boot.{StartLine, BootFault, Found, found, start_path, begun, address_of, taken, placed, fitting, located, started, then_started, all_started, empty_world, boot}
use Rattle.alone_laws.specs.Stays.{Stay, loading_at, loading_in, loading_of, first_stay, behind_start, first_stays, runner_of, runners, Agrees, kept_calls_of, loads_of, belonging, original_at, head_of, loaded_head, AreRight}
use Rattle.alone_laws.specs.Laws.{BootsBeginStays}
use Rattle.alone_laws.proofs.Lists.{eqb_other, eqb_same, more_item, item_below}
use Rattle.alone_laws.proofs.Named.{found_names}
use Rattle.alone_laws.proofs.Runners.{runners_head}
use Rattle.alone_laws.proofs.SoloRuns.{begins_alone}
use Rattle.alone_laws.proofs.Frame.{agrees_same, told_new}

-- ---- a program begins

-- right, and no process is in a space to come
pub record Opens (ys : List Stay) (w : World) : Type 0 where
  pub right : AreRight ys w
  pub none : (i : ℕ) → w.loads ≤ i → runners i w.procs ≡ []

module _ (ys : List Stay) (w : World) (opens : Opens ys w) (index : ℕ) (l : Loading) (names : Some l.original ≡ original_at w.rest.programs index) where
  abbrev now : World
  now = begun w index l

  abbrev new : Stay
  new = record { loading = l; pid = w.next_pid; items = []; events = 0 }

  abbrev process : Process
  process = record { pid = w.next_pid; parent = 0; regs = begin_regs l; space = w.loads; table = free_number w.rest.files.tables; state = Ready }

  len : length (ys ++ new ∷ []) ≡ w.loads + 1
  len = let e = length-append ys (new ∷ []) in omega (arith, e, opens.right.count)

  agree_old : (j : ℕ) (y : Stay) → slice_get ys j ≡ Some y → Agrees j now.procs y (find id_of j now.spaces)
  agree_old j y there =
      let less = item_below ys j y there in
      let apart : w.loads ≢ j = omega (arith, less, opens.right.count) in
      let outside = eqb_other w.loads j apart in
      subst (λ o. Agrees j now.procs y o) (sym (find_head id_of j _ w.spaces false outside))
      (agrees_same j w.procs now.procs y (find id_of j w.spaces) (runners_head j _ w.procs false outside) (opens.right.agree j y there))

  agree_new : Agrees w.loads now.procs new (find id_of w.loads now.spaces)
  agree_new =
      let here = eqb_same w.loads w.loads refl in
      subst (λ o. Agrees w.loads now.procs new o) (sym (find_head id_of w.loads _ w.spaces true here))
      (begins_alone l w.next_pid
      ∙ ap (λ rs. Some (record { stack = rs; memory = memory_of (begin_space l) }))
      (sym (runners_head w.loads process w.procs true here ∙ ap (λ rs. runner_of process ∷ rs) (opens.none w.loads (omega arith)))))

  begins : Opens (ys ++ new ∷ []) now
  unfolding kept_calls_of loads_of
  begins = record {
    right = record {
      count = len;
      loads =
          map-append head_of ys (new ∷ []) ∙ ap (λ hs. hs ++ head_of new ∷ []) opens.right.loads
          ∙ ap (λ (o : Option Original). map (loaded_head w.rest.programs) (loads_of w.notes) ++ (w.next_pid, l.block, o) ∷ []) names
          ∙ sym (map-append (loaded_head w.rest.programs) (loads_of w.notes) (_ ∷ []));
      agree = λ j y there. elim (more_item ys new j y there) [
        | inl old ↦ agree_old j y old
        | inr new_one ↦
            let at : w.loads ≡ j = omega (arith, new_one.0, opens.right.count) in
            subst (λ k. Agrees k now.procs y (find id_of k now.spaces)) at (subst (λ z. Agrees w.loads now.procs z (find id_of w.loads now.spaces)) (sym new_one.1) agree_new)
      ];
      told = told_new ys now.notes new refl (record { places = opens.right.told.places; each = opens.right.told.each; entries = opens.right.told.entries; no_others = opens.right.told.no_others });
    };
    none = λ j past.
        let outside = eqb_other w.loads j (omega (arith, past)) in
        runners_head j _ w.procs false outside ∙ opens.none j (omega (arith, past));
  }

-- ---- the start lines

-- behind a start line the stays that it adds are there
abbrev OpensBehind : List Stay → Result World BootFault → Type 0
OpensBehind ys (Ok now) = Opens ys now
OpensBehind ys (Err fault) = Unit {0}

module _ (ys : List Stay) (w : World) (opens : Opens ys w) (s : StartLine) where
  opens_placed : (f : Found) → Some f.original ≡ original_at w.rest.programs f.index → (page : Option ℕ) → OpensBehind (ys ++ first_stay w.next_pid (loading_at s f page)) (placed w s f page)
  opens_placed f names None = tt
  opens_placed f names (Some page) = begins ys w opens f.index (record { original = f.original; block = address_of page; args = s.args; env = [] }) names

  opens_fitting : (f : Found) → Some f.original ≡ original_at w.rest.programs f.index → (fits : Bool) → OpensBehind (ys ++ first_stay w.next_pid (loading_in w s (Some f))) (fitting w s f fits)
  opens_fitting f names true = opens_placed f names (taken w (block_pages f.original) (free w))
  opens_fitting f names false = tt

  opens_located : (o : Option Found) → found w.rest (start_path s) ≡ o → OpensBehind (ys ++ first_stay w.next_pid (loading_in w s o)) (located w s o)
  opens_located None is = tt
  opens_located (Some f) is = opens_fitting f (found_names w.rest (start_path s) f is) (frame_fits f.original s.args [])

  opens_started : OpensBehind (ys ++ first_stay w.next_pid (loading_of w s)) (started w s)
  unfolding started
  opens_started = opens_located (found w.rest (start_path s)) refl

opens_all : (ss : List StartLine) (ys : List Stay) (w : World) → Opens ys w → OpensBehind (ys ++ first_stays w ss) (all_started w ss)
unfolding all_started first_stays
opens_all [] ys w opens = subst (λ l. Opens l w) (sym (append-nil ys)) opens
opens_all (s ∷ ss) ys w opens = on (started w s) (opens_started ys w opens s) (λ zs v o. opens_all ss zs v o)
  where
    on : (r : Result World BootFault) → OpensBehind (ys ++ first_stay w.next_pid (loading_of w s)) r
        → ((zs : List Stay) (v : World) → Opens zs v → OpensBehind (zs ++ first_stays v ss) (all_started v ss))
        → OpensBehind (ys ++ (first_stay w.next_pid (loading_of w s) ++ behind_start (λ now. first_stays now ss) r)) (then_started r (λ now. all_started now ss))
    on (Ok v) o more = subst (λ l. OpensBehind l (all_started v ss)) (append_assoc ys (first_stay w.next_pid (loading_of w s)) (first_stays v ss)) (more (ys ++ first_stay w.next_pid (loading_of w s)) v o)
    on (Err fault) o more = tt

opens_empty : (rest : Rest) → Opens [] (empty_world rest)
unfolding runners kept_calls_of loads_of belonging
opens_empty rest = record {
  right = record {
    count = refl;
    loads = refl;
    agree = λ i y there. absurd cc;
    told = record { places = []; each = refl; entries = λ i y there. absurd cc; no_others = λ i past. refl };
  };
  none = λ i past. refl;
}

pub boots_begin_stays : BootsBeginStays
unfolding boot
boots_begin_stays rest starts w can is =
    (subst (OpensBehind (first_stays (empty_world rest) starts)) is (opens_all starts [] (empty_world rest) (opens_empty rest))).right
