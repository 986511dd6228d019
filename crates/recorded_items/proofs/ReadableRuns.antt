-- So it is at boot, and behind every run.
use Rattle.std.proofs.Common.{◌≡◌, ℕ, ◌≤◌, Bool, true, false, List, [], ◌∷◌, ◌++◌, Option, Some, None, Result, Ok, Err, refl, sym, subst}
use Rattle.std.specs.List.{AllByRecursion}
use Rattle.std.proofs.lemmas.List.{append-nil}
use Rattle.std.proofs.Common.{append_assoc}
use Rattle.flat_loader.specs.Original.{block_pages}
use Rattle.flat_loader.specs.Frame.{frame_fits}
use Rattle.flat_loader.specs.Alone.{most_pages}
use Rattle.items_text.specs.Items.{IsString}
use Rattle.quantum_sched.specs.declared.Quantum.{Quantum}
use Rattle.machine_world.specs.World.{Rest, World}
use Rattle.machine_world.specs.Free.{free}
use Rattle.machine_world.specs.Turns.{turns}
use Rattle.machine_world.specs.Boot.{StartLine, BootFault, Found, found, start_path, taken, placed, fitting, located, started, then_started, all_started, empty_world, boot}
use Rattle.alone_laws.specs.Stays.{Stay, loading_at, loading_in, loading_of, first_stay, behind_start, first_stays, stays_along}
use Rattle.alone_laws.specs.Sound.{IsSound}
use Rattle.alone_laws.proofs.SoundRuns.{events_keep_sound, turns_keep_sound}
use Rattle.alone_laws.proofs.TurnStays.{along_runs}
use Rattle.recorded_items.specs.Spelled.{HasLoaded, AreReadable}
use Rattle.recorded_items.specs.Laws.{AreStrings}
use Rattle.recorded_items.proofs.Readable.{is_loaded, all_append, readable_event, readable_stray}

pub readable_runs : (ys : List Stay) (quanta : List Quantum) (w : World) → IsSound w → AreReadable ys w → AreReadable (stays_along ys w quanta) (turns quanta w).world
readable_runs = along_runs AreReadable readable_stray events_keep_sound readable_event turns_keep_sound

-- ---- boot

-- in a memory of no more pages than there can be
record Opens (ys : List Stay) (w : World) : Type 0 where
  pub readable : AreReadable ys w
  pub most : w.rest.pages ≤ most_pages

abbrev OpensBehind : List Stay → Result World BootFault → Type 0
OpensBehind ys (Ok now) = Opens ys now
OpensBehind ys (Err fault) = Unit {0}

module _ (ys : List Stay) (w : World) (opens : Opens ys w) (s : StartLine) (clear : AllByRecursion IsString s.args) where
  opens_placed : (f : Found) → frame_fits f.original s.args [] ≡ true → (page : Option ℕ) → taken w (block_pages f.original) (free w) ≡ page
      → OpensBehind (ys ++ first_stay w.next_pid (loading_at s f page)) (placed w s f page)
  opens_placed f fits None chosen = tt
  opens_placed f fits (Some page) chosen = record {
    readable = record {
      loads = all_append HasLoaded ys (_ ∷ []) opens.readable.loads (is_loaded w f s.args [] page opens.most chosen (clear, tt) fits, tt);
      notes = (tt, opens.readable.notes);
    };
    most = opens.most;
  }

  opens_fitting : (f : Found) (fits : Bool) → frame_fits f.original s.args [] ≡ fits → OpensBehind (ys ++ first_stay w.next_pid (loading_in w s (Some f))) (fitting w s f fits)
  opens_fitting f true is = opens_placed f is (taken w (block_pages f.original) (free w)) refl
  opens_fitting f false is = tt

  opens_located : (o : Option Found) → OpensBehind (ys ++ first_stay w.next_pid (loading_in w s o)) (located w s o)
  opens_located None = tt
  opens_located (Some f) = opens_fitting f (frame_fits f.original s.args []) refl

  opens_started : OpensBehind (ys ++ first_stay w.next_pid (loading_of w s)) (started w s)
  unfolding started
  opens_started = opens_located (found w.rest (start_path s))

opens_all : (ss : List StartLine) → AreStrings ss → (ys : List Stay) (w : World) → Opens ys w → OpensBehind (ys ++ first_stays w ss) (all_started w ss)
unfolding all_started first_stays
opens_all [] clear ys w opens = subst (λ l. Opens l w) (sym (append-nil ys)) opens
opens_all (s ∷ ss) clear ys w opens = on (started w s) (opens_started ys w opens s clear.0) (λ zs v o. opens_all ss clear.1 zs v o)
  where
    on : (r : Result World BootFault) → OpensBehind (ys ++ first_stay w.next_pid (loading_of w s)) r
        → ((zs : List Stay) (v : World) → Opens zs v → OpensBehind (zs ++ first_stays v ss) (all_started v ss))
        → OpensBehind (ys ++ (first_stay w.next_pid (loading_of w s) ++ behind_start (λ now. first_stays now ss) r)) (then_started r (λ now. all_started now ss))
    on (Ok v) o more = subst (λ l. OpensBehind l (all_started v ss)) (append_assoc ys (first_stay w.next_pid (loading_of w s)) (first_stays v ss)) (more (ys ++ first_stay w.next_pid (loading_of w s)) v o)
    on (Err fault) o more = tt

pub readable_boots : (rest : Rest) (starts : List StartLine) (w : World) → rest.pages ≤ most_pages → AreStrings starts → boot rest starts ≡ Ok w → AreReadable (first_stays (empty_world rest) starts) w
unfolding boot
readable_boots rest starts w most clear is =
    (subst (OpensBehind (first_stays (empty_world rest) starts)) is (opens_all starts clear [] (empty_world rest) (record { readable = record { loads = tt; notes = tt }; most = most }))).readable
