-- A run that keeps items boots as the same run without them: from worlds that differ in what is recorded alone.
use Rattle.std.proofs.Common.{◌≡◌, ℕ, Bool, true, false, List, [], ◌∷◌, map, Option, Some, None, Result, Ok, Err, inl, inr, refl, sym, ap, subst}
use Rattle.page_runs.specs.declared.place.Kind.{Kind}
use Rattle.manifest_text.specs.Values.{Manifest}
use Rattle.call_log.specs.declared.errno.Errno.{Errno}
use Rattle.mem_files.specs.Paths.{lookup}
use Rattle.flat_loader.specs.Frame.{frame_fits}
use Rattle.flat_loader.specs.Original.{block_pages}
use Rattle.machine_world.specs.World.{Recording, World}
use Rattle.machine_world.specs.Found.{Found, found_node, found, address_of, taken}
use Rattle.machine_world.specs.Free.{free}
use Rattle.machine_world.specs.Boot.{StartLine, BootFault, start_path, placed, fitting, located, started, then_started, all_started, empty_world, boot}
use Rattle.machine_world.specs.Recordings.{nothing_recorded, launched}
use Rattle.region_watch.specs.declared.mode.Mode.TheVariants.{Halt}
use Rattle.flat_machine.specs.Runs.{repeated}
use Rattle.run_setup.specs.Brought.{Brought, FaultAt, nothing_brought, all_brought}
use Rattle.file_commands.specs.Arguments.{KeptItems, RunOptions}
use Rattle.file_commands.specs.Outcome.{Request, Outcome, after}
use Rattle.suite_top.specs.Telling.{Telling, Report}
use Rattle.suite_top.specs.Run.{start_line, opening, booted_outcome, brought_outcome, files_outcome}
use Rattle.suite_top.proofs.RunOutcomes.{told_status}
use Rattle.machine_world.specs.Turns.{turns}
use Rattle.command_laws.specs.RunLaws.{IsStop}
use Rattle.command_laws.specs.ItemsLaws.{EndsAlike, KeepingEndsEarlyAlike}
use Rattle.command_laws.proofs.BothRuns.{both_loaded}

-- the same world, with another recording
abbrev recording_as : ℕ → Recording → World → World
recording_as k r w = record w { rest = record w.rest { keep = k }; recording = r }

abbrev BootAlike : (one other : Result World BootFault) → Type 0
BootAlike (Ok w) (Ok v) = (k : ℕ) × (r : Recording) × (v ≡ recording_as k r w)
BootAlike (Err fault) (Err other) = other ≡ fault
BootAlike (Ok w) (Err other) = ⊥
BootAlike (Err fault) (Ok v) = ⊥

module _ (k : ℕ) (r : Recording) (w : World) (s : StartLine) where
  abbrev other : World
  other = recording_as k r w

  placed_alike : (f : Found) (o : Option ℕ) → BootAlike (placed w s f o) (placed other s f o)
  placed_alike f None = refl
  placed_alike f (Some page) = (k, launched w.loads w.next_pid (record { original = f.original; block = address_of page; args = s.args; env = [] }) r, refl)

  fitting_alike : (f : Found) (fits : Bool) → BootAlike (fitting w s f fits) (fitting other s f fits)
  fitting_alike f true = placed_alike f (taken w (block_pages f.original) (free w))
  fitting_alike f false = refl

  located_alike : (o : Option Found) → BootAlike (located w s o) (located other s o)
  located_alike None = refl
  located_alike (Some f) = fitting_alike f (frame_fits f.original s.args [])

  same_node : (o : Result (Option ℕ) Errno) → found_node other.rest o ≡ found_node w.rest o
  same_node (Ok (Some node)) = refl
  same_node (Ok None) = refl
  same_node (Err errno) = refl

  started_alike : BootAlike (started w s) (started other s)
  unfolding started
  started_alike =
      subst (λ (o : Option Found). BootAlike (located w s (found w.rest (start_path s))) (located other s o)) (sym (same_node (lookup w.rest.tree (start_path s)))) (located_alike (found w.rest (start_path s)))

then_alike : (one other : Result World BootFault) (more : World → Result World BootFault) → BootAlike one other
    → ((k : ℕ) (r : Recording) (w : World) → BootAlike (more w) (more (recording_as k r w))) → BootAlike (then_started one more) (then_started other more)
then_alike (Ok w) (Ok v) more (k, r, is) each = subst (λ (u : World). BootAlike (more w) (more u)) (sym is) (each k r w)
then_alike (Err fault) (Err other) more is each = is
then_alike (Ok w) (Err other) more is each = absurd is
then_alike (Err fault) (Ok v) more is each = absurd is

all_alike : (starts : List StartLine) (k : ℕ) (r : Recording) (w : World) → BootAlike (all_started w starts) (all_started (recording_as k r w) starts)
unfolding all_started
all_alike [] k r w = (k, r, refl)
all_alike (s ∷ ss) k r w = then_alike (started w s) (started (recording_as k r w) s) (λ now. all_started now ss) (started_alike k r w s) (all_alike ss)

boots_alike : (keep : ℕ) (kind : Kind) (m : Manifest) (b : Brought) → BootAlike (boot (opening 0 kind m b) (map start_line m.starts)) (boot (opening keep kind m b) (map start_line m.starts))
unfolding boot
boots_alike keep kind m b = all_alike (map start_line m.starts) keep (nothing_recorded keep) (empty_world (opening 0 kind m b))

-- ---- of a run

module _ (kept : KeptItems) (options : RunOptions) where
  -- without items, and with them
  abbrev without : Telling
  without = Report (record options { mode = Halt; kept = None })

  abbrev keeping : Telling
  keeping = Report (record options { mode = Halt; kept = Some kept })

  booted_alike : (m : Manifest) (headers : List (List ℕ)) (one other : Result World BootFault) → BootAlike one other
      → EndsAlike (booted_outcome without m headers one) (booted_outcome keeping m headers other)
  booted_alike m headers (Ok w) (Ok v) alike =
      let walk = turns (repeated m.repeat m.quanta) w in
      let walk_other = turns (repeated m.repeat m.quanta) v in
      inl (told_status IsStop tt tt tt tt tt without [] walk.world walk.end, told_status IsStop tt tt tt tt tt keeping [] walk_other.world walk_other.end)
  booted_alike m headers (Err fault) (Err other) is = inr (ap (λ (f : BootFault). booted_outcome without m headers (Err f)) is)
  booted_alike m headers (Ok w) (Err other) alike = absurd alike
  booted_alike m headers (Err fault) (Ok v) alike = absurd alike

  brought_alike : (m : Manifest) (r : Result Brought FaultAt) → EndsAlike (brought_outcome without m r) (brought_outcome keeping m r)
  brought_alike m (Err at) = inr refl
  brought_alike m (Ok b) =
      booted_alike m b.headers (boot (opening 0 options.kind m b) (map start_line m.starts)) (boot (opening kept.number options.kind m b) (map start_line m.starts))
      (boots_alike kept.number options.kind m b)

  files_alike : (m : Manifest) (files : List (List ℕ)) → EndsAlike (files_outcome without m files) (files_outcome keeping m files)
  unfolding files_outcome
  files_alike m files = brought_alike m (all_brought m.items files nothing_brought)

alike_after : (request : Request) (one other : Outcome) → EndsAlike one other → EndsAlike (after request one) (after request other)
alike_after request one other (inl both) = inl both
alike_after request one other (inr same) = inr (ap (after request) same)

pub keeping_ends_early_alike : KeepingEndsEarlyAlike
keeping_ends_early_alike name options kept inputs =
    both_loaded EndsAlike alike_after (λ name. inr refl) (λ tail. inr refl) (without kept options) (keeping kept options) (files_alike kept options) name inputs
