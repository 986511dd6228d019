-- What a boot of the machine gives, as the opening world of the definition.
use Rattle.std.proofs.Common.{◌≡◌, ℕ, ◌+◌, ◌*◌, ◌^◌, ◌<◌, ◌≤◌, Bool, true, false, List, [], ◌∷◌, length, map, Option, Some, None, Result, Ok, Err, refl, sym, ap, subst, ◌∙◌, arith, inr}
use Rattle.std.specs.Prelude.{sum_by}
use Rattle.std.specs.List.{AllByRecursion}
use Rattle.std.proofs.lemmas.Simd.{map-map}
use Rattle.std.proofs.lemmas.List.Sums.{sum_by-cons}
use Rattle.std.proofs.Math.Nat.{mul-le-mul_left}
use Rattle.quantum_sched.specs.declared.Quantum.{Quantum}
use Rattle.manifest_text.specs.declared.manifest.Dump.{Dump}
use Rattle.manifest_text.specs.declared.manifest.WatchLine.{WatchLine}
use Rattle.manifest_text.specs.declared.manifest.Start.{Start as StoredStart}
use Rattle.manifest_text.specs.Values.{Manifest, start_value}
use Rattle.manifest_text.specs.Laws.{IsShort, Reasonable}
use Rattle.flat_loader.specs.Begin.{Loading}
use Rattle.machine_world.specs.World.{Rest, World}
use Rattle.machine_world.specs.Boot.{StartLine, BootFault, bad_start, args_too_big, no_run, Found, found, start_path, placed, fitting, located, started, then_started, all_started, empty_world, begun, boot}
use Rattle.kept_parts.specs.Stands.{world_of}
use Rattle.machine_world.specs.Turns.{turns}
use Rattle.memory_world.specs.Physical.{Physical, turns_in, opening_in}
use Rattle.flat_machine.specs.declared.boot.BootRefusal.{BootRefusal}
use Rattle.flat_machine.specs.declared.boot.BootRefusal.TheVariants as refusal
use Rattle.region_watch.specs.declared.mode.Mode.{Mode}
use Rattle.region_watch.specs.declared.mode.Mode.TheVariants.{Halt, GoOn}
use Rattle.flat_machine.specs.State.{State, world, one_memory, lines_of}
use Rattle.flat_machine.specs.Boots.{Boots}
use Rattle.host_io.specs.Host.{Told}
use Rattle.file_commands.specs.Ending.{Ending, OrMemory}
use Rattle.file_commands.specs.Observed.{Observed}
use Rattle.file_commands.specs.HostCourse.{Performs}
use Rattle.suite_top.specs.Refusing.{told_refusal}
use Rattle.file_commands.specs.Manifests.{Refuses}
use Rattle.suite_top.specs.Telling.{Telling, kept_of}
use Rattle.suite_top.specs.KeptItems.{kept_outcome}
use Rattle.suite_top.specs.Run.{start_line, world_ending, memory_run_ending, mode_outcome}
use Rattle.suite_top.specs.Steps.{EndsFor, boot_ending}

-- ---- what no start line changes

world_or : Result World BootFault → World → World
world_or (Ok w) other = w
world_or (Err fault) other = other

-- something of the world that the start of a program keeps
module _ {A : Type 0} (of : World → A) (keeps : (w : World) (i : ℕ) (l : Loading) → of (begun w i l) ≡ of w) where
  kept_placed : (w : World) (s : StartLine) (f : Found) (o : Option ℕ) (now : World) → placed w s f o ≡ Ok now → of now ≡ of w
  unfolding world_or
  kept_placed w s f None now is = absurd cc
  kept_placed w s f (Some page) now is = sym (ap (λ (r : Result World BootFault). of (world_or r w)) is) ∙ keeps w f.index _

  kept_fitting : (w : World) (s : StartLine) (f : Found) (fits : Bool) (now : World) → fitting w s f fits ≡ Ok now → of now ≡ of w
  kept_fitting w s f true now is = kept_placed w s f _ now is
  kept_fitting w s f false now is = absurd cc

  kept_located : (w : World) (s : StartLine) (o : Option Found) (now : World) → located w s o ≡ Ok now → of now ≡ of w
  kept_located w s None now is = absurd cc
  kept_located w s (Some f) now is = kept_fitting w s f _ now is

  kept_then : (r : Result World BootFault) (w : World) (more : World → Result World BootFault) (now : World) → ((v : World) → r ≡ Ok v → of v ≡ of w)
      → ((v : World) → more v ≡ Ok now → of now ≡ of v) → then_started r more ≡ Ok now → of now ≡ of w
  kept_then (Ok v) w more now first rest is = rest v is ∙ first v refl
  kept_then (Err fault) w more now first rest is = absurd cc

  kept_all : (starts : List StartLine) (w now : World) → all_started w starts ≡ Ok now → of now ≡ of w
  unfolding all_started started
  kept_all [] w now is = let h : w ≡ now = cc in sym (ap of h)
  kept_all (s ∷ ss) w now is =
      kept_then (started w s) w (λ v. all_started v ss) now (λ v first. kept_located w s (found w.rest (start_path s)) v first) (λ v. kept_all ss v now) is

  pub kept_boot : (rest : Rest) (starts : List StartLine) (w : World) → boot rest starts ≡ Ok w → of w ≡ of (empty_world rest)
  unfolding boot
  kept_boot rest starts w is = kept_all starts (empty_world rest) w is

-- no event comes before the first
pub no_event_yet : (rest : Rest) (starts : List StartLine) (w : World) → boot rest starts ≡ Ok w → w.events ≡ 0
no_event_yet rest starts w is = kept_boot (λ v. v.events) (λ v i l. refl) rest starts w is

-- runs are chosen as they were
pub kind_stays : (rest : Rest) (starts : List StartLine) (w : World) → boot rest starts ≡ Ok w → w.rest.kind ≡ rest.kind
kind_stays rest starts w is = kept_boot (λ v. v.rest.kind) (λ v i l. refl) rest starts w is

-- ---- the events of a run are counted by a word of 64 bits

sum_short : (qs : List Quantum) → AllByRecursion IsShort qs → sum_by (λ q. q.count) qs ≤ length qs * 1000000
sum_short [] all = omega arith
sum_short (q ∷ qs) all = omega (arith, sum_by-cons (λ (x : Quantum). x.count) q qs, all.0, sum_short qs all.1)

pub events_fit : (m : Manifest) → Reasonable m → (events : ℕ) → events ≡ 0 → events + m.repeat * sum_by (λ q. q.count) m.quanta < 2 ^ 64
events_fit m is events none =
    let quanta : length m.quanta ≤ 65536 = is.quanta in
    let sum = sum_short m.quanta is.each_quantum in
    let repeat : m.repeat ≤ 1000000 = is.repeat in
    let bound : sum_by (λ (q : Quantum). q.count) m.quanta ≤ 65536000000 = omega (arith, quanta, sum) in
    omega (arith, none, mul-le-mul_left m.repeat bound, repeat)

-- ---- the machine's boot

pub lines_are : (starts : List StoredStart) → lines_of starts ≡ map start_line (map start_value starts)
lines_are starts = sym (map-map start_line start_value starts)

pub booted : (r : Result World BootFault) (machine : State) → Boots r (Ok machine) → r ≡ Ok (world machine)
booted (Ok w) machine is = ap Ok (sym is)
booted (Err fault) machine is = absurd is

-- what the machine was started with, as the definition has it
pub boots_as : (rest : Rest) (starts : List StoredStart) (m : Manifest) (boots : Result World BootFault) → m.starts ≡ map start_value starts
    → boot rest (lines_of starts) ≡ boots → boot rest (map start_line m.starts) ≡ boots
boots_as rest starts m boots are is = ap (λ ss. boot rest (map start_line ss)) are ∙ ap (boot rest) (sym (lines_are starts)) ∙ is

-- the machine's run as the definition has it
pub ends_as : (machine : State) (telling : Telling) (mode : Mode) (quanta : List Quantum) (watches : List WatchLine) (dumps : List Dump) (headers : List (List ℕ)) (old new : Observed Told) (ending : Ending)
    → machine.mode ≡ mode → one_memory machine ≡ opening_in headers (world machine)
    → (machine.mode ≡ Halt → Performs old new (kept_outcome (kept_of telling) (turns quanta (world machine)).world (world_ending telling quanta watches dumps (world machine))) ending)
    → (machine.mode ≡ GoOn → Performs old new (kept_outcome (kept_of telling) (turns_in quanta (one_memory machine)).now.world (memory_run_ending telling quanta watches dumps (one_memory machine))) ending)
    → Performs old new (mode_outcome telling mode quanta watches dumps headers (world machine)) ending
ends_as machine telling Halt quanta watches dumps headers old new ending is memory halt go_on = halt is
ends_as machine telling GoOn quanta watches dumps headers old new ending is memory halt go_on =
    subst (λ (p : Physical). Performs old new (kept_outcome (kept_of telling) (turns_in quanta p).now.world (memory_run_ending telling quanta watches dumps p)) ending) memory (go_on is)

pub machine_events : (machine : State) → (world machine).events ≡ machine.events
unfolding world_of
machine_events machine = refl

pub machine_kind : (machine : State) → (world machine).rest.kind ≡ machine.kind
unfolding world_of
machine_kind machine = refl

-- a machine that doesn't start
refused_by : (fault : BootFault) (r : BootRefusal) (ending : Ending) → Boots (Err fault) (Err r) → Refuses (told_refusal r) ending → OrMemory (boot_ending fault) ending
refused_by fault refusal.Memory ending is ends = inr ends
refused_by (bad_start number) (refusal.BadStart at) ending is ends = subst (λ n. OrMemory (boot_ending (bad_start n)) ending) is ends
refused_by (args_too_big number) (refusal.E2big at) ending is ends = subst (λ n. OrMemory (boot_ending (args_too_big n)) ending) is ends
refused_by (no_run number) (refusal.NoRun at) ending is ends = subst (λ n. OrMemory (boot_ending (no_run n)) ending) is ends
refused_by fault r ending is ends = absurd is

pub refuses_boot : (b : Result World BootFault) (r : BootRefusal) (ending : Ending) → Boots b (Err r) → Refuses (told_refusal r) ending → EndsFor boot_ending b ending
refuses_boot (Ok w) refusal.Memory ending is ends = ends
refuses_boot (Ok w) r ending is ends = absurd is
refuses_boot (Err fault) r ending is ends = refused_by fault r ending is ends
