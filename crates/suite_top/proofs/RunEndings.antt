-- How a run ends behind its loads.
use Rattle.std.proofs.Common.{◌≡◌, ◌≢◌, ℕ, List, map, Option, None, Result, Ok, Err, refl, sym, subst, inr}
use Rattle.host_io.specs.Host.{Told}
use Rattle.quantum_sched.specs.declared.Quantum.{Quantum}
use Rattle.manifest_text.specs.declared.manifest.Dump.{Dump}
use Rattle.manifest_text.specs.declared.manifest.WatchLine.{WatchLine}
use Rattle.manifest_text.specs.Values.{Manifest}
use Rattle.manifest_text.specs.Manifest.{Fault, manifest_of}
use Rattle.machine_world.specs.World.{World}
use Rattle.machine_world.specs.Turns.{End}
use Rattle.machine_world.specs.Boot.{BootFault, boot}
use Rattle.region_watch.specs.declared.mode.Mode.{Mode}
use Rattle.region_watch.specs.declared.mode.Mode.TheVariants.{Halt, GoOn}
use Rattle.flat_machine.specs.Runs.{repeated}
use Rattle.file_commands.specs.declared.status.Status.TheVariants as status
use Rattle.file_commands.specs.Ending.{Ending, memory_ending, OrMemory}
use Rattle.file_commands.specs.Outcome.{Outcome}
use Rattle.file_commands.specs.Load.{at_once}
use Rattle.file_commands.specs.FileLoad.{GaveFile, EndsWithout}
use Rattle.file_commands.specs.Items.{files_limit, with_items}
use Rattle.file_commands.specs.Observed.{Observed}
use Rattle.file_commands.specs.HostCourse.{Performs, PerformsCommand}
use Rattle.run_setup.specs.Brought.{Brought, FaultAt, nothing_brought, all_brought}
use Rattle.run_setup.specs.declared.fault.LineRefusal.{LineRefusal}
use Rattle.run_setup.specs.declared.fault.LineRefusal.TheVariants.{At, Memory}
use Rattle.run_setup.specs.Making.{BringsAll}
use Rattle.file_commands.specs.ItemLoads.{GaveFiles}
use Rattle.file_commands.specs.Manifests.{manifest_limit, fault_ending, Refuses}
use Rattle.suite_top.specs.Telling.{Telling, mode_of, placement_of, kept_of, told_ending}
use Rattle.suite_top.specs.KeptItems.{keep_of}
use Rattle.suite_top.specs.Run.{mode_ending, mode_outcome, booted_outcome, brought_outcome, files_outcome, items_outcome, manifest_outcome, run_outcome, start_line, opening}
use Rattle.suite_top.specs.Steps.{EndsFor, manifest_ending, boot_ending}
use Rattle.file_commands.proofs.HostCourses.{runs_out, ends_at_once}
use Rattle.file_commands.proofs.HostSteps.{for_any_inputs, performs_rest}
use Rattle.suite_top.proofs.RunOutcomes.{told_status}

-- no end is that of a failed load
mode_is_told : (telling : Telling) (mode : Mode) (quanta : List Quantum) (watches : List WatchLine) (dumps : List Dump) (headers : List (List ℕ)) (w : World)
    → (mode_ending telling mode quanta watches dumps headers w).status ≢ status.HostRead
mode_is_told telling Halt quanta watches dumps headers w = told_status (λ s. s ≢ status.HostRead) (λ h. cc) (λ h. cc) (λ h. cc) (λ h. cc) (λ h. cc) telling _ _ _
mode_is_told telling GoOn quanta watches dumps headers w = told_status (λ s. s ≢ status.HostRead) (λ h. cc) (λ h. cc) (λ h. cc) (λ h. cc) (λ h. cc) telling _ _ _

booted_is_told : (telling : Telling) (m : Manifest) (headers : List (List ℕ)) (b : Result World BootFault) → (booted_outcome telling m headers b).ending.status ≢ status.HostRead
booted_is_told telling m headers (Err fault) = λ h. cc
booted_is_told telling m headers (Ok w) = mode_is_told telling (mode_of telling) (repeated m.repeat m.quanta) m.watches m.dumps headers w

brought_is_told : (telling : Telling) (m : Manifest) (r : Result Brought FaultAt) → (brought_outcome telling m r).ending.status ≢ status.HostRead
brought_is_told telling m (Err at) = λ h. cc
brought_is_told telling m (Ok b) = booted_is_told telling m b.headers (boot (opening (keep_of (kept_of telling)) (placement_of telling) m b) (map start_line m.starts))

pub files_are_told : (telling : Telling) (m : Manifest) (files : List (List ℕ)) → (files_outcome telling m files).ending.status ≢ status.HostRead
unfolding files_outcome
files_are_told telling m files = brought_is_told telling m (all_brought m.items files nothing_brought)

-- nor is what a machine tells that stopped
pub stop_is_told : (ending : Ending) (telling : Telling) (shown : List ℕ) (w : World) (end : Option End) → ending ≡ told_ending telling shown w end → ending.status ≢ status.HostRead
stop_is_told ending telling shown w end is =
    subst (λ (e : Ending). e.status ≢ status.HostRead) (sym is) (told_status (λ s. s ≢ status.HostRead) (λ h. cc) (λ h. cc) (λ h. cc) (λ h. cc) (λ h. cc) telling shown w end)

-- ---- a step that ends the run

-- out of memory before the first request
pub out_of_memory : (old : Observed Told) (outcome : Outcome) (ending : Ending) → ending ≡ memory_ending → Performs old old outcome ending
out_of_memory old outcome ending is = subst (Performs old old outcome) (sym is) (runs_out old old outcome refl refl)

module _ {A F : Type 0} (of : F → Ending) where
  pub ends_of_memory : (wanted : Result A F) (ending : Ending) → ending ≡ memory_ending → EndsFor of wanted ending
  ends_of_memory (Ok a) ending is = is
  ends_of_memory (Err fault) ending is = inr is

  pub ends_of_fault : (wanted : Result A F) (fault : F) (ending : Ending) → wanted ≡ Err fault → OrMemory (of fault) ending → EndsFor of wanted ending
  ends_of_fault wanted fault ending is ends = subst (λ (r : Result A F). EndsFor of r ending) (sym is) ends

  -- nothing more is requested, where the outcome is that of the fault
  ends_step : (outcome : Result A F → Outcome) → ((fault : F) → outcome (Err fault) ≡ at_once (of fault)) → ((fault : F) → (of fault).status ≢ status.HostRead)
      → (old : Observed Told) (wanted : Result A F) (ending : Ending) → EndsFor of wanted ending → Performs old old (outcome wanted) ending
  ends_step outcome at other old (Ok a) ending ends = out_of_memory old (outcome (Ok a)) ending ends
  ends_step outcome at other old (Err fault) ending ends = subst (λ (o : Outcome). Performs old old o ending) (sym (at fault)) (ends_at_once old (of fault) ending (other fault) ends)

-- lines that are refused
pub refuses_line : (wanted : Result Brought FaultAt) (refusal : LineRefusal) (ending : Ending) → BringsAll wanted (Err refusal) → Refuses refusal ending → EndsFor fault_ending wanted ending
refuses_line wanted Memory ending why ends = ends_of_memory fault_ending wanted ending ends
refuses_line wanted (At number first) ending is ends = ends_of_fault fault_ending wanted (record { line = number; fault = first }) ending is ends

module _ (telling : Telling) where
  -- ---- behind the load of the manifest

  pub behind_manifest : (name : List ℕ) (old now new : Observed Told) (bytes : List ℕ) (ending : Ending) → GaveFile manifest_limit old now name bytes
      → PerformsCommand now new (manifest_outcome telling (manifest_of bytes)) ending → PerformsCommand old new (run_outcome name telling) ending
  unfolding run_outcome
  behind_manifest name old now new bytes ending gave performs =
      performs_rest manifest_limit None name (λ text. manifest_outcome telling (manifest_of text)) old now new bytes ending gave performs

  pub without_manifest : (name : List ℕ) (old new : Observed Told) (ending : Ending) → EndsWithout manifest_limit None old new name ending → PerformsCommand old new (run_outcome name telling) ending
  unfolding run_outcome
  without_manifest name old new ending ends = ends (λ text. manifest_outcome telling (manifest_of text))

  pub refuses_manifest : (old : Observed Told) (wanted : Result Manifest Fault) (ending : Ending) → EndsFor manifest_ending wanted ending
      → PerformsCommand old old (manifest_outcome telling wanted) ending
  refuses_manifest old wanted ending ends =
      for_any_inputs old old (manifest_outcome telling wanted) ending (λ inputs. ends_step manifest_ending (λ r. manifest_outcome telling r inputs) (λ first. refl) (λ first h. cc) old wanted ending ends)

  module _ (wanted : Result Manifest Fault) (m : Manifest) (reads : wanted ≡ Ok m) where
    as_read : (old new : Observed Told) (ending : Ending) → PerformsCommand old new (items_outcome telling m) ending → PerformsCommand old new (manifest_outcome telling wanted) ending
    as_read old new ending performs = subst (λ (r : Result Manifest Fault). PerformsCommand old new (manifest_outcome telling r) ending) (sym reads) performs

    pub without_files : (old new : Observed Told) (ending : Ending) → ((rest : List (List ℕ) → Outcome) → PerformsCommand old new (with_items files_limit m.items rest) ending)
        → PerformsCommand old new (manifest_outcome telling wanted) ending
    without_files old new ending ends = as_read old new ending (ends (files_outcome telling m))

    pub behind_files : (old now new : Observed Told) (files : List (List ℕ)) (ending : Ending) → GaveFiles old now m.items files → Performs now new (files_outcome telling m files) ending
        → PerformsCommand old new (manifest_outcome telling wanted) ending
    behind_files old now new files ending gave performs =
        as_read old new ending (gave.goes_on (files_outcome telling m) new ending (for_any_inputs now new (λ inputs. files_outcome telling m files) ending (λ inputs. performs)))

  -- ---- behind all loads

  module _ (m : Manifest) (files : List (List ℕ)) where
    pub refuses_files : (old : Observed Told) (ending : Ending) → EndsFor fault_ending (all_brought m.items files nothing_brought) ending → Performs old old (files_outcome telling m files) ending
    unfolding files_outcome
    refuses_files old ending ends = ends_step fault_ending (brought_outcome telling m) (λ at. refl) (λ at h. cc) old (all_brought m.items files nothing_brought) ending ends

    module _ (b : Brought) (brings : all_brought m.items files nothing_brought ≡ Ok b) where
      abbrev started : Result World BootFault
      started = boot (opening (keep_of (kept_of telling)) (placement_of telling) m b) (map start_line m.starts)

      as_brought : (old new : Observed Told) (ending : Ending) → Performs old new (booted_outcome telling m b.headers started) ending → Performs old new (files_outcome telling m files) ending
      unfolding files_outcome
      as_brought old new ending performs = subst (λ (r : Result Brought FaultAt). Performs old new (brought_outcome telling m r) ending) (sym brings) performs

      pub refuses_start : (old : Observed Told) (ending : Ending) → EndsFor boot_ending started ending → Performs old old (files_outcome telling m files) ending
      refuses_start old ending ends = as_brought old old ending (ends_step boot_ending (booted_outcome telling m b.headers) (λ first. refl) (λ first h. cc) old started ending ends)

      pub behind_start : (old new : Observed Told) (w : World) (ending : Ending) → started ≡ Ok w → Performs old new (mode_outcome telling (mode_of telling) (repeated m.repeat m.quanta) m.watches m.dumps b.headers w) ending
          → Performs old new (files_outcome telling m files) ending
      behind_start old new w ending starts performs = as_brought old new ending (subst (λ (r : Result World BootFault). Performs old new (booted_outcome telling m b.headers r) ending) (sym starts) performs)
