-- What the outcome of a run can be: loads, one after the other, and then a refusal or the ending of a machine that stopped.
use Rattle.std.proofs.Common.{◌≡◌, ℕ, List, ◌++◌, map, Option, Some, None, Result, Ok, Err, refl}
use Rattle.manifest_text.specs.declared.manifest.Dump.{Dump}
use Rattle.manifest_text.specs.declared.manifest.WatchLine.{WatchLine}
use Rattle.quantum_sched.specs.declared.Quantum.{Quantum}
use Rattle.manifest_text.specs.Values.{Manifest}
use Rattle.manifest_text.specs.Manifest.{Fault, manifest_of}
use Rattle.machine_world.specs.World.{World}
use Rattle.machine_world.specs.Turns.{End, all_ended, stuck, out_of_quanta, stray_at, log_full, turns}
use Rattle.machine_world.specs.Boot.{BootFault, boot}
use Rattle.memory_world.specs.Physical.{turns_in, opening_in}
use Rattle.region_watch.specs.declared.mode.Mode.{Mode}
use Rattle.region_watch.specs.declared.mode.Mode.TheVariants.{Halt, GoOn}
use Rattle.flat_machine.specs.Runs.{repeated}
use Rattle.file_commands.specs.declared.status.Status.{Status}
use Rattle.file_commands.specs.declared.status.Status.TheVariants.{Done, Stray, OutOfQuanta, LogFull, Stuck}
use Rattle.file_commands.specs.Texts.Refusals.{manifest_tail, line_tail}
use Rattle.file_commands.specs.Ending.{refused_ending}
use Rattle.file_commands.specs.Outcome.{load, failure_ending, Outcome, Inputs, after}
use Rattle.file_commands.specs.Load.{at_once}
use Rattle.run_setup.specs.Brought.{Brought, FaultAt, nothing_brought, all_brought}
use Rattle.suite_top.specs.Report.{status_of_end, own_dumps, memory_dumps}
use Rattle.suite_top.specs.Telling.{Telling, Report, Trace, Demo, mode_of, placement_of, kept_of, told_ending}
use Rattle.elf_maker.specs.Demo.{demo_file}
use Rattle.suite_top.specs.Demo.{each_of, demo_manifest, demo_run}
use Rattle.file_commands.specs.Items.{files_limit}
use Rattle.file_commands.specs.Manifests.{manifest_limit}
use Rattle.suite_top.proofs.LoadOutcomes.{load_run, items_run}
use Rattle.suite_top.specs.KeptItems.{keep_of, kept_outcome}
use Rattle.suite_top.specs.Run.{start_line, opening, boot_fault, world_hits, memory_hits, mode_outcome, booted_outcome, brought_outcome, files_outcome, manifest_outcome, run_outcome}

-- what holds of each end
module _ (P : Outcome → Type 0) (refused : (tail : List ℕ) → P (at_once (refused_ending tail))) (telling : Telling)
    (told : (shown : List ℕ) (w : World) (end : Option End) → P (kept_outcome (kept_of telling) w (told_ending telling shown w end))) where
  by_mode : (mode : Mode) (quanta : List Quantum) (watches : List WatchLine) (dumps : List Dump) (headers : List (List ℕ)) (w : World) → P (mode_outcome telling mode quanta watches dumps headers w)
  by_mode Halt quanta watches dumps headers w =
      let walk = turns quanta w in told (world_hits telling quanta watches w ++ own_dumps walk.world dumps) walk.world walk.end
  by_mode GoOn quanta watches dumps headers w =
      let p = opening_in headers w in
      let walk = turns_in quanta p in told (memory_hits telling quanta watches p ++ memory_dumps walk.now dumps) walk.now.world walk.end

  booted : (m : Manifest) (headers : List (List ℕ)) (r : Result World BootFault) → P (booted_outcome telling m headers r)
  booted m headers (Err first) = refused (line_tail (boot_fault first).line (boot_fault first).fault)
  booted m headers (Ok w) = by_mode (mode_of telling) (repeated m.repeat m.quanta) m.watches m.dumps headers w

  made : (m : Manifest) (r : Result Brought FaultAt) → P (brought_outcome telling m r)
  made m (Err at) = refused (line_tail at.line at.fault)
  made m (Ok b) = booted m b.headers (boot (opening (keep_of (kept_of telling)) (placement_of telling) m b) (map start_line m.starts))

  from_files : (m : Manifest) (files : List (List ℕ)) → P (files_outcome telling m files)
  unfolding files_outcome
  from_files m files = made m (all_brought m.items files nothing_brought)

  -- and of a load in front of an outcome of which it holds
  module _ (step : (name : List ℕ) (o : Outcome) → P o → P (after (load name) o)) (read : (name : List ℕ) → P (at_once (failure_ending (load name)))) where
    from_manifest : (r : Result Manifest Fault) (inputs : Inputs) → P (manifest_outcome telling r inputs)
    from_manifest (Err first) inputs = refused (manifest_tail first.line first.fault)
    from_manifest (Ok m) inputs =
        items_run P step read refused files_limit m.items (files_outcome telling m) (from_files m) inputs

    pub run_by : (name : List ℕ) (inputs : Inputs) → P (run_outcome name telling inputs)
    unfolding run_outcome
    run_by name inputs =
        load_run P step read refused manifest_limit None name (λ bytes. manifest_outcome telling (manifest_of bytes))
        (λ bytes more. from_manifest (manifest_of bytes) more) inputs

-- a demo keeps no items
pub demo_by : (P : Outcome → Type 0) (refused : (tail : List ℕ) → P (at_once (refused_ending tail))) (told : (telling : Telling) (shown : List ℕ) (w : World) (end : Option End) → P (at_once (told_ending telling shown w end)))
    (n : ℕ) → P (demo_run n)
unfolding demo_run
demo_by P refused told n = from_files P refused (Demo n) (told (Demo n)) (demo_manifest n) (each_of demo_file n)

-- so it asks for nothing
pub demo_asks_nothing : (n : ℕ) → demo_run n ≡ at_once (demo_run n).ending
demo_asks_nothing n = demo_by (λ (o : Outcome). o ≡ at_once o.ending) (λ tail. refl) (λ telling shown w end. refl) n

-- the statuses of a machine that stopped
pub other_status : (P : Status → Type 0) → P Done → P Stray → P OutOfQuanta → P LogFull → P Stuck → (end : Option End) → P (status_of_end end)
other_status P done stray quanta full still None = quanta
other_status P done stray quanta full still (Some all_ended) = done
other_status P done stray quanta full still (Some stuck) = still
other_status P done stray quanta full still (Some (stray_at pid access)) = stray
other_status P done stray quanta full still (Some out_of_quanta) = quanta
other_status P done stray quanta full still (Some log_full) = full

-- those of what a run tells
pub told_status : (P : Status → Type 0) → P Done → P Stray → P OutOfQuanta → P LogFull → P Stuck
    → (telling : Telling) (shown : List ℕ) (w : World) (end : Option End) → P (told_ending telling shown w end).status
told_status P done stray quanta full still (Report options) shown w end = other_status P done stray quanta full still end
told_status P done stray quanta full still (Trace options) shown w end = other_status P done stray quanta full still end
told_status P done stray quanta full still (Demo n) shown w None = quanta
told_status P done stray quanta full still (Demo n) shown w (Some all_ended) = done
told_status P done stray quanta full still (Demo n) shown w (Some stuck) = still
told_status P done stray quanta full still (Demo n) shown w (Some (stray_at pid access)) = stray
told_status P done stray quanta full still (Demo n) shown w (Some out_of_quanta) = quanta
told_status P done stray quanta full still (Demo n) shown w (Some log_full) = full
