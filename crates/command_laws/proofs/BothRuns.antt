-- Two runs of one manifest that tell other things, or go on behind a stray access or not, by the loads that they share.
use Rattle.std.proofs.Common.{◌≡◌, ℕ, ◌-◌, Bool, true, false, cond, List, [], ◌∷◌, map, length, nat_lt, Option, Some, None, Result, Ok, Err, subst}
use Rattle.quantum_sched.specs.declared.Quantum.{Quantum}
use Rattle.manifest_text.specs.declared.manifest.Dump.{Dump}
use Rattle.manifest_text.specs.declared.manifest.WatchLine.{WatchLine}
use Rattle.manifest_text.specs.Values.{Item, Manifest}
use Rattle.manifest_text.specs.Manifest.{Fault, manifest_of}
use Rattle.machine_world.specs.World.{Rest, World}
use Rattle.machine_world.specs.Boot.{BootFault, boot}
use Rattle.flat_machine.specs.Runs.{repeated}
use Rattle.run_setup.specs.Brought.{Brought, FaultAt, nothing_brought, all_brought}
use Rattle.file_commands.specs.Texts.Refusals.{too_long_at, manifest_tail, line_tail}
use Rattle.file_commands.specs.Ending.{refused_ending}
use Rattle.file_commands.specs.Outcome.{Request, load, failure_ending, Outcome, Inputs, after}
use Rattle.file_commands.specs.Load.{at_once, behind, with_limited, with_load}
use Rattle.file_commands.specs.Items.{load_limit, files_limit, has_file, with_item, with_items}
use Rattle.suite_top.specs.Telling.{Telling, mode_of, placement_of, kept_of}
use Rattle.file_commands.specs.Manifests.{manifest_limit}
use Rattle.suite_top.specs.KeptItems.{keep_of}
use Rattle.suite_top.specs.Run.{start_line, opening, boot_fault, mode_outcome, booted_outcome, brought_outcome, files_outcome, manifest_outcome, run_outcome}

-- a relation of both outcomes holds if it holds of equal early ends, and stays behind a load
module _ (R : (one other : Outcome) → Type 0) (step : (request : Request) (one other : Outcome) → R one other → R (after request one) (after request other))
    (failed : (name : List ℕ) → R (at_once (failure_ending (load name))) (at_once (failure_ending (load name))))
    (refused : (tail : List ℕ) → R (at_once (refused_ending tail)) (at_once (refused_ending tail))) where
  -- ---- behind loads

  both_limited : (limit : ℕ) (line : Option ℕ) (name : List ℕ) (file : Option (List ℕ)) (one other : List ℕ → Outcome) → ((bytes : List ℕ) → R (one bytes) (other bytes))
      → R (with_limited limit line name file one) (with_limited limit line name file other)
  both_limited limit line name None one other each = failed name
  both_limited limit line name (Some bytes) one other each = by_test (nat_lt limit (length bytes))
    where
      by_test : (long : Bool) → R (cond long (at_once (refused_ending (too_long_at line))) (one bytes)) (cond long (at_once (refused_ending (too_long_at line))) (other bytes))
      by_test true = refused (too_long_at line)
      by_test false = each bytes

  module _ (one other : List ℕ → Inputs → Outcome) (each : (bytes : List ℕ) (inputs : Inputs) → R (one bytes inputs) (other bytes inputs)) where
    both_load : (limit : ℕ) (line : Option ℕ) (name : List ℕ) (inputs : Inputs) → R (with_load limit line name one inputs) (with_load limit line name other inputs)
    both_load limit line name inputs =
        step (load name) (with_limited limit line name (inputs 0 name) (λ bytes. one bytes (behind inputs))) (with_limited limit line name (inputs 0 name) (λ bytes. other bytes (behind inputs)))
        (both_limited limit line name (inputs 0 name) (λ bytes. one bytes (behind inputs)) (λ bytes. other bytes (behind inputs)) (λ bytes. each bytes (behind inputs)))

    both_item : (left : ℕ) (item : Item) (inputs : Inputs) → R (with_item left item one inputs) (with_item left item other inputs)
    both_item left item inputs = by_kind (has_file item.kind)
      where
        by_kind : (has : Bool)
            → R (cond has (with_load (load_limit item.kind left) (Some item.line) item.name one inputs) (one [] inputs)) (cond has (with_load (load_limit item.kind left) (Some item.line) item.name other inputs) (other [] inputs))
        by_kind true = both_load (load_limit item.kind left) (Some item.line) item.name inputs
        by_kind false = each [] inputs

  both_items : (left : ℕ) (items : List Item) (one other : List (List ℕ) → Outcome) → ((files : List (List ℕ)) → R (one files) (other files)) → (inputs : Inputs)
      → R (with_items left items one inputs) (with_items left items other inputs)
  unfolding with_items
  both_items left [] one other each inputs = each []
  both_items left (item ∷ items) one other each inputs =
      both_item (λ bytes. with_items (left - length bytes) items (λ files. one (bytes ∷ files))) (λ bytes. with_items (left - length bytes) items (λ files. other (bytes ∷ files)))
      (λ bytes others. both_items (left - length bytes) items (λ files. one (bytes ∷ files)) (λ files. other (bytes ∷ files)) (λ files. each (bytes ∷ files)) others) left item inputs

  -- ---- and of what comes of the same files

  module _ (telling telling_other : Telling) (each : (m : Manifest) (files : List (List ℕ)) → R (files_outcome telling m files) (files_outcome telling_other m files)) where
    both_manifest : (r : Result Manifest Fault) (inputs : Inputs) → R (manifest_outcome telling r inputs) (manifest_outcome telling_other r inputs)
    both_manifest (Err first) inputs = refused (manifest_tail first.line first.fault)
    both_manifest (Ok m) inputs = both_items files_limit m.items (files_outcome telling m) (files_outcome telling_other m) (each m) inputs

    pub both_loaded : (name : List ℕ) (inputs : Inputs) → R (run_outcome name telling inputs) (run_outcome name telling_other inputs)
    unfolding run_outcome
    both_loaded name inputs =
        both_load (λ bytes. manifest_outcome telling (manifest_of bytes)) (λ bytes. manifest_outcome telling_other (manifest_of bytes))
        (λ bytes others. both_manifest (manifest_of bytes) others)
        manifest_limit None name inputs

-- what no space holds, before the first program
abbrev opens_as : Telling → Manifest → Brought → Rest
opens_as telling m b = opening (keep_of (kept_of telling)) (placement_of telling) m b

-- and of two runs from the same opening world, if it holds of what a machine tells
module _ (telling telling_other : Telling) (same : (m : Manifest) (b : Brought) → opens_as telling m b ≡ opens_as telling_other m b)
    (R : (one other : Outcome) → Type 0) (step : (request : Request) (one other : Outcome) → R one other → R (after request one) (after request other))
    (failed : (name : List ℕ) → R (at_once (failure_ending (load name))) (at_once (failure_ending (load name))))
    (refused : (tail : List ℕ) → R (at_once (refused_ending tail)) (at_once (refused_ending tail)))
    (tells : (quanta : List Quantum) (watches : List WatchLine) (dumps : List Dump) (headers : List (List ℕ)) (w : World)
    → R (mode_outcome telling (mode_of telling) quanta watches dumps headers w) (mode_outcome telling_other (mode_of telling_other) quanta watches dumps headers w)) where
  both_booted : (m : Manifest) (headers : List (List ℕ)) (r : Result World BootFault) → R (booted_outcome telling m headers r) (booted_outcome telling_other m headers r)
  both_booted m headers (Err first) = let at = boot_fault first in refused (line_tail at.line at.fault)
  both_booted m headers (Ok w) = tells (repeated m.repeat m.quanta) m.watches m.dumps headers w

  both_brought : (m : Manifest) (r : Result Brought FaultAt) → R (brought_outcome telling m r) (brought_outcome telling_other m r)
  both_brought m (Err at) = refused (line_tail at.line at.fault)
  both_brought m (Ok b) =
      let starts = map start_line m.starts in
      subst (λ (rest : Rest). R (booted_outcome telling m b.headers (boot (opens_as telling m b) starts)) (booted_outcome telling_other m b.headers (boot rest starts))) (same m b)
      (both_booted m b.headers (boot (opens_as telling m b) starts))

  both_files : (m : Manifest) (files : List (List ℕ)) → R (files_outcome telling m files) (files_outcome telling_other m files)
  unfolding files_outcome
  both_files m files = both_brought m (all_brought m.items files nothing_brought)

  pub both_run : (name : List ℕ) (inputs : Inputs) → R (run_outcome name telling inputs) (run_outcome name telling_other inputs)
  both_run name inputs = both_loaded R step failed refused telling telling_other both_files name inputs
