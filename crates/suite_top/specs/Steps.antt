-- For private functions only: a step of a run, which gives what its definition gives, or ends the run.
use Rattle.std.specs.Prelude.{◌≡◌, Result, Ok, Err}
use Rattle.manifest_text.specs.Manifest.{Fault}
use Rattle.machine_world.specs.Boot.{BootFault}
use Rattle.file_commands.specs.declared.ended.Ended.{Ended}
use Rattle.file_commands.specs.Answer.{ending_at}
use Rattle.file_commands.specs.Ending.{Ending, memory_ending, refused_ending, OrMemory}
use Rattle.file_commands.specs.Texts.Refusals.{manifest_tail}
use Rattle.file_commands.specs.Manifests.{fault_ending}
use Rattle.suite_top.specs.Run.{boot_fault}

-- with the ending of the definition's fault, if it has one, or out of memory
abbrev pub EndsFor : {A F : Type 0} → (F → Ending) → Result A F → Ending → Type 0
EndsFor of (Ok a) ending = ending ≡ memory_ending
EndsFor of (Err fault) ending = OrMemory (of fault) ending

abbrev pub Gives : {T A F : Type 0} → (T → A) → (F → Ending) → Result A F → Result T Ended → Type 0
Gives value of wanted (Ok x) = wanted ≡ Ok (value x)
Gives value of wanted (Err ended) = EndsFor of wanted (ending_at ended)

-- a manifest has a fault
abbrev pub manifest_ending : Fault → Ending
manifest_ending first = refused_ending (manifest_tail first.line first.fault)

-- a machine doesn't start
abbrev pub boot_ending : BootFault → Ending
boot_ending first = fault_ending (boot_fault first)
