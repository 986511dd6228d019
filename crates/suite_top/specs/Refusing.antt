-- Why a machine doesn't start, as the refusal of a line.
use Rattle.flat_machine.specs.declared.boot.BootRefusal.{BootRefusal}
use Rattle.flat_machine.specs.declared.boot.BootRefusal.TheVariants as boot
use Rattle.run_setup.specs.declared.fault.LineFault.TheVariants.{BadStart, E2big, NoRun}
use Rattle.run_setup.specs.declared.fault.LineRefusal.{LineRefusal}
use Rattle.run_setup.specs.declared.fault.LineRefusal.TheVariants.{At, Memory}

abbrev pub told_refusal : BootRefusal → LineRefusal
told_refusal (boot.BadStart number) = At number BadStart
told_refusal (boot.E2big number) = At number E2big
told_refusal (boot.NoRun number) = At number NoRun
told_refusal boot.Memory = Memory
