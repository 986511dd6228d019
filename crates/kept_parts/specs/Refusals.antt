-- Why a program doesn't start, by the loader's reason.
use Rattle.flat_loader.specs.declared.loaded.LoadRefusal.{LoadRefusal}
use Rattle.flat_loader.specs.declared.loaded.LoadRefusal.TheVariants.{E2big, NoRun, Memory}
use Rattle.kept_parts.specs.declared.start.StartRefusal.{StartRefusal}
use Rattle.kept_parts.specs.declared.start.StartRefusal.TheVariants as refusal

abbrev pub refusal_of : LoadRefusal → StartRefusal
refusal_of E2big = refusal.E2big
refusal_of NoRun = refusal.NoRun
refusal_of Memory = refusal.Memory
