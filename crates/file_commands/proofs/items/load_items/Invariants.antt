-- What is left does what all loads do.
use Rattle.std.proofs.Common.{map}
use Rattle.manifest_text.specs.Values.{item_value, vec_texts}
use Rattle.file_commands.specs.Observed.{observed}
use Rattle.file_commands.specs.ItemLoads.{LoadsSoFar}
use Rattle.file_commands.proofs.items.load_items.Given as goal

abbrev pub invariant-loop-item : goal.invariant-loop-item
invariant-loop-item g l = LoadsSoFar (observed g.H.Host.told g.H.Host.faults l.initial.host) (observed g.H.Host.told g.H.Host.faults l.host) (map item_value l.items) (vec_texts l.files.items) l.left l.item-index
