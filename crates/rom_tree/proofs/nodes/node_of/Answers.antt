-- A name is lent as bytes.
use Rattle.std.proofs.Common.{refl}
use Rattle.rom_tree.proofs.Bytes.{all_bytes, both_true}
use Rattle.rom_tree.proofs.nodes.node_of.Goals as goal

pub returns-in-Dir-clause-bytes : goal.returns-in-Dir-clause-bytes
returns-in-Dir-clause-bytes c = both_true _ _ (all_bytes c.args.name.now c.type_inv.name) refl
