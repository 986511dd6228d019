-- Name and bytes are lent as bytes.
use Rattle.rom_tree.proofs.Bytes.{all_bytes, both_true}
use Rattle.rom_tree.proofs.nodes.file_node.Goals as goal

pub returns-clause-bytes : goal.returns-clause-bytes
returns-clause-bytes c = both_true _ _ (all_bytes c.args.name.now c.type_inv.name) (all_bytes c.args.bytes.now c.type_inv.bytes)
