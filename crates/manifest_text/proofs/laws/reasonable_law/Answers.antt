-- The laws by their proofs over plain values.
use Rattle.manifest_text.proofs.Bounds.{manifests_are_reasonable, tree_manifests_are_reasonable}
use Rattle.manifest_text.proofs.ClearStarts.{starts_are_clear}
use Rattle.manifest_text.proofs.laws.reasonable_law.Goals as goal

pub returns-clause-whole : goal.returns-clause-whole
returns-clause-whole c = manifests_are_reasonable

pub returns-clause-tree : goal.returns-clause-tree
returns-clause-tree c = tree_manifests_are_reasonable

pub returns-clause-starts : goal.returns-clause-starts
returns-clause-starts c = starts_are_clear
