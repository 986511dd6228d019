-- By where a walk stands, and by the changes, one after the other.
use Rattle.mem_files.proofs.Lookups.{lookup_named, named_there}
use Rattle.mem_files.proofs.TreesKept.{changes_keep_tree, new_files_are_there}
use Rattle.mem_files.proofs.Closed.{making_opens_nothing}
use Rattle.mem_files.proofs.laws.names_law.Goals as goal

pub returns-clause-looks_up : goal.returns-clause-looks_up
returns-clause-looks_up c ns path id t is = (named_there _ (lookup_named ns t path id is), lookup_named ns t path id is)

pub returns-clause-makes : goal.returns-clause-makes
returns-clause-makes c = new_files_are_there

pub returns-clause-changes : goal.returns-clause-changes
returns-clause-changes c = changes_keep_tree

pub returns-clause-closed : goal.returns-clause-closed
returns-clause-closed c = making_opens_nothing
