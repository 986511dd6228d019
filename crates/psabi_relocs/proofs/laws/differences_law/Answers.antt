use Rattle.psabi_relocs.proofs.Differences.{balanced_law, unbalanced_law, same_counts_law, accepted_group_law, unpaired_group_law}
use Rattle.psabi_relocs.proofs.laws.differences_law.Goals as goal

pub returns-clause-balanced : goal.returns-clause-balanced
returns-clause-balanced c = balanced_law

pub returns-clause-unbalanced : goal.returns-clause-unbalanced
returns-clause-unbalanced c = unbalanced_law

pub returns-clause-counts : goal.returns-clause-counts
returns-clause-counts c = same_counts_law

pub returns-clause-accepted : goal.returns-clause-accepted
returns-clause-accepted c = accepted_group_law

pub returns-clause-unpaired : goal.returns-clause-unpaired
returns-clause-unpaired c = unpaired_group_law
