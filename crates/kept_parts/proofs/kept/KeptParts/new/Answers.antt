use Rattle.std.proofs.Common.{rules}
use Rattle.kept_parts.proofs.kept.KeptParts.new.Goals as goal
use Rattle.kept_parts.proofs.Starts.BeforeFirst.{sound_begins, whole_begins}

pub invariant_of-result-3 : goal.invariant_of-result-3
invariant_of-result-3 c = (
  sound_begins _ c.args.pages c.args.tree c.args.files.open_files c.args.keep c.requires.some c.requires.most c.requires.changes (search rules),
  search rules,
  whole_begins c.args.pages _ _ (search rules) (search rules),
)
