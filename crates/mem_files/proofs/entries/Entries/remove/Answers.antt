-- Only one entry has the name.
use Rattle.std.proofs.Common.{not, map, filter, ap, ◌∙◌}
use Rattle.std.specs.Str.{bytes_eq}
use Rattle.mem_files.specs.Seen.{entry_in}
use Rattle.mem_files.proofs.Entering.{removed}
use Rattle.mem_files.proofs.entries.Entries.remove.Goals as goal

pub returns : goal.returns
returns c =
    ap (map entry_in) c.shift_remove.ensures.entries
    ∙ removed c.args.name.now c.self.inside.ids.entries c.self.invariant.1
    ∙ ap (filter (λ e. not (bytes_eq e.name c.args.name.now))) c.self.view_is
