-- The map's look-up is that by names.
use Rattle.std.proofs.Common.{ap, ◌∙◌}
use Rattle.mem_files.specs.Paths.{named}
use Rattle.mem_files.proofs.Entering.{lookup_named}
use Rattle.mem_files.proofs.entries.Entries.find.Goals as goal

pub returns : goal.returns
returns c = c.copied.ensures ∙ c.get.ensures.value ∙ lookup_named c.args.name.now c.self.inside.ids.entries ∙ ap (named c.args.name.now) c.self.view_is
