-- A new name goes last.
use Rattle.std.proofs.Common.{◌++◌, ◌∷◌, [], map, ap, ◌∙◌}
use Rattle.std.proofs.lemmas.List.{map-append}
use Rattle.mem_files.specs.Paths.{named}
use Rattle.mem_files.specs.Seen.{entry_in}
use Rattle.mem_files.proofs.Entering.{lookup_named}
use Rattle.indexmap.proofs.CallerLemmas.{insert_entry-new}
use Rattle.mem_files.proofs.entries.Entries.push.Goals as goal

pub returns-clause-added : goal.returns-clause-added
returns-clause-added c =
    let none = lookup_named c.args.name.items c.self.inside.ids.entries ∙ ap (named c.args.name.items) c.self.view_is ∙ c.requires in
    ap (map entry_in) (c.in_ok-insert.ensures.entries ∙ insert_entry-new _ c.self.inside.ids c.args.name c.args.id none)
    ∙ map-append entry_in c.self.inside.ids.entries _
    ∙ ap (λ es. es ++ record { name = c.args.name.items; id = c.args.id } ∷ []) c.self.view_is
