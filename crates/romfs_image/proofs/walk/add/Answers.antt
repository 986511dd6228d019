use Rattle.std.proofs.Common.{◌≡◌, ◌∷◌, [], refl, sym, ap, ◌∙◌, inr, true, false}
use Rattle.std.specs.List.{list_any}
use Rattle.std.proofs.lemmas.List.{map-append}
use Rattle.romfs_image.specs.Walk.{is_named}
use Rattle.romfs_image.specs.Code.{found, header_value, entry_value}
use Rattle.romfs_image.proofs.Names.{names_more, none_passed, none_new, some_old, not_true, not_false}
use Rattle.romfs_image.proofs.walk.add.Goals as goal

pub returns-then-not-branch-clause-err : goal.returns-then-not-branch-clause-err
returns-then-not-branch-clause-err c =
    let e = c.args.entry.now in
    let there : list_any (is_named e.folder e.header.name.now) (found c.args.entries.now.items) ≡ true = sym (c.requires (e.folder, e.header.name)) ∙ not_false _ (sym c.in_ok-insert.ensures.added ∙ c.if-not-branch.true) in
    inr (some_old e.folder (header_value e.header) (found c.args.entries.now.items) (sym c.is_node.ensures ∙ c.if-is_node.true) there)

pub returns-in_ok-push-clause-ok : goal.returns-in_ok-push-clause-ok
returns-in_ok-push-clause-ok c =
    let e = c.args.entry.now in
    let new : list_any (is_named e.folder e.header.name.now) (found c.args.entries.now.items) ≡ false = sym (c.requires (e.folder, e.header.name)) ∙ not_true _ (sym c.in_ok-insert.ensures.added ∙ c.if-not-branch.false) in
    none_new e.folder (header_value e.header) (found c.args.entries.now.items) new

pub returns-in_ok-push-clause-names : goal.returns-in_ok-push-clause-names
returns-in_ok-push-clause-names c = λ key.
    let e = c.args.entry.now in
    names_more _ _ (e.folder, e.header.name) (found c.args.entries.now.items) (entry_value e) c.in_ok-insert.ensures.updates refl refl c.requires key
    ∙ ap (list_any (is_named key.0 key.1.now)) (sym (ap found c.in_ok-push.ensures.items ∙ map-append entry_value c.args.entries.now.items (e ∷ [])))

pub returns-else-is_node-clause-ok : goal.returns-else-is_node-clause-ok
returns-else-is_node-clause-ok c = none_passed c.args.entry.now.folder (header_value c.args.entry.now.header) (found c.args.entries.now.items) (sym c.is_node.ensures ∙ c.if-is_node.false)
