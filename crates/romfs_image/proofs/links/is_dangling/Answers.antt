use Rattle.std.proofs.Common.{not, ◌&&◌, sym, ap, ◌∙◌}
use Rattle.std.specs.List.{list_any}
use Rattle.romfs_image.specs.Reading.{is_file_at, is_dangling}
use Rattle.romfs_image.proofs.links.is_dangling.Goals as goal

pub returns-then-is_link : goal.returns-then-is_link
unfolding is_dangling
returns-then-is_link c = λ entries has.
    let h = c.args.entry.now.header in
    ap not (c.contains.ensures ∙ has h.info) ∙ sym (ap (λ b. b && not (list_any (is_file_at h.info) entries)) (sym c.is_link.ensures ∙ c.if-is_link.true))

pub returns-else-is_link : goal.returns-else-is_link
unfolding is_dangling
returns-else-is_link c = λ entries has.
    let h = c.args.entry.now.header in
    c.if-is_link.false ∙ sym (ap (λ b. b && not (list_any (is_file_at h.info) entries)) (sym c.is_link.ensures ∙ c.if-is_link.false))
