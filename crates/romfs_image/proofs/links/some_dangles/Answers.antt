use Rattle.std.proofs.Common.{sym, ◌∙◌}
use Rattle.romfs_image.specs.Reading.{is_dangling}
use Rattle.romfs_image.specs.Code.{found}
use Rattle.romfs_image.proofs.Entries.{any_entry, none_more}
use Rattle.romfs_image.proofs.links.some_dangles.Goals as goal

pub returns-then-is_dangling : goal.returns-then-is_dangling
returns-then-is_dangling c =
    let xs = c.args.entries.now in
    sym (any_entry (is_dangling (found xs)) xs c.loop-entry.entry-index _ c.loop-entry-test.true (sym (c.is_dangling.ensures (found xs) c.requires) ∙ c.if-is_dangling.true))

pub loop-entry-preserved : goal.loop-entry-preserved
loop-entry-preserved c =
    let xs = c.args.entries.now in
    none_more (is_dangling (found xs)) xs c.loop-entry.entry-index _ c.loop-entry-test.true c.loop-entry.invariant (sym (c.is_dangling.ensures (found xs) c.requires) ∙ c.if-is_dangling.false)
