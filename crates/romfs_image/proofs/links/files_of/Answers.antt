use Rattle.std.proofs.Common.{sym, subst}
use Rattle.romfs_image.specs.Code.{found, HasFiles}
use Rattle.std.proofs.Common.{take}
use Rattle.romfs_image.proofs.Entries.{found_more}
use Rattle.romfs_image.proofs.links.files_of.Goals as goal

pub loop-entry-preserved : goal.loop-entry-preserved
loop-entry-preserved c =
    let xs = c.args.entries.now in
    let i = c.loop-entry.entry-index in
    subst (HasFiles c.add_file.new.files) (sym (found_more xs i _ c.loop-entry-test.true)) (c.in_ok-add_file.ensures (found (take i xs)) c.loop-entry.invariant)
