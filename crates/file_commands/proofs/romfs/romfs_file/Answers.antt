-- The manifest is there, or the command ends without it.
use Rattle.std.proofs.Common.{None}
use Rattle.manifest_text.specs.Manifest.{tree_manifest_of}
use Rattle.file_commands.specs.Manifests.{manifest_limit}
use Rattle.file_commands.specs.Romfs.{lined_outcome, romfs_outcome}
use Rattle.file_commands.proofs.HostSteps.{performs_rest}
use Rattle.file_commands.proofs.romfs.romfs_file.Goals as goal

pub returns-in-Ok : goal.returns-in-Ok
unfolding romfs_outcome
returns-in-Ok g c =
    let performs = rw c.deref.ensures.value at c.romfs_manifest.ensures in
    performs_rest manifest_limit None c.args.manifest.now (λ bytes. lined_outcome c.args.image.now (tree_manifest_of bytes)) _ _ _ _ _ c.in-Ok.ensures performs

pub returns-in-Err : goal.returns-in-Err
unfolding romfs_outcome
returns-in-Err g c = rw c.answer.ensures (c.in-Err.ensures (λ bytes. lined_outcome c.args.image.now (tree_manifest_of bytes)))
