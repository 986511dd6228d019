-- The manifest is read, or has a fault.
use Rattle.file_commands.specs.declared.status.Status.TheVariants as status
use Rattle.file_commands.specs.Texts.{refused_line}
use Rattle.file_commands.specs.Texts.Refusals.{manifest_tail}
use Rattle.manifest_text.specs.Values.{manifest_value}
use Rattle.manifest_text.proofs.Bounds.{tree_manifests_are_reasonable}
use Rattle.file_commands.proofs.Lines.{ends_with_line}
use Rattle.file_commands.proofs.HostSteps.{memory_now}
use Rattle.file_commands.proofs.MadeImages.{refuses_lines, goes_through}
use Rattle.file_commands.proofs.romfs.romfs_manifest.Goals as goal

pub romfs_items-requires-clause-items : goal.romfs_items-requires-clause-items
romfs_items-requires-clause-items g c = rw c.deref.ensures.value (tree_manifests_are_reasonable _ _ c.in-Ok.ensures).each_item

pub romfs_items-requires-clause-paths : goal.romfs_items-requires-clause-paths
romfs_items-requires-clause-paths g c = rw c.deref.ensures.value (tree_manifests_are_reasonable _ _ c.in-Ok.ensures).each_path

pub returns-in-Ok : goal.returns-in-Ok
returns-in-Ok g c =
    let performs = rw c.deref.ensures.value at c.romfs_items.ensures in
    goes_through _ _ _ _ (manifest_value c.in-Ok.manifest) _ c.in-Ok.ensures performs

pub returns-in-Err-At : goal.returns-in-Err-At
returns-in-Err-At g c =
    let arm = c.in-Err-At in
    let is = rw arm.field-0-is at arm.ensures in
    refuses_lines _ _ _ _ _ is (ends_with_line status.Refused c.refused_manifest-text.result (refused_line (manifest_tail arm.line arm.fault)) _ c.refused_manifest-text.ensures c.early.ensures)

pub returns-in-Err-Memory : goal.returns-in-Err-Memory
returns-in-Err-Memory g c = memory_now _ _
