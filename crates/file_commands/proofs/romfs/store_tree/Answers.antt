-- The image is stored, or is too large; or the call was out of memory.
use Rattle.std.proofs.Common.{map, refl, sym, ◌∙◌, inl, inr}
use Rattle.std.proofs.lemmas.List.{length-map}
use Rattle.std.proofs.lemmas.Result.{err_from_is_err_and}
use Rattle.romfs_image.specs.Code.{node_value}
use Rattle.file_commands.specs.declared.status.Status.TheVariants as status
use Rattle.file_commands.specs.Texts.{refused_line}
use Rattle.file_commands.specs.Texts.Images.{too_large_tail}
use Rattle.file_commands.proofs.HostCourses.{runs_out}
use Rattle.file_commands.proofs.Lines.{ends_with_line}
use Rattle.file_commands.proofs.MadeImages.{stores_as, stores_image, refuses_image}
use Rattle.file_commands.proofs.romfs.store_tree.Goals as goal

pub returns-in_err-nodes : goal.returns-in_err-nodes
returns-in_err-nodes g c =
    let p = err_from_is_err_and c.from_residual.result c.from_residual.ensures.1 in
    rw p.1 (runs_out _ _ _ refl refl)

pub returns-in_err-line-in-Ok : goal.returns-in_err-line-in-Ok
returns-in_err-line-in-Ok g c =
    let p = err_from_is_err_and c.from_residual-in_err-line-in-Ok.result c.from_residual-in_err-line-in-Ok.ensures.1 in
    rw p.1 (runs_out _ _ _ refl refl)

pub returns-in-Ok : goal.returns-in-Ok
returns-in-Ok g c =
    let given = c.in_ok-nodes.nodes.items in
    let made = rw c.deref.ensures.value at c.in-Ok.ensures in
    let says = rw (c.len-in-Ok.ensures, c.in-Ok.bytes.ok.0) at c.in_ok-line-in-Ok.ensures in
    let stored = rw c.deref-in-Ok.ensures.value at c.store_file.ensures in
    let performs = stores_as _ _ _ _ _ _ _ c.done.ensures stored in
    stores_image _ _ _ _ (map node_value given) _ _ c.len.result _ c.in_ok-nodes.ensures.nodes (c.len.ensures ∙ c.in_ok-nodes.nodes.ok.0 ∙ sym (length-map given node_value)) made.0 made.1 says performs

pub returns-in-Err-TooLarge : goal.returns-in-Err-TooLarge
returns-in-Err-TooLarge g c =
    let why = rw c.deref.ensures.value at c.in-Err-TooLarge.ensures in
    refuses_image _ _ _ (map node_value c.in_ok-nodes.nodes.items) _ c.in_ok-nodes.ensures.nodes
    (elim why [ inl memory ↦ absurd (let is = c.in-Err-TooLarge.field-0-is in cc) | inr large ↦ large.1 ])
    (ends_with_line status.Refused c.refused-text.result (refused_line too_large_tail) _ c.refused-text.ensures c.early.ensures)

pub returns : goal.returns
returns g c = runs_out _ _ _ refl refl
