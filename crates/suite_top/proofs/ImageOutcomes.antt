-- What the outcome of `romfs` can be: loads, one after the other, and then a refusal or the store of the image.
use Rattle.std.proofs.Common.{ℕ, Bool, true, false, cond, List, length, nat_lt, None, Result, Ok, Err}
use Rattle.romfs_image.specs.Text.{most_bytes, rom_text}
use Rattle.rom_tree.specs.Nodes.{tree_nodes}
use Rattle.manifest_text.specs.Values.{Item, Manifest}
use Rattle.manifest_text.specs.Manifest.{Fault, tree_manifest_of}
use Rattle.run_setup.specs.Brought.{Brought, FaultAt, nothing_brought, all_brought}
use Rattle.file_commands.specs.Texts.Refusals.{manifest_tail, line_tail}
use Rattle.file_commands.specs.Texts.Images.{too_large_tail, image_line}
use Rattle.file_commands.specs.Ending.{refused_ending}
use Rattle.file_commands.specs.Outcome.{load, failure_ending, Outcome, Inputs, after}
use Rattle.file_commands.specs.Load.{at_once}
use Rattle.file_commands.specs.Items.{files_limit}
use Rattle.file_commands.specs.Manifests.{manifest_limit}
use Rattle.file_commands.specs.Convert.{stored_outcome}
use Rattle.file_commands.specs.Romfs.{sized_outcome, treed_outcome, filed_outcome, lined_outcome, romfs_outcome}
use Rattle.suite_top.proofs.LoadOutcomes.{items_run, load_run}

module _ (P : Outcome → Type 0) (step : (name : List ℕ) (o : Outcome) → P o → P (after (load name) o)) (read : (name : List ℕ) → P (at_once (failure_ending (load name)))) (refused : (tail : List ℕ) → P (at_once (refused_ending tail))) (image : List ℕ) (stored : (bytes line : List ℕ) → P (stored_outcome image bytes line)) where
  sized : (count : ℕ) (text : List ℕ) → P (sized_outcome image count text)
  sized count text =
      elim (nat_lt most_bytes (length text)) as (λ (b : Bool). P (cond b (at_once (refused_ending too_large_tail)) (stored_outcome image text (image_line count (length text))))) [
        | true ↦ refused too_large_tail
        | false ↦ stored text (image_line count (length text))
      ]

  treed : (r : Result Brought FaultAt) → P (treed_outcome image r)
  treed (Err at) = refused (line_tail at.line at.fault)
  treed (Ok b) = sized (length (tree_nodes b.tree)) (rom_text (tree_nodes b.tree))

  filed : (items : List Item) (files : List (List ℕ)) → P (filed_outcome image items files)
  unfolding filed_outcome
  filed items files = treed (all_brought items files nothing_brought)

  lined : (r : Result Manifest Fault) (inputs : Inputs) → P (lined_outcome image r inputs)
  lined (Err first) inputs = refused (manifest_tail first.line first.fault)
  lined (Ok m) inputs = items_run P step read refused files_limit m.items (filed_outcome image m.items) (filed m.items) inputs

  pub romfs_by : (name : List ℕ) (inputs : Inputs) → P (romfs_outcome name image inputs)
  unfolding romfs_outcome
  romfs_by name inputs =
      load_run P step read refused manifest_limit None name (λ bytes. lined_outcome image (tree_manifest_of bytes)) (λ bytes more. lined (tree_manifest_of bytes) more) inputs
