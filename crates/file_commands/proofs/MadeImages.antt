-- What `romfs` does behind the load of its manifest.
use Rattle.std.proofs.Common.{◌≡◌, ℕ, ◌≤◌, ◌<◌, Bool, true, false, cond, List, length, nat_lt, Result, Ok, Err, refl, sym, subst, arith}
use Rattle.std.proofs.lemmas.Bool.Decides.{nat_tests}
use Rattle.host_io.specs.Host.{Told}
use Rattle.romfs_image.specs.Nodes.{RomValue}
use Rattle.romfs_image.specs.Text.{most_bytes, rom_text}
use Rattle.manifest_text.specs.Values.{Item, Manifest}
use Rattle.manifest_text.specs.Manifest.{Fault}
use Rattle.run_setup.specs.Brought.{Brought, FaultAt, nothing_brought, all_brought}
use Rattle.run_setup.specs.declared.fault.LineRefusal.{LineRefusal}
use Rattle.run_setup.specs.declared.fault.LineRefusal.TheVariants.{At, Memory}
use Rattle.run_setup.specs.Making.{BringsAll}
use Rattle.rom_tree.specs.Nodes.{tree_nodes}
use Rattle.file_commands.specs.Texts.Refusals.{manifest_tail}
use Rattle.file_commands.specs.Texts.Images.{too_large_tail, image_line}
use Rattle.file_commands.specs.Ending.{Ending, refused_ending, OrMemory}
use Rattle.file_commands.specs.Outcome.{Outcome, storing}
use Rattle.file_commands.specs.Load.{at_once}
use Rattle.file_commands.specs.Convert.{stored_outcome}
use Rattle.file_commands.specs.Observed.{Observed}
use Rattle.file_commands.specs.HostCourse.{Performs, PerformsCommand}
use Rattle.file_commands.specs.ItemLoads.{GaveFiles}
use Rattle.file_commands.specs.Items.{files_limit, with_items}
use Rattle.file_commands.specs.Manifests.{fault_ending, Refuses}
use Rattle.file_commands.specs.Romfs.{sized_outcome, imaged_outcome, treed_outcome, filed_outcome, lined_outcome}
use Rattle.file_commands.proofs.HostCourses.{runs_out, ends_at_once}
use Rattle.file_commands.proofs.HostSteps.{for_any_inputs, asks_nothing}

-- ---- the manifest

pub refuses_lines : (old : Observed Told) (image : List ℕ) (r : Result Manifest Fault) (first : Fault) (ending : Ending)
    → r ≡ Err first → OrMemory (refused_ending (manifest_tail first.line first.fault)) ending → PerformsCommand old old (lined_outcome image r) ending
refuses_lines old image r first ending is ends =
    subst (λ (x : Result Manifest Fault). PerformsCommand old old (lined_outcome image x) ending) (sym is) (asks_nothing old (refused_ending (manifest_tail first.line first.fault)) ending (λ h. cc) ends)

pub goes_through : (old new : Observed Told) (image : List ℕ) (r : Result Manifest Fault) (m : Manifest) (ending : Ending)
    → r ≡ Ok m → PerformsCommand old new (with_items files_limit m.items (filed_outcome image m.items)) ending → PerformsCommand old new (lined_outcome image r) ending
goes_through old new image r m ending is performs = subst (λ (x : Result Manifest Fault). PerformsCommand old new (lined_outcome image x) ending) (sym is) performs

-- behind all loads
pub makes_files : (old mid new : Observed Told) (image : List ℕ) (items : List Item) (files : List (List ℕ)) (ending : Ending)
    → GaveFiles old mid items files → Performs mid new (filed_outcome image items files) ending → PerformsCommand old new (with_items files_limit items (filed_outcome image items)) ending
makes_files old mid new image items files ending gave performs =
    gave.goes_on (filed_outcome image items) new ending (for_any_inputs mid new (λ inputs. filed_outcome image items files) ending (λ inputs. performs))

-- ---- the tree

module _ (image : List ℕ) (items : List Item) (files : List (List ℕ)) (ending : Ending) where
  pub makes_tree : (old new : Observed Told) (b : Brought) → all_brought items files nothing_brought ≡ Ok b → Performs old new (imaged_outcome image (tree_nodes b.tree)) ending → Performs old new (filed_outcome image items files) ending
  unfolding filed_outcome
  makes_tree old new b brings performs = subst (λ (r : Result Brought FaultAt). Performs old new (treed_outcome image r) ending) (sym brings) performs

  pub refuses_tree : (old : Observed Told) (refusal : LineRefusal) → BringsAll (all_brought items files nothing_brought) (Err refusal) → Refuses refusal ending → Performs old old (filed_outcome image items files) ending
  unfolding filed_outcome
  refuses_tree old Memory why ends = subst (Performs old old (filed_outcome image items files)) (sym ends) (runs_out old old _ refl refl)
  refuses_tree old (At number first) is ends =
      let at : FaultAt = record { line = number; fault = first } in
      subst (λ (r : Result Brought FaultAt). Performs old old (treed_outcome image r) ending) (sym is) (ends_at_once old (fault_ending at) ending (λ other. cc) ends)

-- ---- the image

-- a store, and then the ending that it has
pub stores_as : (old new : Observed Told) (name bytes : List ℕ) (one wanted ending : Ending) → one ≡ wanted → Performs old new (storing name bytes one) ending → Performs old new (storing name bytes wanted) ending
stores_as old new name bytes one wanted ending is performs = subst (λ (e : Ending). Performs old new (storing name bytes e) ending) is performs

abbrev sized_by : (image : List ℕ) (count : ℕ) (text : List ℕ) → Bool → Outcome
sized_by image count text b = cond b (at_once (refused_ending too_large_tail)) (stored_outcome image text (image_line count (length text)))

pub stores_image : (old new : Observed Told) (image : List ℕ) (nodes given : List RomValue) (text line : List ℕ) (count : ℕ) (ending : Ending) → given ≡ nodes → count ≡ length given → text ≡ rom_text given → length text ≤ most_bytes
    → line ≡ image_line count (length text) → Performs old new (stored_outcome image text line) ending → Performs old new (imaged_outcome image nodes) ending
stores_image old new image nodes given text line count ending same counts is small says performs =
    let fits : nat_lt most_bytes (length text) ≡ false = grind (arith, nat_tests) in
    let at : Performs old new (stored_outcome image text (image_line count (length text))) ending = subst (λ (l : List ℕ). Performs old new (stored_outcome image text l) ending) says performs in
    let sized : Performs old new (sized_outcome image count text) ending = subst (λ (b : Bool). Performs old new (sized_by image count text b) ending) (sym fits) at in
    let counted : Performs old new (sized_outcome image (length given) text) ending = subst (λ (n : ℕ). Performs old new (sized_outcome image n text) ending) counts sized in
    let texted : Performs old new (imaged_outcome image given) ending = subst (λ (y : List ℕ). Performs old new (sized_outcome image (length given) y) ending) is counted in
    subst (λ (ns : List RomValue). Performs old new (imaged_outcome image ns) ending) same texted

module _ (old : Observed Told) (image : List ℕ) (nodes given : List RomValue) (ending : Ending) (same : given ≡ nodes) where
  pub refuses_image : most_bytes < length (rom_text given) → OrMemory (refused_ending too_large_tail) ending → Performs old old (imaged_outcome image nodes) ending
  refuses_image large ends =
      let long : nat_lt most_bytes (length (rom_text given)) ≡ true = grind (arith, nat_tests) in
      let sized : Performs old old (sized_outcome image (length given) (rom_text given)) ending =
      subst (λ (b : Bool). Performs old old (sized_by image (length given) (rom_text given) b) ending) (sym long) (ends_at_once old (refused_ending too_large_tail) ending (λ other. cc) ends) in
      subst (λ (ns : List RomValue). Performs old old (imaged_outcome image ns) ending) same sized
