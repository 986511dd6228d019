-- The loads of the item lines' files: what they leave, and what they give.
use Rattle.std.specs.Prelude.{◌≡◌, ℕ, ◌≤◌, List, ◌++◌, drop, length, Result, Ok, Err, Vec}
use Rattle.host_io.specs.Host.{Told}
use Rattle.manifest_text.specs.Values.{Item, vec_texts}
use Rattle.file_commands.specs.declared.ended.Ended.{Ended}
use Rattle.file_commands.specs.Ending.{Ending}
use Rattle.file_commands.specs.Outcome.{Outcome, Inputs}
use Rattle.file_commands.specs.Answer.{ending_at}
use Rattle.file_commands.specs.Observed.{Observed}
use Rattle.file_commands.specs.HostCourse.{PerformsCommand}
use Rattle.file_commands.specs.Items.{files_limit, with_item, with_items}

-- whatever a command does with this file, it does behind the line's load
pub record GaveItem (old new : Observed Told) (item : Item) (left : ℕ) (bytes : List ℕ) : Type 0 where
  pub fits : length bytes ≤ left
  pub goes_on : (rest : List ℕ → Inputs → Outcome) (last : Observed Told) (ending : Ending)
      → PerformsCommand new last (rest bytes) ending → PerformsCommand old last (with_item left item rest) ending

-- whatever a command does with these files, it does behind all loads
pub record GaveFiles (old new : Observed Told) (items : List Item) (files : List (List ℕ)) : Type 0 where
  pub count : length files ≡ length items
  pub goes_on : (rest : List (List ℕ) → Outcome) (last : Observed Told) (ending : Ending)
      → PerformsCommand new last (λ inputs. rest files) ending → PerformsCommand old last (with_items files_limit items rest) ending

-- what the load of one line gives, or how the command ends without it
abbrev pub LoadsItem : {Y : Type 0} → Observed Told → Observed Told → Item → (left : ℕ) → Result (Vec ℕ Y) Ended → Type 0
LoadsItem old new item left (Ok bytes) = GaveItem old new item left bytes.items
LoadsItem old new item left (Err ended) = (rest : List ℕ → Inputs → Outcome) → PerformsCommand old new (with_item left item rest) (ending_at ended)

abbrev pub LoadsItems : {Y Z : Type 0} → Observed Told → Observed Told → List Item → Result (Vec (Vec ℕ Z) Y) Ended → Type 0
LoadsItems old new items (Ok files) = GaveFiles old new items (vec_texts files.items)
LoadsItems old new items (Err ended) = (rest : List (List ℕ) → Outcome) → PerformsCommand old new (with_items files_limit items rest) (ending_at ended)

-- behind the loads of the first i items
pub record LoadsSoFar (old now : Observed Told) (items : List Item) (files : List (List ℕ)) (left i : ℕ) : Type 0 where
  pub some_left : left ≤ files_limit
  pub count : length files ≡ i
  pub goes_on : (rest : List (List ℕ) → Outcome) (last : Observed Told) (ending : Ending)
      → PerformsCommand now last (with_items left (drop i items) (λ more. rest (files ++ more))) ending → PerformsCommand old last (with_items files_limit items rest) ending
