-- What the outcome of a command can be that loads files, one after the other.
use Rattle.std.proofs.Common.{ℕ, ◌-◌, Bool, true, false, cond, List, [], ◌∷◌, length, nat_lt, Option, Some, None}
use Rattle.manifest_text.specs.Values.{Item}
use Rattle.file_commands.specs.Texts.Refusals.{too_long_at}
use Rattle.file_commands.specs.Ending.{refused_ending}
use Rattle.file_commands.specs.Outcome.{load, failure_ending, Outcome, Inputs, after}
use Rattle.file_commands.specs.Load.{at_once, behind, with_limited, with_load}
use Rattle.file_commands.specs.Items.{load_limit, has_file, with_item, with_items}

-- what holds of each early end, and of a load in front of an outcome of which it holds
module _ (P : Outcome → Type 0) (step : (name : List ℕ) (o : Outcome) → P o → P (after (load name) o)) (read : (name : List ℕ) → P (at_once (failure_ending (load name)))) (refused : (tail : List ℕ) → P (at_once (refused_ending tail))) where
  pub limited : (limit : ℕ) (line : Option ℕ) (name : List ℕ) (rest : List ℕ → Outcome) → ((bytes : List ℕ) → P (rest bytes)) → (found : Option (List ℕ)) → P (with_limited limit line name found rest)
  limited limit line name rest each None = read name
  limited limit line name rest each (Some bytes) =
      elim (nat_lt limit (length bytes)) as (λ (b : Bool). P (cond b (at_once (refused_ending (too_long_at line))) (rest bytes))) [ true ↦ refused (too_long_at line) | false ↦ each bytes ]

  item_run : (left : ℕ) (item : Item) (rest : List ℕ → Inputs → Outcome) → ((bytes : List ℕ) (more : Inputs) → P (rest bytes more)) → (inputs : Inputs) → P (with_item left item rest inputs)
  item_run left item rest each inputs =
      elim (has_file item.kind) as (λ (b : Bool). P (cond b (with_load (load_limit item.kind left) (Some item.line) item.name rest inputs) (rest [] inputs))) [
        | true ↦
            step item.name (with_limited (load_limit item.kind left) (Some item.line) item.name (inputs 0 item.name) (λ bytes. rest bytes (behind inputs)))
            (limited (load_limit item.kind left) (Some item.line) item.name (λ bytes. rest bytes (behind inputs)) (λ bytes. each bytes (behind inputs)) (inputs 0 item.name))
        | false ↦ each [] inputs
      ]

  pub items_run : (left : ℕ) (items : List Item) (rest : List (List ℕ) → Outcome) → ((files : List (List ℕ)) → P (rest files)) → (inputs : Inputs) → P (with_items left items rest inputs)
  unfolding with_items
  items_run left [] rest each inputs = each []
  items_run left (item ∷ items) rest each inputs =
      item_run left item (λ bytes. with_items (left - length bytes) items (λ files. rest (bytes ∷ files)))
      (λ bytes more. items_run (left - length bytes) items (λ files. rest (bytes ∷ files)) (λ files. each (bytes ∷ files)) more) inputs

  pub load_run : (limit : ℕ) (line : Option ℕ) (name : List ℕ) (rest : List ℕ → Inputs → Outcome) → ((bytes : List ℕ) (more : Inputs) → P (rest bytes more)) → (inputs : Inputs) → P (with_load limit line name rest inputs)
  load_run limit line name rest each inputs =
      step name (with_limited limit line name (inputs 0 name) (λ bytes. rest bytes (behind inputs)))
      (limited limit line name (λ bytes. rest bytes (behind inputs)) (λ bytes. each bytes (behind inputs)) (inputs 0 name))
