-- The lines one after the other.
use Rattle.std.proofs.Common.{◌≡◌, ℕ, ◌+◌, ◌≤◌, List, ◌∷◌, length, drop, length-drop, Result, Ok, Err, sym, ap, ◌∙◌, arith, inl, inr}
use Rattle.std.specs.Prelude.{◌⊎◌}
use Rattle.std.proofs.lemmas.List.{drop_all}
use Rattle.manifest_text.specs.Values.{Item}
use Rattle.bflt_format.specs.declared.fault.FlatFault.TheVariants as flat
use Rattle.elf2flt_tool.specs.declared.refusal.Refusal.TheVariants as refusal
use Rattle.romfs_image.specs.declared.fault.RomFault.TheVariants as rom
use Rattle.run_setup.specs.declared.fault.LineFault.{LineFault}
use Rattle.run_setup.specs.declared.fault.LineFault.TheVariants as line
use Rattle.run_setup.specs.declared.bringing.RunFiles.{RunFiles}
use Rattle.run_setup.specs.Brought.{Brought, FaultAt, brought, then_brought, all_brought, nothing_brought}
use Rattle.run_setup.specs.Faults.{IsMemory}
use Rattle.run_setup.specs.Refusals.{refusal_at}
use Rattle.run_setup.specs.Making.{BringsAll, HasPaths, HasNodes, brought_value, Added, BroughtSoFar}

-- before the first line
pub begins : (items : List Item) (files : List (List ℕ)) (run : RunFiles) → brought_value run ≡ nothing_brought → HasPaths run → HasNodes run
    → BroughtSoFar items files run 0
begins items files run is has few = record {
  paths = has;
  count = few;
  within = omega arith;
  goes_on = ap (all_brought items files) is;
}

-- a line is refused
refuses : (wanted : Result Brought FaultAt) (number : ℕ) (first : LineFault) → IsMemory first ⊎ (wanted ≡ Err (record { line = number; fault = first })) → BringsAll wanted (Err (refusal_at number first))
refuses wanted number line.Memory why = tt
refuses wanted number (line.Elf refusal.Memory) why = tt
refuses wanted number (line.Flat flat.Memory) why = tt
refuses wanted number (line.Rom rom.Memory) why = tt
refuses wanted number first (inl memory) = absurd memory
refuses wanted number first (inr is) = is

module _ (items : List Item) (files : List (List ℕ)) (run : RunFiles) (n : ℕ) (so_far : BroughtSoFar items files run n) where
  module _ (item : Item) (file : List ℕ) (opened : drop n items ≡ item ∷ drop (n + 1) items) (opened_files : drop n files ≡ file ∷ drop (n + 1) files) where
    abbrev go_on : Brought → Result Brought FaultAt
    go_on = all_brought (drop (n + 1) items) (drop (n + 1) files)

    here : all_brought (drop n items) (drop n files) (brought_value run) ≡ then_brought item (brought (brought_value run) item file) go_on
    unfolding all_brought
    here =
        ap (λ (is : List Item). all_brought is (drop n files) (brought_value run)) opened
        ∙ ap (λ (fs : List (List ℕ)). all_brought (item ∷ drop (n + 1) items) fs (brought_value run)) opened_files

    pub brings_more : (new : RunFiles) → Added (brought (brought_value run) item file) run new → BroughtSoFar items files new (n + 1)
    brings_more new added = record {
      paths = added.paths;
      count = added.count;
      within = omega (arith, ap length opened, length-drop n items);
      goes_on = sym (here ∙ ap (λ (r : Result Brought LineFault). then_brought item r go_on) added.value) ∙ so_far.goes_on;
    }

    pub stops_at : (first : LineFault) → IsMemory first ⊎ (brought (brought_value run) item file ≡ Err first)
        → BringsAll (all_brought items files nothing_brought) (Err (refusal_at item.line first))
    stops_at first why = elim why [
      | inl memory ↦ refuses (all_brought items files nothing_brought) item.line first (inl memory)
      | inr is ↦
          refuses (all_brought items files nothing_brought) item.line first
          (inr (sym so_far.goes_on ∙ here ∙ ap (λ (r : Result Brought LineFault). then_brought item r go_on) is))
    ]

  pub brings_all : length items ≤ n → all_brought items files nothing_brought ≡ Ok (brought_value run)
  unfolding all_brought
  brings_all past = sym so_far.goes_on ∙ ap (λ (is : List Item). all_brought is (drop n files) (brought_value run)) (drop_all n items past)
