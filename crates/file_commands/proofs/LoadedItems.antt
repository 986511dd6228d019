-- The loads of the item lines' files, one after the other.
use Rattle.std.proofs.Common.{◌≡◌, ℕ, ◌+◌, ◌-◌, ◌≤◌, Bool, true, false, cond, min, List, [], ◌∷◌, ◌++◌, length, drop, Some, Result, Ok, Err, Vec, refl, sym, ap, subst, arith, append_assoc, length-append}
use Rattle.std.proofs.Math.Path.{fun_ext}
use Rattle.std.proofs.Math.Nat.{min-le_right}
use Rattle.std.proofs.lemmas.List.{append-nil, drop_all}
use Rattle.host_io.specs.Host.{Told}
use Rattle.manifest_text.specs.Values.{Item}
use Rattle.file_commands.specs.Ending.{Ending, memory_ending}
use Rattle.file_commands.specs.Outcome.{Outcome, Inputs}
use Rattle.file_commands.specs.Load.{with_load}
use Rattle.file_commands.specs.Observed.{Observed}
use Rattle.file_commands.specs.HostCourse.{PerformsCommand}
use Rattle.file_commands.specs.declared.ended.Ended.{Ended}
use Rattle.file_commands.specs.Answer.{ending_at}
use Rattle.file_commands.specs.FileLoad.{GaveFile, EndsWithout, LoadsFile}
use Rattle.file_commands.specs.Items.{kind_limit, load_limit, files_limit, has_file, with_item, with_items}
use Rattle.file_commands.specs.ItemLoads.{GaveItem, LoadsItem, GaveFiles, LoadsSoFar}
use Rattle.file_commands.proofs.HostSteps.{performs_rest, memory_now}

-- the load of a line, if it has a file
abbrev loads_if : Bool → Item → (left : ℕ) → (List ℕ → Inputs → Outcome) → Inputs → Outcome
loads_if b item left rest inputs = cond b (with_load (load_limit item.kind left) (Some item.line) item.name rest inputs) (rest [] inputs)

within : (limit left n : ℕ) → n ≤ min limit left → n ≤ left
within limit left n h = omega (arith, min-le_right limit left, h)

pub no_loads : (old : Observed Told) (items : List Item) → LoadsSoFar old old items [] files_limit 0
no_loads old items = record { some_left = omega arith; count = refl; goes_on = λ rest last ending performs. performs }

-- ---- one line

-- a folder has no file
pub no_file : (now : Observed Told) (item : Item) (left : ℕ) → has_file item.kind ≡ false → GaveItem now now item left []
no_file now item left is = record {
  fits = omega arith;
  goes_on = λ rest last ending performs. subst (λ (b : Bool). PerformsCommand now last (loads_if b item left rest) ending) (sym is) performs;
}

-- the file of a line that has one
gave_file : (old new : Observed Told) (item : Item) (left : ℕ) (bytes : List ℕ) → has_file item.kind ≡ true → GaveFile (load_limit item.kind left) old new item.name bytes → GaveItem old new item left bytes
gave_file old new item left bytes is given = record {
  fits = within (kind_limit item.kind) left (length bytes) given.fits;
  goes_on = λ rest last ending performs. subst (λ (b : Bool). PerformsCommand old last (loads_if b item left rest) ending) (sym is)
      (performs_rest (load_limit item.kind left) (Some item.line) item.name rest old new last bytes ending given performs);
}

no_file_given : (old new : Observed Told) (item : Item) (left : ℕ) (ending : Ending) → has_file item.kind ≡ true → EndsWithout (load_limit item.kind left) (Some item.line) old new item.name ending
    → (rest : List ℕ → Inputs → Outcome) → PerformsCommand old new (with_item left item rest) ending
no_file_given old new item left ending is ends rest = subst (λ (b : Bool). PerformsCommand old new (loads_if b item left rest) ending) (sym is) (ends rest)

pub loads_item : {Y : Type 0} (old new : Observed Told) (item : Item) (left : ℕ) (r : Result (Vec ℕ Y) Ended) → has_file item.kind ≡ true → LoadsFile (load_limit item.kind left) (Some item.line) old new item.name r
    → LoadsItem old new item left r
loads_item old new item left (Ok bytes) is loads = gave_file old new item left bytes.items is loads
loads_item old new item left (Err ended) is loads = no_file_given old new item left (ending_at ended) is loads

-- ---- all lines

module _ (old now : Observed Told) (items : List Item) (files : List (List ℕ)) (left i : ℕ) (so_far : LoadsSoFar old now items files left i) where
  module _ (item : Item) (opened : drop i items ≡ item ∷ drop (i + 1) items) where
    -- the line's load, and then the others
    next_load : (List (List ℕ) → Outcome) → List ℕ → Inputs → Outcome
    next_load rest bytes = with_items (left - length bytes) (drop (i + 1) items) (λ more. rest (files ++ bytes ∷ more))

    goes_by_load : (rest : List (List ℕ) → Outcome) (last : Observed Told) (ending : Ending)
        → PerformsCommand now last (with_item left item (next_load rest)) ending → PerformsCommand old last (with_items files_limit items rest) ending
    unfolding with_items next_load
    goes_by_load rest last ending performs =
        so_far.goes_on rest last ending (subst (λ (is : List Item). PerformsCommand now last (with_items left is (λ more. rest (files ++ more))) ending) (sym opened) performs)

    pub loads_more : (mid : Observed Told) (bytes : List ℕ) → GaveItem now mid item left bytes → LoadsSoFar old mid items (files ++ bytes ∷ []) (left - length bytes) (i + 1)
    unfolding next_load
    loads_more mid bytes given =
        let some : left ≤ files_limit = so_far.some_left in
        let count : length files ≡ i = so_far.count in
        let len = length-append files (bytes ∷ []) in
        record {
          some_left = omega (arith, some);
          count = omega (arith, count, len);
          goes_on = λ rest last ending performs.
              let same = fun_ext (λ (more : List (List ℕ)). ap rest (append_assoc files (bytes ∷ []) more)) in
              goes_by_load rest last ending (given.goes_on (next_load rest) last ending
              (subst (λ (f : List (List ℕ) → Outcome). PerformsCommand mid last (with_items (left - length bytes) (drop (i + 1) items) f) ending) same performs));
        }

    pub ends_within : (mid : Observed Told) (ending : Ending) → ((rest : List ℕ → Inputs → Outcome) → PerformsCommand now mid (with_item left item rest) ending)
        → (rest : List (List ℕ) → Outcome) → PerformsCommand old mid (with_items files_limit items rest) ending
    ends_within mid ending ends rest = goes_by_load rest mid ending (ends (next_load rest))

  pub runs_out_within : (rest : List (List ℕ) → Outcome) → PerformsCommand old now (with_items files_limit items rest) memory_ending
  runs_out_within rest = so_far.goes_on rest now memory_ending (memory_now now (with_items left (drop i items) (λ more. rest (files ++ more))))

  pub all_loaded : length items ≤ i → i ≤ length items → GaveFiles old now items files
  unfolding with_items
  all_loaded past within =
      let count : length files ≡ i = so_far.count in
      record {
        count = omega (arith, count, past, within);
        goes_on = λ rest last ending performs.
            so_far.goes_on rest last ending
            (subst (λ (is : List Item). PerformsCommand now last (with_items left is (λ more. rest (files ++ more))) ending) (sym (drop_all i items past))
            (subst (λ (fs : List (List ℕ)). PerformsCommand now last (λ inputs. rest fs) ending) (sym (append-nil files)) performs));
      }
