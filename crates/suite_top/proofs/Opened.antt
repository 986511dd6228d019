-- What is there and what is loaded, by the outcome.
use Rattle.std.proofs.Common.{◌≡◌, ℕ, ◌-◌, ◌≤◌, Bool, true, false, cond, List, [], ◌∷◌, ◌++◌, map, length, nat_lt, Option, Some, None, refl, sym, ap, ◌∙◌, arith, filter}
use Rattle.std.proofs.lemmas.Bool.Decides.{nat_tests}
use Rattle.manifest_text.specs.Values.{Item}
use Rattle.file_commands.specs.Texts.Refusals.{too_long_at}
use Rattle.file_commands.specs.Ending.{refused_ending}
use Rattle.file_commands.specs.Outcome.{Request, load, Outcome, Inputs, after}
use Rattle.file_commands.specs.Load.{at_once, behind, with_limited, with_load}
use Rattle.file_commands.specs.Items.{load_limit, has_file, with_item, with_items}
use Rattle.suite_top.specs.Opened.{IsThere, behind_item, AreThere, IsStop}

-- ---- from what is there to the outcome

pub is_within : (limit : ℕ) (line : Option ℕ) (name : List ℕ) (o : Option (List ℕ)) (bytes : List ℕ) (rest : List ℕ → Outcome) → o ≡ Some bytes → length bytes ≤ limit → with_limited limit line name o rest ≡ rest bytes
is_within limit line name o bytes rest found short =
    let fits : nat_lt limit (length bytes) ≡ false = grind (arith, nat_tests) in
    ap (λ (x : Option (List ℕ)). with_limited limit line name x rest) found
    ∙ ap (λ (b : Bool). cond b (at_once (refused_ending (too_long_at line))) (rest bytes)) fits

abbrev pub loads_of : List Item → List Request
loads_of items = map (λ i. load i.name) (filter (λ i. has_file i.kind) items)

-- behind all loads
abbrev pub behind_all : List Item → Outcome → Outcome
behind_all items x = record { requests = loads_of items ++ x.requests; ending = x.ending }

pub items_there : (inputs : Inputs) (left : ℕ) (items : List Item) (files : List (List ℕ)) (rest : List (List ℕ) → Outcome) → AreThere inputs left items files → with_items left items rest inputs ≡ behind_all items (rest files)
unfolding with_items
items_there inputs left [] [] rest there = refl
items_there inputs left [] (file ∷ files) rest there = absurd there
items_there inputs left (item ∷ items) [] rest there = absurd there
items_there inputs left (item ∷ items) (file ∷ files) rest there =
    by_kind (has_file item.kind) there.0 (items_there (behind_item (has_file item.kind) inputs) (left - length file) items files (λ more. rest (file ∷ more)) there.1)
  where
    next : List ℕ → Inputs → Outcome
    next bytes = with_items (left - length bytes) items (λ more. rest (bytes ∷ more))

    by_kind : (b : Bool) → IsThere inputs left item file b → next file (behind_item b inputs) ≡ behind_all items (rest (file ∷ files))
        → cond b (with_load (load_limit item.kind left) (Some item.line) item.name next inputs) (next [] inputs)
        ≡ record { requests = map (λ i. load i.name) (cond b (item ∷ filter (λ i. has_file i.kind) items) (filter (λ i. has_file i.kind) items)) ++ (rest (file ∷ files)).requests; ending = (rest (file ∷ files)).ending }
    by_kind true is more =
        ap (after (load item.name))
        (is_within (load_limit item.kind left) (Some item.line) item.name (inputs 0 item.name) file (λ bytes. next bytes (behind inputs)) is.0 is.1 ∙ more)
    by_kind false is more = ap (λ bytes. next bytes inputs) (sym is) ∙ more

-- ---- from the status to what is there

pub within : (limit : ℕ) (line : Option ℕ) (name : List ℕ) (o : Option (List ℕ)) (rest : List ℕ → Outcome) → IsStop (with_limited limit line name o rest).ending.status
    → (bytes : List ℕ) × (o ≡ Some bytes) × (length bytes ≤ limit) × IsStop (rest bytes).ending.status
within limit line name None rest stop = absurd stop
within limit line name (Some bytes) rest stop = by_test (nat_lt limit (length bytes)) refl stop
  where
    by_test : (b : Bool) → nat_lt limit (length bytes) ≡ b → IsStop (cond b (at_once (refused_ending (too_long_at line))) (rest bytes)).ending.status
        → (e : List ℕ) × (◌≡◌ {A = Option (List ℕ)} (Some bytes) (Some e)) × (length e ≤ limit) × IsStop (rest e).ending.status
    by_test true is stops = absurd stops
    by_test false is stops = (bytes, refl, grind (arith, nat_tests), stops)

item_within : (inputs : Inputs) (left : ℕ) (item : Item) (rest : List ℕ → Inputs → Outcome) → IsStop (with_item left item rest inputs).ending.status
    → (file : List ℕ) × IsThere inputs left item file (has_file item.kind) × IsStop (rest file (behind_item (has_file item.kind) inputs)).ending.status
item_within inputs left item rest stop = by_kind (has_file item.kind) stop
  where
    by_kind : (b : Bool) → IsStop (cond b (with_load (load_limit item.kind left) (Some item.line) item.name rest inputs) (rest [] inputs)).ending.status
        → (file : List ℕ) × IsThere inputs left item file b × IsStop (rest file (behind_item b inputs)).ending.status
    by_kind true stops =
        let (file, found, fits, more) = within (load_limit item.kind left) (Some item.line) item.name (inputs 0 item.name) (λ bytes. rest bytes (behind inputs)) stops in
        (file, (found, fits), more)
    by_kind false stops = ([], refl, stops)

pub items_within : (inputs : Inputs) (left : ℕ) (items : List Item) (rest : List (List ℕ) → Outcome) → IsStop (with_items left items rest inputs).ending.status
    → (files : List (List ℕ)) × AreThere inputs left items files × IsStop (rest files).ending.status
unfolding with_items
items_within inputs left [] rest stop = ([], tt, stop)
items_within inputs left (item ∷ items) rest stop =
    let (file, is, more) = item_within inputs left item (λ bytes. with_items (left - length bytes) items (λ files. rest (bytes ∷ files))) stop in
    let (files, there, last) = items_within (behind_item (has_file item.kind) inputs) (left - length file) items (λ files. rest (file ∷ files)) more in
    (file ∷ files, (is, there), last)
