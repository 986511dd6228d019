-- One call more, behind others.
use Rattle.std.proofs.Common.{◌≡◌, ℕ, Bool, true, false, List, [], ◌∷◌, ◌++◌, length, refl, sym, ap, ◌∙◌, arith, ◌≤◌}
use Rattle.std.specs.Prelude.{if◌then◌else◌}
use Rattle.call_log.specs.Notes.{CallEntry, Note, call_note, load_note, end_note, stray_note}
use Rattle.flat_loader.specs.Alone.{Item}
use Rattle.machine_world.specs.Event.{maps_file, plain_item}
use Rattle.recording_laws.specs.Homes.{loads_in, calls_at}
use Rattle.recording_laws.specs.Items.{first_list, other_lists, with_lists}
use Rattle.recorded_items.specs.Left.{item_with, left_by, lists_left}

-- what is told of the first call and of the others
head_by : (b : Bool) (i j : Item) (f : List (List ℕ) → List Item) (ls ms : List (List ℕ)) → (if b then i ∷ f ls else j ∷ f ms) ≡ (if b then i else j) ∷ f (if b then ls else ms)
head_by true i j f ls ms = refl
head_by false i j f ls ms = refl

with_head : (e : CallEntry) (calls : List CallEntry) (lists : List (List ℕ)) → with_lists (e ∷ calls) lists ≡ item_with e lists ∷ with_lists calls (left_by e lists)
unfolding with_lists
with_head e calls lists = head_by (maps_file e) (record { entry = e; brought = first_list lists }) (plain_item e) (with_lists calls) (other_lists lists) lists

pub with_none : (lists : List (List ℕ)) → with_lists [] lists ≡ []
unfolding with_lists
with_none lists = refl

pub with_more : (calls : List CallEntry) (e : CallEntry) (lists : List (List ℕ)) → with_lists (calls ++ e ∷ []) lists ≡ with_lists calls lists ++ item_with e (lists_left calls lists) ∷ []
unfolding lists_left
with_more [] e lists = with_head e [] lists ∙ ap (λ is. item_with e lists ∷ is) (with_none (left_by e lists)) ∙ ap (λ is. is ++ item_with e lists ∷ []) (sym (with_none lists))
with_more (first ∷ calls) e lists =
    with_head first (calls ++ e ∷ []) lists ∙ ap (λ is. item_with first lists ∷ is) (with_more calls e (left_by first lists))
    ∙ ap (λ is. is ++ item_with e (lists_left calls (left_by first lists)) ∷ []) (sym (with_head first calls lists))

pub left_more : (calls : List CallEntry) (e : CallEntry) (lists : List (List ℕ)) → lists_left (calls ++ e ∷ []) lists ≡ left_by e (lists_left calls lists)
unfolding lists_left
left_more [] e lists = refl
left_more (first ∷ calls) e lists = left_more calls e (left_by first lists)

-- there are no more load notes than notes
pub few_loads : (notes : List Note) → loads_in notes ≤ length notes
unfolding loads_in
few_loads [] = omega arith
few_loads (call_note e ∷ notes) = let h = few_loads notes in omega (arith, h)
few_loads (load_note l ∷ notes) = let h = few_loads notes in omega (arith, h)
few_loads (end_note pid how ∷ notes) = let h = few_loads notes in omega (arith, h)
few_loads (stray_note pid seen ∷ notes) = let h = few_loads notes in omega (arith, h)

-- before the first note
pub with_first : (space : ℕ) (lists : List (List ℕ)) → with_lists (calls_at space []) lists ≡ []
unfolding calls_at with_lists
with_first space lists = refl

pub left_first : (space : ℕ) (lists : List (List ℕ)) → lists_left (calls_at space []) lists ≡ lists
unfolding calls_at lists_left
left_first space lists = refl
