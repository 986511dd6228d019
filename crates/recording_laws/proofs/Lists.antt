-- Stays that are looked up in lists that change, and lists of items one behind the other.
use Rattle.std.proofs.Common.{◌≡◌, ◌≢◌, ℕ, zero, suc, ◌+◌, ◌<◌, Bool, true, false, inl, inr, List, [], ◌∷◌, ◌++◌, length, Option, Some, None, refl, sym, ap, ◌∙◌, arith}
use Rattle.std.specs.Prelude.{◌==◌, option_map, slice_get, if◌then◌else◌}
use Rattle.std.proofs.lemmas.Bool.{cases_Bool}
use Rattle.std.proofs.lemmas.List.{append-nil, map-append}
use Rattle.flat_loader.specs.Alone.{Item}
use Rattle.machine_world.specs.Event.{Trace, maps_file}
use Rattle.alone_laws.specs.Stays.{Stay, change_at, longer}
use Rattle.alone_laws.proofs.Lists.{eqb_is, eqb_isnt, changed_beside}
use Rattle.recording_laws.specs.Homes.{items_of, entries_of}
use Rattle.recording_laws.specs.Items.{launch_in, events_of, lists_of, ArePlain}

-- ---- tests

pub nothing_if : {A : Type 0} (b : Bool) (xs : List A) → xs ++ (if b then [] else []) ≡ xs
nothing_if true xs = append-nil xs
nothing_if false xs = append-nil xs

-- a call that maps no file brings no list
pub plain_lists : (b maps : Bool) (lists : List (List ℕ)) → maps ≡ false → lists ++ (if b then (if maps then [] ∷ [] else []) else []) ≡ lists
plain_lists true true lists none = absurd cc
plain_lists true false lists none = append-nil lists
plain_lists false maps lists none = append-nil lists

-- ---- one stay that changes

changed_own : {A : Type 0} (f : A → A) (k : ℕ) (xs : List A) → slice_get (change_at k f xs) k ≡ option_map f (slice_get xs k)
unfolding change_at
changed_own f zero [] = refl
changed_own f (suc k) [] = refl
changed_own f zero (x ∷ xs) = refl
changed_own f (suc k) (x ∷ xs) = changed_own f k xs

is_there : {A : Type 0} (k : ℕ) (xs : List A) → k < length xs → (x : A) × (slice_get xs k ≡ Some x)
is_there k [] less = absurd (omega (arith, less))
is_there zero (x ∷ xs) less = (x, refl)
is_there (suc k) (x ∷ xs) less = is_there k xs (omega (arith, less))

-- what a change leaves of a stay
module _ {B : Type 0} (f : Stay → Stay) (g : Option Stay → B) (h : Bool → Option Stay → B) (k : ℕ) (ys : List Stay) (less : k < length ys)
    (own : (y : Stay) → g (Some (f y)) ≡ h true (Some y)) (other : (o : Option Stay) → g o ≡ h false o) where
  pub by_change : (i : ℕ) → g (slice_get (change_at k f ys) i) ≡ h (k == i) (slice_get ys i)
  by_change i = elim (cases_Bool (k == i)) [
    | inl here ↦
        let same : k ≡ i = eqb_is k i here in
        let y = is_there k ys less in
        let at : slice_get ys i ≡ Some y.0 = ap (slice_get ys) (sym same) ∙ y.1 in
        ap (λ j. g (slice_get (change_at k f ys) j)) (sym same) ∙ ap g (changed_own f k ys ∙ ap (option_map f) y.1) ∙ own y.0
        ∙ (λ j. h (sym here j) (sym at j))
    | inr away ↦
        let ne : k ≢ i = eqb_isnt k i away in
        ap g (changed_beside f k i ys (λ e. ne (sym e))) ∙ other (slice_get ys i) ∙ ap (λ (b : Bool). h b (slice_get ys i)) (sym away)
  ]

module _ (t : Trace) (k : ℕ) (ys : List Stay) (less : k < length ys) where
  pub items_after : (i : ℕ) → items_of (slice_get (change_at k (longer t) ys) i) ≡ items_of (slice_get ys i) ++ (if k == i then t.items else [])
  items_after = by_change (longer t) items_of (λ b o. items_of o ++ (if b then t.items else [])) k ys less (λ y. refl) (λ o. sym (append-nil (items_of o)))

  pub events_after : (i : ℕ) → events_of (slice_get (change_at k (longer t) ys) i) ≡ events_of (slice_get ys i) + (if k == i then t.events else 0)
  events_after = by_change (longer t) events_of (λ b o. events_of o + (if b then t.events else 0)) k ys less (λ y. refl) (λ o. let e : events_of o ≡ events_of o + 0 = omega arith in e)

  pub launch_after : (i : ℕ) → option_map launch_in (slice_get (change_at k (longer t) ys) i) ≡ option_map launch_in (slice_get ys i)
  launch_after = by_change (longer t) (option_map launch_in) (λ b o. option_map launch_in o) k ys less (λ y. refl) (λ o. refl)

-- ---- a stay more

pub pushed_own : {A : Type 0} (xs : List A) (x : A) → slice_get (xs ++ x ∷ []) (length xs) ≡ Some x
pushed_own [] x = refl
pushed_own (y ∷ xs) x = pushed_own xs x

pub pushed_beside : {A : Type 0} (xs : List A) (x : A) (i : ℕ) → length xs ≢ i → slice_get (xs ++ x ∷ []) i ≡ slice_get xs i
pushed_beside [] x zero other = absurd (other refl)
pushed_beside [] x (suc i) other = refl
pushed_beside (y ∷ xs) x zero other = refl
pushed_beside (y ∷ xs) x (suc i) other = pushed_beside xs x i (λ e. other (ap suc e))

module _ {B : Type 0} (g : Option Stay → B) (new : Stay) (none : g (Some new) ≡ g None) where
  pub by_push : (ys : List Stay) (i : ℕ) → g (slice_get (ys ++ new ∷ []) i) ≡ g (slice_get ys i)
  by_push [] zero = none
  by_push [] (suc i) = refl
  by_push (y ∷ ys) zero = refl
  by_push (y ∷ ys) (suc i) = by_push ys i

-- ---- items

pub entries_if : (b : Bool) (xs ys : List Item) → entries_of (xs ++ (if b then ys else [])) ≡ entries_of xs ++ (if b then entries_of ys else [])
entries_if true xs ys = map-append (λ (i : Item). i.entry) xs ys
entries_if false xs ys = map-append (λ (i : Item). i.entry) xs []

lists_head : (i : Item) (xs ys : List Item) (b : Bool) → lists_of (xs ++ ys) ≡ lists_of xs ++ lists_of ys
    → (if b then i.brought ∷ lists_of (xs ++ ys) else lists_of (xs ++ ys)) ≡ (if b then i.brought ∷ lists_of xs else lists_of xs) ++ lists_of ys
lists_head i xs ys true more = ap (λ l. i.brought ∷ l) more
lists_head i xs ys false more = more

lists_append : (xs ys : List Item) → lists_of (xs ++ ys) ≡ lists_of xs ++ lists_of ys
lists_append [] ys = refl
lists_append (i ∷ xs) ys = lists_head i xs ys (maps_file i.entry) (lists_append xs ys)

pub lists_if : (b : Bool) (xs ys : List Item) → lists_of (xs ++ (if b then ys else [])) ≡ lists_of xs ++ (if b then lists_of ys else [])
lists_if true xs ys = lists_append xs ys
lists_if false xs ys = lists_append xs []

plain_append : (xs ys : List Item) → ArePlain xs → ArePlain ys → ArePlain (xs ++ ys)
plain_append [] ys px py = py
plain_append (i ∷ xs) ys px py = (px.0, plain_append xs ys px.1 py)

pub plain_if : (b : Bool) (xs ys : List Item) → ArePlain xs → ArePlain ys → ArePlain (xs ++ (if b then ys else []))
plain_if true xs ys px py = plain_append xs ys px py
plain_if false xs ys px py = plain_append xs [] px tt
