-- What is told stays right where one space changes: the other stays and spaces are as they were.
use Rattle.std.proofs.Common.{◌≡◌, ◌≢◌, ℕ, ◌<◌, Bool, false, inl, inr, List, [], ◌∷◌, ◌++◌, map, length, Option, Some, None, refl, sym, ap, subst, ◌∙◌, arith, length-append}
use Rattle.std.specs.Prelude.{◌==◌, ◌||◌, ◌&&◌, slice_get}
use Rattle.std.proofs.lemmas.List.{length-map, map-append, append-nil}
use Rattle.std.proofs.lemmas.Bool.{cases_Bool}
use Rattle.call_log.specs.Notes.{CallEntry, Note}
use Rattle.mmap_rules.specs.declared.mapping.Range.{Range}
use Rattle.mmap_rules.specs.declared.mapping.Mapping.{Mapping}
use Rattle.mmap_rules.specs.Space.{in_range, own_in, writable_in}
use Rattle.vfork_exec.specs.Keyed.{find, Falls}
use Rattle.vfork_exec.proofs.Keyed.{find_head}
use Rattle.flat_loader.specs.Alone.{Item, memory_of, own_of, writable_of}
use Rattle.machine_world.specs.World.{Process, LiveSpace, World, id_of}
use Rattle.machine_world.specs.Event.{Begins, Trace}
use Rattle.alone_laws.specs.Stays.{Stay, change_at, longer, runners, Agrees, AllAgree, kept_calls_of, belonging, AreTold}
use Rattle.alone_laws.proofs.Lists.{eqb_is, eqb_isnt, item_below, more_item, length-change_at, changed_here, changed_beside, belonging_behind, belonging_here, belonging_beside}

-- ---- own ranges are those of the mappings

abbrev pub ranges_of : List Mapping → List Range
ranges_of maps = map (λ (m : Mapping). m.range) maps

owned_at : (maps : List Mapping) (a : ℕ) → own_of (ranges_of maps) a ≡ own_in maps a
unfolding own_of own_in
owned_at [] a = refl
owned_at (m ∷ maps) a = ap (λ (b : Bool). in_range m.range a || b) (owned_at maps a)

pub owned : (maps : List Mapping) → own_of (ranges_of maps) ≡ own_in maps
owned maps = λ i a. owned_at maps a i

writable_at : (maps : List Mapping) (a : ℕ) → writable_of (ranges_of maps) a ≡ writable_in maps a
unfolding writable_of writable_in
writable_at [] a = refl
writable_at (m ∷ maps) a = ap (λ (b : Bool). (m.range.writes && in_range m.range a) || b) (writable_at maps a)

pub writable : (maps : List Mapping) → writable_of (ranges_of maps) ≡ writable_in maps
writable maps = λ i a. writable_at maps a i

-- ---- a space that is found has a number below all later ones

pub found_below : {A : Type 0} (key : A → ℕ) (k b : ℕ) (xs : List A) (x : A) → Falls key b xs → find key k xs ≡ Some x → k < b
unfolding find
found_below key k b [] x falls is = absurd cc
found_below key k b (y ∷ ys) x falls is = elim (cases_Bool (key y == k)) [
  | inl here ↦ (let same = eqb_is (key y) k here in omega (arith, same, falls.0))
  | inr later ↦ (let below = found_below key k (key y) ys x falls.1 (sym (find_head key k y ys false later) ∙ is) in omega (arith, below, falls.0))
]

-- ---- each stay agrees

pub agrees_same : (j : ℕ) (ps qs : List Process) (y : Stay) (o : Option LiveSpace) → runners j qs ≡ runners j ps → Agrees j ps y o → Agrees j qs y o
agrees_same j ps qs y None same h = h
agrees_same j ps qs y (Some s) same h = h ∙ ap (λ l. Some (record { stack = l; memory = memory_of s.space })) (sym same)

-- the processes and spaces of other numbers that were given are as they were
pub record BesideSpace (i : ℕ) (w now : World) : Type 0 where
  pub procs : (j : ℕ) → j ≢ i → j < w.loads → runners j now.procs ≡ runners j w.procs
  pub spaces : (j : ℕ) → j ≢ i → j < w.loads → find id_of j now.spaces ≡ find id_of j w.spaces

pub agree_after : (ys : List Stay) (w now : World) (i : ℕ) (f : Stay → Stay) → length ys ≡ w.loads → AllAgree ys w → BesideSpace i w now
    → ((y : Stay) → slice_get ys i ≡ Some y → Agrees i now.procs (f y) (find id_of i now.spaces)) → AllAgree (change_at i f ys) now
agree_after ys w now i f count agree beside here = λ j y there. elim (cases_Bool (j == i)) [
  | inl is ↦
      let same : i ≡ j = sym (eqb_is j i is) in
      subst (λ k. slice_get (change_at i f ys) k ≡ Some y → Agrees k now.procs y (find id_of k now.spaces)) same
      (λ at. let was = changed_here f i ys y at in subst (λ z. Agrees i now.procs z (find id_of i now.spaces)) was.is (here was.old was.there)) there
  | inr isnt ↦
      let other = eqb_isnt j i isnt in
      let was : slice_get ys j ≡ Some y = sym (changed_beside f i j ys other) ∙ there in
      let given : j < w.loads = let below = item_below ys j y was in omega (arith, below, count) in
      subst (λ o. Agrees j now.procs y o) (sym (beside.spaces j other given))
      (agrees_same j w.procs now.procs y (find id_of j w.spaces) (beside.procs j other given) (agree j y was))
]

-- ---- the entries of each stay

abbrev pub entries_of : List Item → List CallEntry
entries_of items = map (λ (x : Item). x.entry) items

module _ (ys : List Stay) (notes now : List Note) (i n : ℕ) (items : List Item) (begins : Option Begins) (over : Bool) (below : i < length ys) (told : AreTold ys notes)
    (kept : kept_calls_of now ≡ kept_calls_of notes ++ entries_of items) where
  abbrev trace : Trace
  trace = record { space = i; events = n; items = items; begins = begins; over = over }

  abbrev places : List ℕ
  places = told.places ++ map (λ x. i) items

  belong : (j : ℕ) → belonging j places (kept_calls_of now)
      ≡ belonging j told.places (kept_calls_of notes) ++ belonging j (map (λ x. i) items) (entries_of items)
  belong j = ap (belonging j places) kept ∙ belonging_behind j told.places (map (λ x. i) items) (kept_calls_of notes) (entries_of items) told.each

  others_belong : (j : ℕ) → j ≢ i → belonging j places (kept_calls_of now) ≡ belonging j told.places (kept_calls_of notes)
  others_belong j other =
      belong j ∙ ap (λ (l : List CallEntry). belonging j told.places (kept_calls_of notes) ++ l) (belonging_beside j (λ (x : Item). x.entry) i items (λ e. other (sym e)))
      ∙ append-nil (belonging j told.places (kept_calls_of notes))

  pub told_after : AreTold (change_at i (longer trace) ys) now
  told_after = record {
    places = places;
    each =
        let l = length-append told.places (map (λ x. i) items) in
        let r = ap length kept ∙ length-append (kept_calls_of notes) (entries_of items) in
        let a = length-map items (λ (x : Item). i) in
        let b = length-map items (λ (x : Item). x.entry) in
        omega (arith, l, r, a, b, told.each);
    entries = λ j y there. elim (cases_Bool (j == i)) [
      | inl is ↦
          let same : i ≡ j = sym (eqb_is j i is) in
          subst (λ k. slice_get (change_at i (longer trace) ys) k ≡ Some y → entries_of y.items ≡ belonging k places (kept_calls_of now)) same
          (λ at. let was = changed_here (longer trace) i ys y at in
          ap (λ (z : Stay). entries_of z.items) (sym was.is)
          ∙ map-append (λ (x : Item). x.entry) was.old.items items
          ∙ ap (λ (l : List CallEntry). l ++ entries_of items) (told.entries i was.old was.there)
          ∙ ap (λ (l : List CallEntry). belonging i told.places (kept_calls_of notes) ++ l) (sym (belonging_here i (λ (x : Item). x.entry) i items refl))
          ∙ sym (belong i)) there
      | inr isnt ↦
          let other = eqb_isnt j i isnt in
          told.entries j y (sym (changed_beside (longer trace) i j ys other) ∙ there) ∙ sym (others_belong j other)
    ];
    no_others = λ j past.
        let len = length-change_at (longer trace) i ys in
        let other : j ≢ i = omega (arith, len, past, below) in
        others_belong j other ∙ told.no_others j (omega (arith, len, past));
  }

-- a stay more, to which no call belongs yet
pub told_new : (ys : List Stay) (notes : List Note) (new : Stay) → new.items ≡ [] → AreTold ys notes → AreTold (ys ++ new ∷ []) notes
told_new ys notes new none told = record {
  places = told.places;
  each = told.each;
  entries = λ j y there. elim (more_item ys new j y there) [
    | inl old ↦ told.entries j y old
    | inr new_one ↦ ap (λ (z : Stay). entries_of z.items) new_one.1 ∙ ap entries_of none ∙ sym (told.no_others j (omega (arith, new_one.0)))
  ];
  no_others = λ j past. told.no_others j (let e = length-append ys (new ∷ []) in omega (arith, e, past));
}
