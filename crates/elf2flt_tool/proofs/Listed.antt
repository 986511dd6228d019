-- The recorded words of an accepted file as a list of places and one function from a place to its target.
use Rattle.std.proofs.Common.{◌≡◌, ℕ, ◌+◌, ◌%◌, ◌^◌, ◌<◌, ◌≤◌, inl, inr, Bool, true, false, nat_eq, nat_lt, List, [], ◌∷◌, map, filter, refl, ap, sym, ◌∙◌, arith, subst, if◌then◌else◌}
use Rattle.std.specs.List.{AllByRecursion as Each}
use Rattle.std.proofs.lemmas.Bool.{cases_Bool, or_parts, ltb-false, eqb-true, eqb-false}
use Rattle.byte_words.specs.Numbers.{IsBytes}
use Rattle.byte_words.specs.Patches.{big_word, little_word}
use Rattle.bflt_format.proofs.Rising.{has}
use Rattle.bflt_format.proofs.Links.{AreWords, addressed}
use Rattle.flat_layout.specs.declared.layout.Layout.{Layout}
use Rattle.flat_layout.specs.Layout.{layout, off, size_of, stored_end}
use Rattle.flat_layout.proofs.Numbers.{off_fits, off-shift}
use Rattle.psabi_relocs.specs.Shape.{has_value}
use Rattle.psabi_relocs.specs.Field.{Field}
use Rattle.flat_layout.proofs.Facts.{clear_numbers}
use Rattle.elf2flt_tool.specs.declared.word.Word.{Word}
use Rattle.elf2flt_tool.specs.Relocs.{fields_of}
use Rattle.elf2flt_tool.specs.Image.{bare, word_of, word_patch, pointers}
use Rattle.elf2flt_tool.specs.Word.{numbered, words, places, points_outside, target_outside}
use Rattle.elf2flt_tool.specs.Converted.{number_patch}
use Rattle.elf2flt_tool.proofs.Members.{each-map, each-weaker, member_has, map_same, map_map}
use Rattle.elf2flt_tool.proofs.Laid.{is_laid}
use Rattle.elf2flt_tool.proofs.Raised.{raised}
use Rattle.elf2flt_tool.proofs.Held.{IsHeld}
use Rattle.elf2flt_tool.proofs.Stills.{each-filter, each_filtered, filter_keep, filter_drop}
use Rattle.elf2flt_tool.proofs.Recorded.{IsLinked, IsClear, is_linked, all_held}
use Rattle.elf2flt_tool.proofs.Apart.{pointer_places, none_lowest, places_apart}

-- the number that a recorded word points to, by what stands at its place
abbrev pub target_at : List ℕ → ℕ → ℕ
target_at e p = off (layout e) (word_of (bare e) p)

-- the numbers of the recorded words
abbrev pub places_of : List ℕ → List ℕ
places_of e = pointer_places (layout e) (fields_of e 0)

-- a recorded word of the linked bytes, which holds the value that it takes
record IsRecorded (e : List ℕ) (f : Field) : Type 0 where
  recorded : f.recorded ≡ true
  inside : off (layout e) f.place + 4 ≤ stored_end e
  holds : word_of (bare e) (off (layout e) f.place) ≡ f.value

is_recorded : (e : List ℕ) (f : Field) → f.recorded ≡ true → IsHeld e f → IsRecorded e f
is_recorded e f on held =
    let w = word_of (bare e) (off (layout e) f.place) in
    record { recorded = on; inside = held.inside; holds = eqb-true w f.value (subst (λ s. has_value s w f.value ≡ true) (held.pointer on) held.value) }

both : (e : List ℕ) (fs : List Field) → Each (λ f. f.recorded ≡ true) fs → Each (IsHeld e) fs → Each (IsRecorded e) fs
both e [] on held = tt
both e (f ∷ fs) on held = (is_recorded e f on.0 held.0, both e fs on.1 held.1)

all_recorded : (e : List ℕ) → IsBytes e → IsLinked e → Each (IsRecorded e) (pointers (fields_of e 0))
all_recorded e bytes clear =
    both e (pointers (fields_of e 0)) (each_filtered (λ f. f.recorded) (fields_of e 0)) (each-filter (IsHeld e) (λ f. f.recorded) (fields_of e 0) (all_held e bytes clear))

abbrev pub pointed : (ℕ → ℕ) → ℕ → Word
pointed target p = record { place = p; target = target p }

-- the words, by their places
pub words_are : (e : List ℕ) → IsBytes e → IsLinked e → words e ≡ map (pointed (target_at e)) (places_of e)
unfolding words numbered
words_are e bytes clear =
    map_same (numbered (layout e)) (λ f. pointed (target_at e) (off (layout e) f.place)) (pointers (fields_of e 0))
    (each-weaker (IsRecorded e) (λ f. numbered (layout e) f ≡ pointed (target_at e) (off (layout e) f.place))
    (λ f is. ap (λ v. record { place = off (layout e) f.place; target = off (layout e) v }) (sym is.holds)) (pointers (fields_of e 0)) (all_recorded e bytes clear))
    ∙ sym (map_map (pointed (target_at e)) (λ f. off (layout e) f.place) (pointers (fields_of e 0)))

pub places_are : (e : List ℕ) → places (words e) ≡ places_of e
unfolding words numbered
places_are e = map_map (λ w. w.place) (numbered (layout e)) (pointers (fields_of e 0))

pub numbers_are : (e : List ℕ) → IsBytes e → IsLinked e → map number_patch (words e) ≡ map (λ p. big_word p (target_at e p)) (places_of e)
unfolding number_patch
numbers_are e bytes clear = ap (map number_patch) (words_are e bytes clear) ∙ map_map number_patch (pointed (target_at e)) (places_of e)

-- a recorded value at the base b is the address of its number above b
raised_word : (l : Layout) (b : ℕ) (f : Field) → l.v0 < 2 ^ 32 → f.recorded ≡ true → (if f.recorded then (f.value + off l b) % 2 ^ 32 else f.value) ≡ (b + off l f.value) % 2 ^ 32
raised_word l b f fits on = rw on (off-shift l f.value b fits)

-- the recorded fields at the base b, by their places
pub addressed_are : (e : List ℕ) (b : ℕ) → IsBytes e → IsLinked e
    → map (word_patch (layout e)) (map (raised (off (layout e) b)) (pointers (fields_of e 0))) ≡ map (addressed (target_at e) b) (places_of e)
unfolding word_patch
addressed_are e b bytes clear =
    let l = layout e in
    map_map (word_patch l) (raised (off l b)) (pointers (fields_of e 0))
    ∙ map_same (λ f. word_patch l (raised (off l b) f)) (λ f. addressed (target_at e) b (off l f.place)) (pointers (fields_of e 0))
    (each-weaker (IsRecorded e) (λ f. word_patch l (raised (off l b) f) ≡ addressed (target_at e) b (off l f.place))
    (λ f is. ap (little_word (off l f.place)) (raised_word l b f (is_laid e (clear_numbers e clear.laid)).start is.recorded ∙ ap (λ v. (b + off l v) % 2 ^ 32) (sym is.holds)))
    (pointers (fields_of e 0)) (all_recorded e bytes clear))
    ∙ sym (map_map (addressed (target_at e) b) (λ f. off l f.place) (pointers (fields_of e 0)))

-- ---- where they point

unplaced : (ws : List Word) → places ws ≡ [] → ws ≡ []
unplaced [] empty = refl
unplaced (w ∷ ws) empty = absurd (cc)

none_filtered : {X : Type 0} (test : X → Bool) (xs : List X) → filter test xs ≡ [] → Each (λ x. test x ≡ false) xs
none_filtered test [] empty = tt
none_filtered test (x ∷ xs) empty = elim (cases_Bool (test x)) [
  | inl on ↦ absurd (let some = sym (filter_keep test x xs on) ∙ empty in cc)
  | inr out ↦ (out, none_filtered test xs (sym (filter_drop test x xs out) ∙ empty))
]

each_mapped : {X Y : Type 0} (P : Y → Type 0) (f : X → Y) (xs : List X) → Each P (map f xs) → Each (λ x. P (f x)) xs
each_mapped P f [] a = tt
each_mapped P f (x ∷ xs) a = (a.0, each_mapped P f xs a.1)

targets_in : (e : List ℕ) → IsBytes e → IsClear e → Each (λ p. points_outside (size_of (layout e)) (pointed (target_at e) p) ≡ false) (places_of e)
unfolding target_outside
targets_in e bytes clear =
    let inside = none_filtered (points_outside (size_of (layout e))) (words e) (unplaced _ (none_lowest _ clear.targets)) in
    let P : Word → Type 0 = λ w. points_outside (size_of (layout e)) w ≡ false in
    each_mapped P (pointed (target_at e)) (places_of e) (let Q : List Word → Type 0 = Each P in subst Q (words_are e bytes (is_linked e clear)) inside)

-- a word points to a byte of the image, or to its end
record PointsInside (e : List ℕ) (p : ℕ) : Type 0 where
  above : 0 < target_at e p
  within : target_at e p ≤ size_of (layout e)

points_inside : (e : List ℕ) → IsBytes e → IsClear e → (p : ℕ) → has (places_of e) p ≡ true → PointsInside e p
points_inside e bytes clear p is =
    let passes = member_has (λ p. points_outside (size_of (layout e)) (pointed (target_at e) p) ≡ false) (places_of e) (targets_in e bytes clear) p is in
    let parts = or_parts (nat_eq (target_at e p) 0) (nat_lt (size_of (layout e)) (target_at e p)) passes in
    let nonzero : (target_at e p ≡ 0 → ⊥) = eqb-false (target_at e p) 0 parts.0 in
    record { above = omega arith; within = ltb-false (size_of (layout e)) (target_at e p) parts.1 }

pub target_within : (e : List ℕ) → IsBytes e → IsClear e → (p : ℕ) → has (places_of e) p ≡ true → target_at e p ≤ size_of (layout e)
target_within e bytes clear p is = (points_inside e bytes clear p is).within

-- a word's place is inside the stored bytes
pub place_inside : (e : List ℕ) → IsBytes e → IsLinked e → (p : ℕ) → has (places_of e) p ≡ true → p + 4 ≤ stored_end e
place_inside e bytes clear = member_has (λ p. p + 4 ≤ stored_end e) (places_of e) (each-map (λ p. p + 4 ≤ stored_end e) (λ f. off (layout e) f.place) (pointers (fields_of e 0))
    (each-weaker (IsRecorded e) (λ f. off (layout e) f.place + 4 ≤ stored_end e) (λ f is. is.inside) (pointers (fields_of e 0)) (all_recorded e bytes clear)))

-- what is known of the words of an accepted file
pub are_words : (e : List ℕ) → IsBytes e → IsClear e → AreWords (target_at e) (places_of e) (stored_end e)
are_words e bytes clear = record {
  apart = λ p q p_in q_in near. places_apart e p q clear.apart p_in q_in near;
  inside = place_inside e bytes (is_linked e clear);
  above = λ p is. (points_inside e bytes clear p is).above;
  fits = λ p is. off_fits (layout e) (word_of (bare e) p);
}
