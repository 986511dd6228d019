-- The fields that stay: putting their values over the linked bytes changes nothing.
use Rattle.std.proofs.Common.{◌≡◌, ℕ, zero, suc, ◌+◌, ◌-◌, ◌<◌, ◌%◌, ◌^◌, inl, inr, Bool, true, false, not, List, [], ◌∷◌, map, filter, get_or, refl, sym, ap, ◌∙◌, arith, if◌then◌else◌}
use Rattle.std.specs.List.{AllByRecursion as Each}
use Rattle.std.proofs.lemmas.Bool.{cases_Bool}
use Rattle.byteorder.specs.Endian.{little_bytes}
use Rattle.byte_words.specs.Patches.{spans, patched, little_word}
use Rattle.byte_words.proofs.Painting.{within, patched_on, patched_off}
use Rattle.flat_layout.specs.Layout.{layout, off}
use Rattle.psabi_relocs.specs.Shape.{put}
use Rattle.psabi_relocs.specs.Field.{Field}
use Rattle.elf2flt_tool.specs.Image.{bare, word_of, written, overwritten, pointers}
use Rattle.elf2flt_tool.proofs.Putting.{put_same}
use Rattle.elf2flt_tool.proofs.Held.{IsHeld}
use Rattle.elf2flt_tool.proofs.Raised.{raised}

-- a picture of bytes
abbrev pub IsPicture : (ℕ → ℕ) → Type 0
IsPicture m = (i : ℕ) → m i < 256

pub word_fits : (m : ℕ → ℕ) (n : ℕ) → IsPicture m → word_of m n < 2 ^ 32
unfolding word_of
word_fits m n bytes = omega (arith, bytes n, bytes (n + 1), bytes (n + 2), bytes (n + 3))

by_four : (P : ℕ → Type 0) (k : ℕ) → k < 4 → P 0 → P 1 → P 2 → P 3 → P k
by_four P zero small a b c d = a
by_four P (suc zero) small a b c d = b
by_four P (suc (suc zero)) small a b c d = c
by_four P (suc (suc (suc zero))) small a b c d = d
by_four P (suc (suc (suc (suc k)))) small a b c d = absurd (omega arith)

-- the bytes of a picture's word are the picture's
word_bytes : (m : ℕ → ℕ) (n k : ℕ) → IsPicture m → k < 4 → get_or (little_bytes 4 (word_of m n)) k 0 ≡ m (n + k)
unfolding word_of
word_bytes m n k bytes small =
    let first : get_or (little_bytes 4 (word_of m n)) 0 0 ≡ m n = omega (arith, bytes n, bytes (n + 1), bytes (n + 2), bytes (n + 3)) in
    let second : get_or (little_bytes 4 (word_of m n)) 1 0 ≡ m (n + 1) = omega (arith, bytes n, bytes (n + 1), bytes (n + 2), bytes (n + 3)) in
    let third : get_or (little_bytes 4 (word_of m n)) 2 0 ≡ m (n + 2) = omega (arith, bytes n, bytes (n + 1), bytes (n + 2), bytes (n + 3)) in
    let fourth : get_or (little_bytes 4 (word_of m n)) 3 0 ≡ m (n + 3) = omega (arith, bytes n, bytes (n + 1), bytes (n + 2), bytes (n + 3)) in
    by_four (λ k. get_or (little_bytes 4 (word_of m n)) k 0 ≡ m (n + k)) k small (let e : n + 0 ≡ n = omega arith in rw e first) second third fourth

-- a word of a picture over the picture
word_over : (m : ℕ → ℕ) (n i : ℕ) → IsPicture m → patched (little_word n (word_of m n)) m i ≡ m i
unfolding little_word
word_over m n i bytes = elim (cases_Bool (spans (little_word n (word_of m n)) i)) [
  | inl on ↦
      let there = within (little_word n (word_of m n)) i on in
      let from = there.from in
      let to = there.to in
      let place : n + (i - n) ≡ i = omega arith in
      patched_on (little_word n (word_of m n)) m i on ∙ word_bytes m n (i - n) bytes (omega arith) ∙ ap m place
  | inr off ↦ patched_off (little_word n (word_of m n)) m i off
]

written_same : (e : List ℕ) (f : Field) → IsPicture (bare e) → IsHeld e f → written (layout e) f (bare e) ≡ bare e
unfolding written
written_same e f bytes held =
    let n = off (layout e) f.place in
    let same : put f.shape (word_of (bare e) n) f.value ≡ word_of (bare e) n = put_same f.shape (word_of (bare e) n) f.value (word_fits (bare e) n bytes) held.value in
    rw same (λ k i. word_over (bare e) n i bytes k)

pub overwritten_same : (e : List ℕ) (fs : List Field) → IsPicture (bare e) → Each (IsHeld e) fs → overwritten (layout e) fs (bare e) ≡ bare e
overwritten_same e [] bytes held = refl
overwritten_same e (f ∷ fs) bytes held = rw (written_same e f bytes held.0) (overwritten_same e fs bytes held.1)

-- ---- which fields stay and which are recorded, at raised addresses

unraised : (d : ℕ) (f : Field) → f.recorded ≡ false → raised d f ≡ f
unraised d f still =
    let value : (if f.recorded then (f.value + d) % 2 ^ 32 else f.value) ≡ f.value = rw still refl in
    ap (λ v. record { place = f.place; shape = f.shape; value = v; recorded = f.recorded }) value

pub filter_keep : {X : Type 0} (test : X → Bool) (x : X) (xs : List X) → test x ≡ true → filter test (x ∷ xs) ≡ x ∷ filter test xs
filter_keep test x xs on = rw on refl

pub filter_drop : {X : Type 0} (test : X → Bool) (x : X) (xs : List X) → test x ≡ false → filter test (x ∷ xs) ≡ filter test xs
filter_drop test x xs out = rw out refl

abbrev stays : Field → Bool
stays f = not f.recorded

pub stills_raised : (d : ℕ) (fs : List Field) → filter (λ f. not f.recorded) (map (raised d) fs) ≡ filter (λ f. not f.recorded) fs
stills_raised d [] = refl
stills_raised d (f ∷ fs) = elim (cases_Bool f.recorded) [
  | inl on ↦ filter_drop stays (raised d f) (map (raised d) fs) (ap not on) ∙ stills_raised d fs ∙ sym (filter_drop stays f fs (ap not on))
  | inr still ↦
      filter_keep stays (raised d f) (map (raised d) fs) (ap not still)
      ∙ ap (λ g. g ∷ filter stays (map (raised d) fs)) (unraised d f still) ∙ ap (λ gs. f ∷ gs) (stills_raised d fs)
      ∙ sym (filter_keep stays f fs (ap not still))
]

pub pointers_raised : (d : ℕ) (fs : List Field) → pointers (map (raised d) fs) ≡ map (raised d) (pointers fs)
pointers_raised d [] = refl
pointers_raised d (f ∷ fs) = elim (cases_Bool f.recorded) [
  | inl on ↦
      filter_keep (λ f. f.recorded) (raised d f) (map (raised d) fs) on ∙ ap (λ gs. raised d f ∷ gs) (pointers_raised d fs)
      ∙ ap (map (raised d)) (sym (filter_keep (λ f. f.recorded) f fs on))
  | inr still ↦
      filter_drop (λ f. f.recorded) (raised d f) (map (raised d) fs) still ∙ pointers_raised d fs
      ∙ ap (map (raised d)) (sym (filter_drop (λ f. f.recorded) f fs still))
]

pub each-filter : {X : Type 0} (P : X → Type 0) (test : X → Bool) (xs : List X) → Each P xs → Each P (filter test xs)
each-filter P test [] a = tt
each-filter P test (x ∷ xs) a = elim (cases_Bool (test x)) [
  | inl on ↦ rw on (a.0, each-filter P test xs a.1)
  | inr out ↦ rw out (each-filter P test xs a.1)
]

pub each_filtered : {X : Type 0} (test : X → Bool) (xs : List X) → Each (λ x. test x ≡ true) (filter test xs)
each_filtered test [] = tt
each_filtered test (x ∷ xs) = elim (cases_Bool (test x)) [
  | inl on ↦ rw on (on, each_filtered test xs)
  | inr out ↦ rw out (each_filtered test xs)
]
