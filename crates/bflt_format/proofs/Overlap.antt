-- Overlap of records by marks: the byte at p is marked where an earlier record's word covers it.
use Rattle.std.proofs.Common.{◌≡◌, ℕ, zero, suc, ◌+◌, ◌-◌, ◌<◌, ◌≤◌, Bool, true, false, ◌&&◌, ◌||◌, ltb, leb, List, [], ◌∷◌, length, get_or, replicate, refl, sym, ap, ◌∙◌, arith, inl, inr}
use Rattle.std.proofs.lemmas.Bool.{cases_Bool}
use Rattle.std.proofs.lemmas.Bool.Decides.{nat_tests}
use Rattle.byte_words.specs.Search.{any_below}
use Rattle.byte_words.specs.Patches.{Patch, spans, patched, laid}
use Rattle.bflt_format.specs.Fault.{is_near, meets_earlier}
use Rattle.byte_words.proofs.Searches.{any_below_next, any_below_same, any_below_or}
use Rattle.byte_words.proofs.Painting.{within, patched_on, patched_off}
use Rattle.byte_words.proofs.Laid.{laid_is_patched}

-- the word at place r has the byte at p
abbrev pub covers : ℕ → ℕ → Bool
covers r p = leb r p && ltb p (r + 4)

pub near_is_covered : (p q : ℕ) → is_near p q ≡ (covers p q || covers p (q + 3))
unfolding is_near
near_is_covered p q = grind (arith, nat_tests)

-- the marks after i records
pub record AreMarks (covered records : List ℕ) (i : ℕ) : Type 0 where
  pub each : (p : ℕ) → ltb 0 (get_or covered p 0) ≡ any_below (λ j. covers (get_or records j 0) p) i

pub meets_by_marks : (covered records : List ℕ) (i : ℕ) → AreMarks covered records i
    → meets_earlier records i ≡ (ltb 0 (get_or covered (get_or records i 0) 0) || ltb 0 (get_or covered (get_or records i 0 + 3) 0))
unfolding meets_earlier
meets_by_marks covered records i marks =
    let r = get_or records i 0 in
    any_below_same (λ j. is_near (get_or records j 0) r) (λ j. covers (get_or records j 0) r || covers (get_or records j 0) (r + 3)) i (λ j lt. near_is_covered (get_or records j 0) r)
    ∙ any_below_or (λ j. covers (get_or records j 0) r) (λ j. covers (get_or records j 0) (r + 3)) i
    ∙ rw (marks.each r, marks.each (r + 3)) refl

abbrev ones : List ℕ
ones = 1 ∷ 1 ∷ 1 ∷ 1 ∷ []

one_at : (k : ℕ) → k < 4 → get_or ones k 0 ≡ 1
one_at zero lt = refl
one_at (suc zero) lt = refl
one_at (suc (suc zero)) lt = refl
one_at (suc (suc (suc zero))) lt = refl
one_at (suc (suc (suc (suc k)))) lt = absurd (omega arith)

covers_spans : (r p : ℕ) → spans (record { at = r; bytes = ones }) p ≡ covers r p
unfolding spans
covers_spans r p = refl

or_true : (b : Bool) → (b || true) ≡ true
or_true true = refl
or_true false = refl

or_false : (b : Bool) → (b || false) ≡ b
or_false true = refl
or_false false = refl

zeros : (n p : ℕ) → let none : ℕ = 0 in get_or (replicate n none) p none ≡ none
zeros zero p = refl
zeros (suc n) zero = refl
zeros (suc n) (suc p) = zeros n p

pub no_marks : (n : ℕ) (records : List ℕ) → let none : ℕ = 0 in AreMarks (replicate n none) records 0
unfolding any_below
no_marks n records = record { each = λ p. ap (ltb 0) (zeros n p) }

pub marks_more : (covered records : List ℕ) (i : ℕ) → AreMarks covered records i → get_or records i 0 + 4 ≤ length covered
    → AreMarks (laid covered (get_or records i 0) ones) records (i + 1)
marks_more covered records i marks fits = record {
  each = λ p.
      let r = get_or records i 0 in
      let mark : Patch = record { at = r; bytes = ones } in
      let tests : ℕ → Bool = λ j. covers (get_or records j 0) p in
      let now : get_or (laid covered r ones) p 0 ≡ patched mark (λ k. get_or covered k 0) p = laid_is_patched covered mark fits p in
      elim (cases_Bool (covers r p)) [
        | inl on ↦
            let here = covers_spans r p ∙ on in
            let one = patched_on mark (λ k. get_or covered k 0) p here ∙ one_at (p - r) (let w = within mark p here in omega (arith, w.from, w.to)) in
            ap (ltb 0) (now ∙ one) ∙ sym (any_below_next tests i ∙ ap (λ b. any_below tests i || b) on ∙ or_true (any_below tests i))
        | inr off ↦
            let same = patched_off mark (λ k. get_or covered k 0) p (covers_spans r p ∙ off) in
            ap (ltb 0) (now ∙ same) ∙ marks.each p ∙ sym (any_below_next tests i ∙ ap (λ b. any_below tests i || b) off ∙ or_false (any_below tests i))
      ];
}
