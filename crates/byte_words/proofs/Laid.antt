-- Laws of bytes laid over a list: what stands where, and that writing them one by one is the same.
use Rattle.std.proofs.Common.{◌≡◌, ℕ, zero, suc, ◌+◌, ◌-◌, ◌<◌, ◌≤◌, List, [], ◌∷◌, ◌++◌, length, take, drop, get_or, refl, sym, ap, ◌∙◌, arith, inl, inr}
use Rattle.std.specs.Prelude.{slice_set}
use Rattle.std.proofs.lemmas.Bool.{cases_lt}
use Rattle.std.proofs.lemmas.Grind.{common_steps}
use Rattle.std.proofs.lemmas.List.{length-take, length-append, length-drop, get_or_append_left, get_or-append_right, get_or-take, get_or-drop}
use Rattle.byte_words.specs.ByteMap.{overwritten}
use Rattle.byte_words.specs.Patches.{Patch, patched, laid}
use Rattle.byte_words.proofs.Painting.{patched_on, patched_off, spans_within, spans_below, spans_past}

-- there are as many bytes as before
pub length-laid : (old : List ℕ) (at : ℕ) (bytes : List ℕ) → at + length bytes ≤ length old → length (laid old at bytes) ≡ length old
length-laid old at bytes fits =
    omega (arith, length-append (take at old) (bytes ++ drop (at + length bytes) old), length-append bytes (drop (at + length bytes) old), length-take at old, length-drop (at + length bytes) old)

-- before the bytes stands what stood there
pub laid_before : (old : List ℕ) (at : ℕ) (bytes : List ℕ) → at + length bytes ≤ length old → (i : ℕ) → i < at → get_or (laid old at bytes) i 0 ≡ get_or old i 0
laid_before old at bytes fits i lt =
    let prefix : length (take at old) ≡ at = omega (arith, length-take at old) in
    let left : get_or (laid old at bytes) i 0 ≡ get_or (take at old) i 0 = get_or_append_left (take at old) (bytes ++ drop (at + length bytes) old) 0 i (omega arith) in
    left ∙ get_or-take at old i 0 lt

behind : (old : List ℕ) (at : ℕ) (bytes : List ℕ) → at + length bytes ≤ length old → (i : ℕ) → at ≤ i → get_or (laid old at bytes) i 0 ≡ get_or (bytes ++ drop (at + length bytes) old) (i - at) 0
behind old at bytes fits i from =
    let prefix : length (take at old) ≡ at = omega (arith, length-take at old) in
    get_or-append_right (take at old) (bytes ++ drop (at + length bytes) old) at i 0 prefix from

-- then the bytes
pub laid_inside : (old : List ℕ) (at : ℕ) (bytes : List ℕ) → at + length bytes ≤ length old → (i : ℕ) → at ≤ i → i < at + length bytes → get_or (laid old at bytes) i 0 ≡ get_or bytes (i - at) 0
laid_inside old at bytes fits i from to =
    behind old at bytes fits i from ∙ get_or_append_left bytes (drop (at + length bytes) old) 0 (i - at) (omega arith)

-- and behind them what stood there
pub laid_past : (old : List ℕ) (at : ℕ) (bytes : List ℕ) → at + length bytes ≤ length old → (i : ℕ) → at + length bytes ≤ i → get_or (laid old at bytes) i 0 ≡ get_or old i 0
laid_past old at bytes fits i past =
    let same : (at + length bytes) + ((i - at) - length bytes) ≡ i = omega arith in
    behind old at bytes fits i (omega arith)
    ∙ get_or-append_right bytes (drop (at + length bytes) old) (length bytes) (i - at) 0 refl (omega arith)
    ∙ get_or-drop (at + length bytes) old ((i - at) - length bytes) 0
    ∙ ap (λ k. get_or old k 0) same

-- ---- it is a patch on what the list held

pub laid_is_patched : (old : List ℕ) (p : Patch) → p.at + length p.bytes ≤ length old → (i : ℕ) → get_or (laid old p.at p.bytes) i 0 ≡ patched p (λ k. get_or old k 0) i
laid_is_patched old p fits i = elim (cases_lt i p.at) [
  | inl lt ↦ laid_before old p.at p.bytes fits i lt ∙ sym (patched_off p (λ k. get_or old k 0) i (spans_below p i lt))
  | inr from ↦ (elim (cases_lt i (p.at + length p.bytes)) [
    | inl to ↦ laid_inside old p.at p.bytes fits i from to ∙ sym (patched_on p (λ k. get_or old k 0) i (spans_within p i (record { from = from; to = to })))
    | inr past ↦ laid_past old p.at p.bytes fits i past ∙ sym (patched_off p (λ k. get_or old k 0) i (spans_past p i past))
  ])
]

pub laid_picture : (old : List ℕ) (p : Patch) → p.at + length p.bytes ≤ length old → (λ i. get_or (laid old p.at p.bytes) i 0) ≡ patched p (λ i. get_or old i 0)
laid_picture old p fits = λ i k. laid_is_patched old p fits k i

-- ---- the bytes written one by one

pub length-overwritten : (bytes : List ℕ) (at : ℕ) (vs : List ℕ) → length (overwritten bytes at vs) ≡ length bytes
length-overwritten bytes at [] = refl
length-overwritten bytes at (v ∷ vs) = grind (arith, common_steps, length-overwritten bytes (at + 1) vs)

overwritten_behind : (x : ℕ) (bytes : List ℕ) (at : ℕ) (vs : List ℕ) → overwritten (x ∷ bytes) (suc at) vs ≡ x ∷ overwritten bytes at vs
overwritten_behind x bytes at [] = refl
overwritten_behind x bytes at (v ∷ vs) =
    let next : suc at + 1 ≡ suc (at + 1) = omega arith in
    ap (λ k. slice_set (overwritten (x ∷ bytes) k vs) (suc at) v) next
    ∙ ap (λ bs. slice_set bs (suc at) v) (overwritten_behind x bytes (at + 1) vs)

all_of : (bytes : List ℕ) → bytes ≡ laid bytes 0 []
all_of [] = refl
all_of (x ∷ bytes) = refl

laid_first : (x : ℕ) (bytes : List ℕ) (v : ℕ) (vs : List ℕ) → v ∷ laid bytes 0 vs ≡ laid (x ∷ bytes) 0 (v ∷ vs)
laid_first x bytes v vs =
    let none : take 0 bytes ≡ [] = take_none bytes in
    let on : suc (0 + length vs) ≡ 0 + length (v ∷ vs) = omega arith in
    (λ i. v ∷ none i ++ (vs ++ drop (0 + length vs) bytes)) ∙ ap (λ k. v ∷ (vs ++ drop k (x ∷ bytes))) on
  where
    take_none : (bytes : List ℕ) → take 0 bytes ≡ []
    take_none [] = refl
    take_none (y ∷ bytes) = refl

laid_behind : (x : ℕ) (bytes : List ℕ) (at : ℕ) (vs : List ℕ) → x ∷ laid bytes at vs ≡ laid (x ∷ bytes) (suc at) vs
laid_behind x bytes at vs =
    let on : suc (at + length vs) ≡ suc at + length vs = omega arith in
    ap (λ k. x ∷ (take at bytes ++ (vs ++ drop k (x ∷ bytes)))) on

-- where they fit, they are laid over the list
pub overwritten_is_laid : (bytes : List ℕ) (at : ℕ) (vs : List ℕ) → at + length vs ≤ length bytes → overwritten bytes at vs ≡ laid bytes at vs
overwritten_is_laid bytes zero [] fits = all_of bytes
overwritten_is_laid [] zero (v ∷ vs) fits = absurd (omega arith)
overwritten_is_laid (x ∷ bytes) zero (v ∷ vs) fits =
    ap (λ bs. slice_set bs 0 v) (overwritten_behind x bytes 0 vs)
    ∙ ap (λ bs. v ∷ bs) (overwritten_is_laid bytes 0 vs (omega arith))
    ∙ laid_first x bytes v vs
overwritten_is_laid [] (suc at) vs fits = absurd (omega arith)
overwritten_is_laid (x ∷ bytes) (suc at) vs fits =
    overwritten_behind x bytes at vs ∙ ap (λ bs. x ∷ bs) (overwritten_is_laid bytes at vs (omega arith)) ∙ laid_behind x bytes at vs
