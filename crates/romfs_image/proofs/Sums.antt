-- The sum of words, taken word by word.
use Rattle.std.proofs.Common.{◌≡◌, ℕ, ◌+◌, ◌<◌, ◌≤◌, List, [], ◌∷◌, length, drop, refl, ap, ◌∙◌, arith}
use Rattle.std.proofs.lemmas.List.{length-drop, drop-drop}
use Rattle.byteorder.specs.Endian.{big_number}
use Rattle.byte_words.specs.Numbers.{number_at}
use Rattle.romfs_image.specs.Words.{big_at, word_sum}

sum_front : (z : List ℕ) → 4 ≤ length z → word_sum z ≡ big_number 4 z + word_sum (drop 4 z)
sum_front [] le = absurd (omega arith)
sum_front (a ∷ []) le = absurd (omega arith)
sum_front (a ∷ b ∷ []) le = absurd (omega arith)
sum_front (a ∷ b ∷ c ∷ []) le = absurd (omega arith)
sum_front (a ∷ b ∷ c ∷ d ∷ rest) le = omega arith

pub sum_short : (z : List ℕ) → length z < 4 → word_sum z ≡ 0
sum_short [] lt = refl
sum_short (a ∷ []) lt = refl
sum_short (a ∷ b ∷ []) lt = refl
sum_short (a ∷ b ∷ c ∷ []) lt = refl
sum_short (a ∷ b ∷ c ∷ d ∷ rest) lt = absurd (omega arith)

-- a word, and those behind it
pub sum_at : (y : List ℕ) (at : ℕ) → at + 4 ≤ length y → word_sum (drop at y) ≡ big_at y at + word_sum (drop (at + 4) y)
unfolding number_at
sum_at y at fits =
    sum_front (drop at y) (omega (arith, length-drop at y))
    ∙ ap (λ z. big_number 4 (drop at y) + word_sum z) (drop-drop 4 at y)
