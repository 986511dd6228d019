-- Numbers before a byte, spelled and read.
use Rattle.std.proofs.Common.{◌≡◌, ℕ, zero, suc, ◌-◌, ◌^◌, ◌<◌, ◌≤◌, min, false, List, [], ◌∷◌, ◌++◌, length, replicate, Some, None, refl, ap, ◌∙◌, subst, arith}
use Rattle.std.specs.Prelude.{decimal, option_map}
use Rattle.std.specs.Char.{digit_value}
use Rattle.std.specs.Fmt.{digits}
use Rattle.std.specs.Str.Parse.{AllDigits, digits_value}
use Rattle.std.proofs.lemmas.Fmt.{decimal_is_IsNumeral, digits_is_IsNumeral}
use Rattle.call_log.specs.Lines.{word_digits}
use Rattle.items_text.specs.Pieces.{Front, cut_at, number_at, most_word}
use Rattle.items_text.proofs.Cuts.{Lacks, cut_again}

-- ---- what digits lack

pub lacks_append : (c : ℕ) (xs ys : List ℕ) → Lacks c xs → Lacks c ys → Lacks c (xs ++ ys)
lacks_append c [] ys front back = back
lacks_append c (x ∷ xs) ys front back = (front.0, lacks_append c xs ys front.1 back)

lacks_replicate : (c k x : ℕ) → (x ≡ c → ⊥) → Lacks c (replicate k x)
lacks_replicate c zero x other = tt
lacks_replicate c (suc k) x other = (other, lacks_replicate c k x other)

digits_lack : (c radix : ℕ) (ds : List ℕ) → radix ≤ digit_value c → AllDigits radix ds → Lacks c ds
digits_lack c radix [] high all = tt
digits_lack c radix (d ∷ ds) high all = ((λ (e : d ≡ c). let low = subst (λ (x : ℕ). digit_value x < radix) e all.0 in omega (arith, high, low)), digits_lack c radix ds high all.1)

decimal_lacks : (c n : ℕ) → 10 ≤ digit_value c → n < 2 ^ 64 → Lacks c (decimal n)
decimal_lacks c n high fits = digits_lack c 10 (decimal n) high (decimal_is_IsNumeral n fits).0.1

wide : (n : ℕ) → n < 2 ^ 32 → n < 16 ^ 64
wide n fits = omega (arith, fits)

-- a byte that ends a word: no digit of any base
abbrev pub IsMark : ℕ → Type 0
IsMark c = (16 ≤ digit_value c) × (48 ≡ c → ⊥)

pub word_lacks : (c n : ℕ) → IsMark c → n < 2 ^ 32 → Lacks c (word_digits n)
word_lacks c n mark fits =
    let ds = digits 16 false n in
    lacks_append c (replicate (8 - length ds) 48) ds (lacks_replicate c (8 - length ds) 48 mark.1)
    (digits_lack c 16 ds mark.0 (digits_is_IsNumeral 16 false (omega arith) (omega arith) n (wide n fits)).0.1)

-- ---- their values

leading_zeros : (k : ℕ) (ds : List ℕ) → digits_value 16 (replicate k 48 ++ ds) ≡ digits_value 16 ds
leading_zeros zero ds = refl
leading_zeros (suc k) ds = leading_zeros k ds

word_value : (n : ℕ) → n < 2 ^ 32 → digits_value 16 (word_digits n) ≡ n
word_value n fits = leading_zeros (8 - length (digits 16 false n)) (digits 16 false n) ∙ (digits_is_IsNumeral 16 false (omega arith) (omega arith) n (wide n fits)).1

-- ---- read

number_again : (radix most c : ℕ) (word rest : List ℕ) (n : ℕ) → Lacks c word → digits_value radix word ≡ n → n ≤ most → number_at radix most c (word ++ c ∷ rest) ≡ Some (n, rest)
unfolding number_at
number_again radix most c word rest n lacks is fits =
    let value : min (digits_value radix word) most ≡ n = omega (arith, is, fits) in
    ap (option_map {U = ℕ × List ℕ} (λ (piece : List ℕ × List ℕ). (min (digits_value radix piece.0) most, piece.1))) (cut_again c word rest lacks)
    ∙ ap (λ (m : ℕ). Some (m, rest)) value

pub decimal_again : (most c n : ℕ) (rest : List ℕ) → IsMark c → n < 2 ^ 64 → n ≤ most → number_at 10 most c (decimal n ++ c ∷ rest) ≡ Some (n, rest)
decimal_again most c n rest mark fits small = number_again 10 most c (decimal n) rest n (decimal_lacks c n (omega (arith, mark.0)) fits) (decimal_is_IsNumeral n fits).1 small

pub word_again : (c n : ℕ) (rest : List ℕ) → IsMark c → n < 2 ^ 32 → number_at 16 most_word c (word_digits n ++ c ∷ rest) ≡ Some (n, rest)
word_again c n rest mark fits = number_again 16 most_word c (word_digits n) rest n (word_lacks c n mark fits) (word_value n fits) (omega (arith, fits))

cut_bound : (radix most : ℕ) (o : Front (List ℕ)) (p : ℕ × List ℕ) → option_map {U = ℕ × List ℕ} (λ (piece : List ℕ × List ℕ). (min (digits_value radix piece.0) most, piece.1)) o ≡ Some p → p.0 ≤ most
cut_bound radix most None p h = absurd cc
cut_bound radix most (Some piece) p h = let same : ◌≡◌ {A = ℕ × List ℕ} (min (digits_value radix piece.0) most, piece.1) p = cc in let value : min (digits_value radix piece.0) most ≡ p.0 = ap (λ (q : ℕ × List ℕ). q.0) same in omega (arith, value)

pub number_bound : (radix most c : ℕ) (text : List ℕ) (p : ℕ × List ℕ) → number_at radix most c text ≡ Some p → p.0 ≤ most
unfolding number_at
number_bound radix most c text p h = cut_bound radix most (cut_at c text) p h

pub space_mark : IsMark 32
space_mark = (omega arith, λ (e : 48 ≡ 32). omega (arith, e))

pub line_mark : IsMark 10
line_mark = (omega arith, λ (e : 48 ≡ 10). omega (arith, e))

pub colon_mark : IsMark 58
colon_mark = (omega arith, λ (e : 48 ≡ 58). omega (arith, e))
