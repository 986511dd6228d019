-- Big-endian words in lists of bytes.
use Rattle.std.proofs.Common.{◌≡◌, ℕ, zero, suc, ◌+◌, ◌*◌, ◌%◌, ◌^◌, ◌<◌, ◌≤◌, List, [], ◌∷◌, ◌++◌, length, map, take, drop, get_or, refl, ap, ◌∙◌, append_assoc, arith}
use Rattle.std.specs.List.{range_with_len}
use Rattle.std.proofs.lemmas.List.{length-append, get_or-take, get_or-drop, get_or_append_left, get_or-append-add}
use Rattle.std.proofs.lemmas.List.Concat.{flat_map-cons}
use Rattle.std.proofs.lemmas.List.FromFn.{fill_by_all}
use Rattle.byteorder.specs.Endian.{big_number, big_bytes, IsRead}
use Rattle.byte_words.specs.Numbers.{IsBytes}
use Rattle.bflt_format.specs.Numbers.{big_at}
use Rattle.bflt_format.specs.Spelling.{words_text}
use Rattle.byte_words.specs.Numbers.{number_at}

-- the word's four bytes
pub big_at_is : (y : List ℕ) (at : ℕ) → big_at y at ≡ get_or y at 0 * 16777216 + get_or y (at + 1) 0 * 65536 + get_or y (at + 2) 0 * 256 + get_or y (at + 3) 0
unfolding number_at
big_at_is y at =
    let zeroth : get_or (drop at y) 0 0 ≡ get_or y at 0 = get_or-drop at y 0 0 ∙ ap (λ k. get_or y k 0) (let e : at + 0 ≡ at = omega arith in e) in
    omega (arith, zeroth, get_or-drop at y 1 0, get_or-drop at y 2 0, get_or-drop at y 3 0)

pub big_at_fits : (y : List ℕ) (at : ℕ) → IsBytes y → big_at y at < 2 ^ 32
big_at_fits y at bytes = omega (arith, big_at_is y at, bytes at, bytes (at + 1), bytes (at + 2), bytes (at + 3))

-- four equal bytes are one word
pub big_at_same : (y : List ℕ) (a : ℕ) (z : List ℕ) (b : ℕ) → ((i : ℕ) → i < 4 → get_or y (a + i) 0 ≡ get_or z (b + i) 0) → big_at y a ≡ big_at z b
big_at_same y a z b same =
    let zeroth : get_or y a 0 ≡ get_or z b 0 = ap (λ k. get_or y k 0) (let e : a ≡ a + 0 = omega arith in e) ∙ same 0 (omega arith) ∙ ap (λ k. get_or z k 0) (let e : b + 0 ≡ b = omega arith in e) in
    omega (arith, big_at_is y a, big_at_is z b, zeroth, same 1 (omega arith), same 2 (omega arith), same 3 (omega arith))

-- a number, or its lowest 32 bits, is the word of its four bytes
pub big_at_bytes : (n : ℕ) (rest : List ℕ) → big_at (big_bytes 4 n ++ rest) 0 ≡ n % 2 ^ 32
big_at_bytes n rest = omega (arith, big_at_is (big_bytes 4 n ++ rest) 0)

-- what stands behind a prefix
pub big_at_behind : (prefix y : List ℕ) (at : ℕ) → big_at (prefix ++ y) (length prefix + at) ≡ big_at y at
big_at_behind prefix y at = big_at_same (prefix ++ y) (length prefix + at) y at
    (λ i lt. ap (λ k. get_or (prefix ++ y) k 0) (let e : (length prefix + at) + i ≡ length prefix + (at + i) = omega arith in e) ∙ get_or-append-add prefix y (at + i) 0)

-- what stands in a prefix
pub big_at_prefix : (y rest : List ℕ) (at : ℕ) → at + 4 ≤ length y → big_at (y ++ rest) at ≡ big_at y at
big_at_prefix y rest at fits = big_at_same (y ++ rest) at y at (λ i lt. get_or_append_left y rest 0 (at + i) (omega arith))

-- a word of a part of the bytes
pub big_number_part : (y : List ℕ) (start n at : ℕ) → at + 4 ≤ n → big_number 4 (drop at (take n (drop start y))) ≡ big_at y (start + at)
big_number_part y start n at fits =
    let part = take n (drop start y) in
    let whole : big_number 4 (drop at part) ≡ big_at part at = omega (arith, big_at_is part at, zeroth part at, get_or-drop at part 1 0, get_or-drop at part 2 0, get_or-drop at part 3 0) in
    whole ∙ big_at_same part at y (start + at)
    (λ i lt. get_or-take n (drop start y) (at + i) 0 (omega arith) ∙ get_or-drop start y (at + i) 0 ∙ ap (λ k. get_or y k 0) (let e : start + (at + i) ≡ (start + at) + i = omega arith in e))
  where
    zeroth : (part : List ℕ) (at : ℕ) → get_or (drop at part) 0 0 ≡ get_or part at 0
    zeroth part at = get_or-drop at part 0 0 ∙ ap (λ k. get_or part k 0) (let e : at + 0 ≡ at = omega arith in e)

-- numbers read from a part of the bytes, as many as it has
pub numbers_of_part : (y : List ℕ) (start n count : ℕ) (numbers : List ℕ) → length numbers ≡ count → n ≡ 4 * count → IsRead big_number 4 (take n (drop start y)) numbers
    → numbers ≡ map (λ k. big_at y (start + 4 * k)) (range_with_len 0 count)
numbers_of_part y start n count numbers len size read =
    fill_by_all (λ k. big_at y (start + 4 * k)) numbers count 0 len (λ k lt. read k (omega arith) ∙ big_number_part y start n (4 * k) (omega arith))

-- ---- numbers one after the other

pub length-words_text : (ns : List ℕ) → length (words_text ns) ≡ 4 * length ns
length-words_text [] = refl
length-words_text (n ∷ ns) = omega (arith, ap length (flat_map-cons (big_bytes 4) n ns), length-append (big_bytes 4 n) (words_text ns), length-words_text ns)

pub word_of_text : (ns rest : List ℕ) (k : ℕ) → k < length ns → big_at (words_text ns ++ rest) (4 * k) ≡ get_or ns k 0 % 2 ^ 32
word_of_text [] rest k lt = absurd (omega arith)
word_of_text (n ∷ ns) rest zero lt =
    ap (λ y. big_at y 0) (append_assoc (big_bytes 4 n) (words_text ns) rest) ∙ big_at_bytes n (words_text ns ++ rest)
word_of_text (n ∷ ns) rest (suc k) lt =
    ap (λ y. big_at y (4 * suc k)) (append_assoc (big_bytes 4 n) (words_text ns) rest)
    ∙ ap (big_at (big_bytes 4 n ++ (words_text ns ++ rest))) (let e : 4 * suc k ≡ 4 + 4 * k = omega arith in e)
    ∙ big_at_behind (big_bytes 4 n) (words_text ns ++ rest) (4 * k)
    ∙ word_of_text ns rest k (omega arith)
