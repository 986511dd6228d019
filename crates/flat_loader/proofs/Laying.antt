-- Bytes laid right behind bytes that were laid.
use Rattle.std.proofs.Common.{◌≡◌, ℕ, ◌+◌, ◌/◌, ◌%◌, ◌≤◌, List, [], ◌∷◌, ◌++◌, length, take, drop, sym, ap, ◌∙◌, arith, append_assoc, length-append}
use Rattle.std.proofs.lemmas.List.{length-take-le, take_at, drop_at, drop-drop}
use Rattle.byteorder.specs.Endian.{little_bytes}
use Rattle.byte_words.specs.ByteMap.{little_bytes as bytes_of}
use Rattle.byte_words.specs.Patches.{laid}

pub laid_next :
    (m : List ℕ) (a : ℕ) (x y : List ℕ) (n : ℕ) → n ≡ a + length x → a ≤ length m →
    laid (laid m a x) n y ≡ laid m a (x ++ y)
laid_next m a x y n is fits =
    let front = take a m ++ x in
    let len : length front ≡ n = omega (arith, length-append (take a m) x, length-take-le a m fits) in
    let whole : laid m a x ≡ front ++ drop (a + length x) m = sym (append_assoc (take a m) x (drop (a + length x) m)) in
    let before : take n (laid m a x) ≡ front = ap (take n) whole ∙ take_at front (drop (a + length x) m) n len in
    let rest : drop n (laid m a x) ≡ drop (a + length x) m = ap (drop n) whole ∙ drop_at front (drop (a + length x) m) n len in
    let same : a + length x + length y ≡ a + length (x ++ y) = omega (arith, length-append x y) in
    let behind : drop (n + length y) (laid m a x) ≡ drop (a + length (x ++ y)) m =
    sym (drop-drop (length y) n (laid m a x)) ∙ ap (drop (length y)) rest ∙ drop-drop (length y) (a + length x) m ∙ ap (λ k. drop k m) same in
    ap (λ t. t ++ (y ++ drop (n + length y) (laid m a x))) before
    ∙ ap (λ t. front ++ (y ++ t)) behind
    ∙ append_assoc (take a m) x (y ++ drop (a + length (x ++ y)) m)
    ∙ ap (λ t. take a m ++ t) (sym (append_assoc x y (drop (a + length (x ++ y)) m)))

-- the lowest four bytes of a number, by either of their definitions
pub same_bytes : (n : ℕ) → bytes_of 4 n ≡ little_bytes 4 n
same_bytes n =
    let second : n / 256 / 256 ≡ n / 65536 = omega arith in
    let third : n / 256 / 256 / 256 ≡ n / 16777216 = omega arith in
    ap (λ k. n % 256 ∷ n / 256 % 256 ∷ k % 256 ∷ n / 256 / 256 / 256 % 256 ∷ []) second ∙ ap (λ k. n % 256 ∷ n / 256 % 256 ∷ n / 65536 % 256 ∷ k % 256 ∷ []) third
