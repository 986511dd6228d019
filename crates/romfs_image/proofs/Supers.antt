-- The superblock of an image that is made has no fault.
use Rattle.std.proofs.Common.{◌≡◌, ℕ, ◌+◌, ◌%◌, ◌^◌, ◌<◌, true, false, List, ◌++◌, length, take, drop, refl, ap, ◌∙◌, arith}
use Rattle.std.specs.Prelude.{None, codes, nat_lt, bytes_eq}
use Rattle.std.proofs.lemmas.Bool.{le-ltb, eq-eqb}
use Rattle.std.proofs.lemmas.List.{take_all}
use Rattle.byte_words.specs.Numbers.{number_at}
use Rattle.romfs_image.specs.Words.{word_sum}
use Rattle.romfs_image.specs.Header.{name_at, name_end}
use Rattle.romfs_image.specs.Fault.{sums_to_zero, full_size, image_of, super_fault}
use Rattle.romfs_image.specs.Text.{balance, super_text, image_text}
use Rattle.romfs_image.proofs.Written.{word_low}

-- how many bytes
super_len : (full sum : ℕ) (list : List ℕ) → length (super_text full sum ++ list) ≡ 32 + length list
super_len full sum list = omega arith

super_full : (full sum : ℕ) (list : List ℕ) → full < 2 ^ 32 → full_size (super_text full sum ++ list) ≡ full
unfolding number_at
super_full full sum list small = omega (arith, word_low full, small)

super_end : (full sum : ℕ) (list : List ℕ) → name_end (super_text full sum ++ list) 0 ≡ 32
unfolding name_end name_at
super_end full sum list = refl

super_words : (full sum : ℕ) (list : List ℕ) → sum < 2 ^ 32 → word_sum (take 512 (super_text full sum ++ list)) ≡ word_sum (take 512 (super_text full 0 ++ list)) + sum
super_words full sum list small = omega (arith, word_low sum, small)

super_sum : (full : ℕ) (list : List ℕ) → word_sum (take 512 (super_text full (balance (word_sum (take 512 (super_text full 0 ++ list)))) ++ list)) % 2 ^ 32 ≡ 0
super_sum full list =
    let plain = word_sum (take 512 (super_text full 0 ++ list)) in
    let small : balance plain < 2 ^ 32 = omega arith in
    ap (λ n. n % 2 ^ 32) (super_words full (balance plain) list small) ∙ balanced plain
  where
    balanced : (n : ℕ) → (n + balance n) % 2 ^ 32 ≡ 0
    balanced n = omega arith

pub text_end : (list : List ℕ) → name_end (image_text list) 0 ≡ 32
unfolding image_text
text_end list = super_end (32 + length list) (balance (word_sum (take 512 (super_text (32 + length list) 0 ++ list)))) list

pub length-text : (list : List ℕ) → length (image_text list) ≡ 32 + length list
unfolding image_text
length-text list = super_len (32 + length list) (balance (word_sum (take 512 (super_text (32 + length list) 0 ++ list)))) list

pub text_behind : (list : List ℕ) → drop 32 (image_text list) ≡ list
unfolding image_text
text_behind list = refl

text_full : (list : List ℕ) → 32 + length list < 2 ^ 32 → full_size (image_text list) ≡ 32 + length list
unfolding image_text
text_full list small = super_full (32 + length list) (balance (word_sum (take 512 (super_text (32 + length list) 0 ++ list)))) list small

-- the image is all of it
pub text_image : (list : List ℕ) → 32 + length list < 2 ^ 32 → image_of (image_text list) ≡ image_text list
unfolding image_of
text_image list small = take_all (full_size (image_text list)) (image_text list) (omega (arith, text_full list small, length-text list))

text_summed : (list : List ℕ) → sums_to_zero (take 512 (image_text list)) ≡ true
unfolding image_text sums_to_zero
text_summed list = eq-eqb (word_sum (take 512 (super_text (32 + length list) (balance (word_sum (take 512 (super_text (32 + length list) 0 ++ list)))) ++ list)) % 2 ^ 32) 0 (super_sum (32 + length list) list)

text_magic : (list : List ℕ) → bytes_eq (take 8 (image_text list)) (codes "-rom1fs-") ≡ true
unfolding image_text
text_magic list = refl

pub text_sound : (list : List ℕ) → 32 + length list < 2 ^ 32 → super_fault (image_text list) ≡ None
unfolding super_fault
text_sound list small =
    let y = image_text list in
    let len = length-text list in
    let full = text_full list small in
    let image = text_image list small in
    let long : nat_lt (length y) 32 ≡ false = le-ltb (length y) 32 (omega (arith, len)) in
    let large : nat_lt (full_size y) 32 ≡ false = le-ltb (full_size y) 32 (omega (arith, full)) in
    let within : nat_lt (length y) (full_size y) ≡ false = le-ltb (length y) (full_size y) (omega (arith, full, len)) in
    let summed : sums_to_zero (take 512 (image_of y)) ≡ true = ap (λ z. sums_to_zero (take 512 z)) image ∙ text_summed list in
    let named : nat_lt (length (image_of y)) (name_end (image_of y) 0) ≡ false =
    ap (λ z. nat_lt (length z) (name_end z 0)) image ∙ le-ltb (length y) (name_end y 0) (omega (arith, text_end list, len)) in
    rw (long, text_magic list, large, within, summed, named) refl
