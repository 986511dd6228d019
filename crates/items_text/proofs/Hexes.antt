-- Bytes of two lower case digits each, spelled and read.
use Rattle.std.proofs.Common.{◌≡◌, ◌≢◌, ℕ, zero, suc, ◌+◌, ◌-◌, ◌*◌, ◌/◌, ◌%◌, ◌<◌, ◌≤◌, ◌==◌, Bool, true, false, cond, ◌&&◌, inl, inr, List, [], ◌∷◌, length, slice_index, Option, Some, None, Result, Ok, Err, refl, sym, ap, ◌∙◌, arith, nat_lt}
use Rattle.std.specs.Char.{digit_char}
use Rattle.std.specs.List.{list_all}
use Rattle.std.specs.Result.{result_ok}
use Rattle.std.proofs.lemmas.Bool.{and_parts, both_ways, cases_lt, eqb-true}
use Rattle.hex.specs.Hex.{IsBytes, decode_of, decode_pairs, digit_or_error, encode_lower, encode_with, hex_digit_value, lower_digits, pair_value, value_at}
use Rattle.hex.specs.declared.error.FromHexError.{FromHexError}
use Rattle.hex.proofs.Pairs.{cons_byte, decode_pairs-ok_pair}
use Rattle.hex.proofs.HexLemmas.{decode_of-encode_lower, decode_pairs-ok, length-encode_with}
use Rattle.items_text.specs.Items.{AreBytes}
use Rattle.items_text.specs.Pieces.{is_lower_digit, hex_of}
use Rattle.items_text.proofs.Cuts.{Lacks}

-- ---- bytes, by index and one by one

pub by_index : (xs : List ℕ) → AreBytes xs → IsBytes xs
by_index [] h i = omega arith
by_index (x ∷ xs) h zero = omega (arith, h.0)
by_index (x ∷ xs) h (suc i) = by_index xs h.1 i

one_by_one : (xs : List ℕ) → IsBytes xs → AreBytes xs
one_by_one [] h = tt
one_by_one (x ∷ xs) h = (omega (arith, h 0), one_by_one xs (λ i. h (suc i)))

-- ---- the sixteen digits

abbrev below : (ℕ → Bool) → ℕ → Bool
below p zero = true
below p (suc n) = p n && below p n

at_below : (p : ℕ → Bool) (n k : ℕ) → below p n ≡ true → k < n → p k ≡ true
at_below p zero k h lt = absurd (omega arith)
at_below p (suc n) k h lt =
    let parts = and_parts (p n) (below p n) h in
    elim (cases_lt k n) [
      | inl less ↦ at_below p n k parts.1 less
      | inr top ↦ let same : k ≡ n = omega arith in rw same parts.0
    ]

lower_at : (d : ℕ) → d < 16 → is_lower_digit (slice_index lower_digits d) ≡ true
lower_at d small = at_below (λ k. is_lower_digit (slice_index lower_digits k)) 16 d refl small

glyph_at : (d : ℕ) → d < 16 → slice_index lower_digits d ≡ digit_char d
glyph_at d small = eqb-true (slice_index lower_digits d) (digit_char d) (at_below (λ k. slice_index lower_digits k == digit_char k) 16 d refl small)

-- a lower case digit is the one that spells its value
pub record Digit (c : ℕ) : Type 0 where
  value : ℕ
  small : value < 16
  read : hex_digit_value c ≡ Some value
  spelled : slice_index lower_digits value ≡ c

is_digit : (c v : ℕ) → v < 16 → hex_digit_value c ≡ Some v → digit_char v ≡ c → Digit c
is_digit c v small read spelled = record { value = v; small = small; read = read; spelled = glyph_at v small ∙ spelled }

lower_digit : (c : ℕ) → is_lower_digit c ≡ true → Digit c
lower_digit c is = elim (cases_lt c 58) [
  | inl number ↦ let from : 48 ≤ c = grind (arith) in is_digit c (c - 48) (omega (arith, from, number)) (grind (arith)) (grind (arith))
  | inr letter ↦ let from : (97 ≤ c) × (c ≤ 102) = grind (arith) in is_digit c (c - 87) (omega (arith, from.0, from.1)) (grind (arith)) (grind (arith))
]

-- ---- spelled, and then read

pub lower_encode : (xs : List ℕ) → AreBytes xs → list_all is_lower_digit (encode_lower xs) ≡ true
unfolding encode_with
lower_encode [] h = refl
lower_encode (x ∷ xs) h =
    let high = lower_at (x / 16) (omega (arith, h.0)) in
    let low = lower_at (x % 16) (omega arith) in
    rw (high, low) (lower_encode xs h.1)

-- digits have no other byte
pub lower_lacks : (c : ℕ) (xs : List ℕ) → is_lower_digit c ≡ false → list_all is_lower_digit xs ≡ true → Lacks c xs
lower_lacks c [] other all = tt
lower_lacks c (x ∷ xs) other all =
    let both = and_parts (is_lower_digit x) (list_all is_lower_digit xs) all in
    ((λ (e : x ≡ c). both_ways (is_lower_digit x) (ap is_lower_digit e ∙ other) both.0), lower_lacks c xs other both.1)

pub hex_again : (b : ℕ) (bs : List ℕ) → AreBytes (b ∷ bs) → hex_of (encode_lower (b ∷ bs)) ≡ Some (b ∷ bs)
unfolding hex_of
hex_again b bs h =
    let word : List ℕ = encode_lower (b ∷ bs) in
    let long : length word ≡ 2 * length (b ∷ bs) = length-encode_with lower_digits (b ∷ bs) in
    let some : nat_lt 0 (length word) ≡ true = grind (arith) in
    let test : (nat_lt 0 (length word) && list_all is_lower_digit word) ≡ true = rw (some, lower_encode (b ∷ bs) h) refl in
    ap (λ (t : Bool). cond t (result_ok (decode_of word)) None) test
    ∙ ap result_ok (decode_of-encode_lower (b ∷ bs) (by_index (b ∷ bs) h))

-- ---- read, and then spelled

no_pairs : (bytes : List ℕ) → ◌≡◌ {A = Result (List ℕ) FromHexError} (Ok []) (Ok bytes) → bytes ≡ []
no_pairs bytes h = cc

one_pair : (high low : ℕ) (rest bytes : List ℕ) (v w : ℕ) (r : Result (List ℕ) FromHexError) → v < 16 → w < 16 → slice_index lower_digits v ≡ high → slice_index lower_digits w ≡ low
    → ((bs : List ℕ) → r ≡ Ok bs → encode_lower bs ≡ rest) → cons_byte (v * 16 + w) r ≡ Ok bytes → encode_lower bytes ≡ high ∷ low ∷ rest
unfolding encode_with
one_pair high low rest bytes v w (Ok bs) sv sw eh el more h =
    let is : (v * 16 + w) ∷ bs ≡ bytes = cc in
    let front : (v * 16 + w) / 16 ≡ v = omega (arith, sv, sw) in
    let back : (v * 16 + w) % 16 ≡ w = omega (arith, sv, sw) in
    ap encode_lower (sym is)
    ∙ (λ i. slice_index lower_digits (front i) ∷ slice_index lower_digits (back i) ∷ encode_lower bs)
    ∙ (λ i. eh i ∷ el i ∷ more bs refl i)
one_pair high low rest bytes v w (Err e) sv sw eh el more h = absurd cc

pairs_spelled : (i : ℕ) (word bytes : List ℕ) → list_all is_lower_digit word ≡ true → decode_pairs i word ≡ Ok bytes → encode_lower bytes ≡ word
unfolding decode_pairs encode_with
pairs_spelled i [] bytes lower h = ap encode_lower (no_pairs bytes h)
pairs_spelled i (c ∷ []) bytes lower h = absurd cc
pairs_spelled i (high ∷ low ∷ rest) bytes lower h =
    let both = and_parts (is_lower_digit high) (list_all is_lower_digit (low ∷ rest)) lower in
    let later = and_parts (is_lower_digit low) (list_all is_lower_digit rest) both.1 in
    let v = lower_digit high both.0 in
    let w = lower_digit low later.0 in
    let ha : value_at high i ≡ Ok v.value = ap (digit_or_error high i) v.read in
    let hb : value_at low (i + 1) ≡ Ok w.value = ap (digit_or_error low (i + 1)) w.read in
    let pair : pair_value high low i ≡ Ok (v.value * 16 + w.value) = rw (ha, hb) refl in
    one_pair high low rest bytes v.value w.value (decode_pairs (i + 2) rest) v.small w.small v.spelled w.spelled
    (λ bs is. pairs_spelled (i + 2) rest bs later.1 is)
    (sym (decode_pairs-ok_pair i high low _ rest pair) ∙ h)

by_cond : {A : Type 0} (b : Bool) (o : Option A) (y : A) → cond b o None ≡ Some y → (b ≡ true) × (o ≡ Some y)
by_cond true o y h = (refl, h)
by_cond false o y h = absurd cc

ok_of : (r : Result (List ℕ) FromHexError) (bytes : List ℕ) → result_ok r ≡ Some bytes → r ≡ Ok bytes
ok_of (Ok bs) bytes h = let is : bs ≡ bytes = cc in ap Ok is
ok_of (Err e) bytes h = absurd cc

even_by : (text bytes : List ℕ) → decode_of text ≡ Ok bytes → decode_pairs 0 text ≡ Ok bytes
even_by text bytes h = grind (arith)

pub record Spelled (word bytes : List ℕ) : Type 0 where
  pub held : AreBytes bytes
  pub some : bytes ≢ []
  pub text : word ≡ encode_lower bytes

pub hex_found : (word bytes : List ℕ) → hex_of word ≡ Some bytes → Spelled word bytes
unfolding hex_of
hex_found word bytes h =
    let test = by_cond (nat_lt 0 (length word) && list_all is_lower_digit word) (result_ok (decode_of word)) bytes h in
    let parts = and_parts (nat_lt 0 (length word)) (list_all is_lower_digit word) test.0 in
    let pairs = even_by word bytes (ok_of (decode_of word) bytes test.1) in
    let ok = decode_pairs-ok 0 word bytes pairs in
    let some : 0 < length word = grind (arith) in
    record {
      held = one_by_one bytes ok.2;
      some = (λ (e : bytes ≡ []). let none : length bytes ≡ 0 = ap length e in omega (arith, some, ok.1, none));
      text = sym (pairs_spelled 0 word bytes parts.1 pairs);
    }
