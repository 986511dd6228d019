-- A header's text in longer bytes, read again.
use Rattle.std.proofs.Common.{◌≡◌, ℕ, suc, ◌+◌, ◌-◌, ◌*◌, ◌/◌, ◌%◌, ◌^◌, ◌<◌, ◌≤◌, true, false, ◌&&◌, ◌==◌, not, List, [], ◌∷◌, ◌++◌, length, take, drop, replicate, append_assoc, refl, sym, ap, ◌∙◌, arith}
use Rattle.std.specs.Prelude.{None, nat_lt, nat_le}
use Rattle.std.specs.List.{list_any, list_all, before_first, position_or_len}
use Rattle.std.proofs.lemmas.Bool.Decides.{nat_tests}
use Rattle.std.proofs.lemmas.Bool.{or_parts, and_parts, le-ltb, lt-leb, eq-eqb, ltb-true, leb-true, not-true}
use Rattle.std.proofs.lemmas.List.{length-drop, length-append, drop-drop, drop_at, take_at}
use Rattle.byteorder.specs.Endian.{big_number}
use Rattle.byte_words.specs.Numbers.{number_at}
use Rattle.romfs_image.specs.Words.{big_at, word_sum, padded}
use Rattle.romfs_image.specs.Header.{Header, name_at, name_end, header_bytes, header_at}
use Rattle.romfs_image.specs.Fault.{sums_to_zero, is_dots, is_bad_name, header_fault}
use Rattle.romfs_image.specs.Text.{balance, name_text, header_text, header_len}
use Rattle.romfs_image.specs.Given.{is_name}
use Rattle.romfs_image.proofs.TextLengths.{length-header_text}

-- ---- names

-- what the condition says of a name
pub record IsName (name : List ℕ) : Type 0 where
  pub some : 0 < length name
  pub few : length name ≤ 255
  pub ended : list_any (λ b. b == 0) name ≡ false
  pub whole : list_any (λ b. b == 47) name ≡ false
  pub other : is_dots name ≡ false

ended_bytes : (name : List ℕ) → list_all (λ b. nat_lt b 256 && not (b == 0) && not (b == 47)) name ≡ true → (list_any (λ b. b == 0) name ≡ false) × (list_any (λ b. b == 47) name ≡ false)
ended_bytes [] all = (refl, refl)
ended_bytes (b ∷ name) all =
    let parts = and_parts (nat_lt b 256 && not (b == 0) && not (b == 47)) (list_all (λ b. nat_lt b 256 && not (b == 0) && not (b == 47)) name) all in
    let front = and_parts (nat_lt b 256 && not (b == 0)) (not (b == 47)) parts.0 in
    let zero = not-true (b == 0) (and_parts (nat_lt b 256) (not (b == 0)) front.0).1 in
    let slash = not-true (b == 47) front.1 in
    let rest = ended_bytes name parts.1 in
    (rw (zero, rest.0) refl, rw (slash, rest.1) refl)

pub name_is : (name : List ℕ) → is_name name ≡ true → IsName name
unfolding is_name
name_is name is =
    let sized = nat_lt 0 (length name) && nat_le (length name) 255 in
    let bytes = list_all (λ b. nat_lt b 256 && not (b == 0) && not (b == 47)) name in
    let front = and_parts (sized && bytes) (not (is_dots name)) is in
    let second = and_parts sized bytes front.0 in
    let third = and_parts (nat_lt 0 (length name)) (nat_le (length name) 255) second.0 in
    let each = ended_bytes name second.1 in
    record {
      some = ltb-true 0 (length name) third.0;
      few = leb-true (length name) 255 third.1;
      ended = each.0;
      whole = each.1;
      other = not-true (is_dots name) front.1;
    }

before_zero : (name rest : List ℕ) → list_any (λ b. b == 0) name ≡ false → before_first (λ b. b == 0) (name ++ 0 ∷ rest) ≡ name
before_zero [] rest none = refl
before_zero (b ∷ name) rest none =
    let parts = or_parts (b == 0) (list_any (λ b. b == 0) name) none in
    let more : 1 + position_or_len (λ c. c == 0) (name ++ 0 ∷ rest) ≡ suc (position_or_len (λ c. c == 0) (name ++ 0 ∷ rest)) = omega arith in
    rw parts.0 (ap (λ k. take k (b ∷ (name ++ 0 ∷ rest))) more ∙ ap (λ n. b ∷ n) (before_zero name rest parts.1))

-- ---- words

word_back : (n : ℕ) → n < 2 ^ 32 → n / 16777216 % 256 * 16777216 + n / 65536 % 256 * 65536 + n / 256 % 256 * 256 + n % 256 ≡ n
word_back n lt = omega arith

pub word_low : (n : ℕ) → n / 16777216 % 256 * 16777216 + n / 65536 % 256 * 65536 + n / 256 % 256 * 256 + n % 256 ≡ n % 2 ^ 32
word_low n = omega arith

-- ---- a header

-- behind some bytes at a position
pub behind_front : (y front rest : List ℕ) (at len : ℕ) → length front ≡ len → drop at y ≡ front ++ rest → drop (at + len) y ≡ rest
behind_front y front rest at len is here = sym (drop-drop len at y) ∙ ap (drop len) here ∙ drop_at front rest len is

-- a header's text stands at a position
pub record Stands (y : List ℕ) (at word info size : ℕ) (name rest : List ℕ) : Type 0 where
  pub here : drop at y ≡ header_text word info size name ++ rest
  pub small_word : word < 2 ^ 32
  pub small_size : size < 2 ^ 32
  pub ended : list_any (λ b. b == 0) name ≡ false

big_front : (y z : List ℕ) (at by : ℕ) → drop at y ≡ z → big_at y (at + by) ≡ big_number 4 (drop by z)
unfolding number_at
big_front y z at by here = ap (big_number 4) (sym (drop-drop by at y) ∙ ap (drop by) here)

first_word : (word info size : ℕ) (name rest : List ℕ) → big_number 4 (header_text word info size name ++ rest) ≡ word % 2 ^ 32
unfolding header_text
first_word word info size name rest = omega (arith, word_low word)

second_word : (word info size : ℕ) (name rest : List ℕ) → big_number 4 (drop 4 (header_text word info size name ++ rest)) ≡ info % 2 ^ 32
unfolding header_text
second_word word info size name rest = omega (arith, word_low info)

third_word : (word info size : ℕ) (name rest : List ℕ) → big_number 4 (drop 8 (header_text word info size name ++ rest)) ≡ size % 2 ^ 32
unfolding header_text
third_word word info size name rest = omega (arith, word_low size)

name_part : (word info size : ℕ) (name rest : List ℕ)
    → drop 16 (header_text word info size name ++ rest) ≡ name ++ 0 ∷ (replicate (padded (length (name ++ 0 ∷ [])) - length (name ++ 0 ∷ [])) 0 ++ rest)
unfolding header_text
name_part word info size name rest =
    let zeros = replicate (padded (length (name ++ 0 ∷ [])) - length (name ++ 0 ∷ [])) 0 in
    append_assoc (name ++ 0 ∷ []) zeros rest ∙ append_assoc name (0 ∷ []) (zeros ++ rest)

pub name_back : (y : List ℕ) (at word info size : ℕ) (name rest : List ℕ) → Stands y at word info size name rest → name_at y at ≡ name
unfolding name_at
name_back y at word info size name rest is =
    ap (before_first (λ b. b == 0)) (sym (drop-drop 16 at y) ∙ ap (drop 16) is.here ∙ name_part word info size name rest)
    ∙ before_zero name (replicate (padded (length (name ++ 0 ∷ [])) - length (name ++ 0 ∷ [])) 0 ++ rest) is.ended

pub end_back : (y : List ℕ) (at word info size : ℕ) (name rest : List ℕ) → Stands y at word info size name rest → name_end y at ≡ at + header_len name
unfolding name_end
end_back y at word info size name rest is =
    ap (λ n. at + 16 + padded (length n + 1)) (name_back y at word info size name rest is) ∙ (let e : at + 16 + padded (length name + 1) ≡ at + header_len name = omega arith in e)

-- the header that is read
abbrev pub read_header : (at word info size : ℕ) (name : List ℕ) → Header
read_header at word info size name = record {
  next = word / 16 * 16;
  kind = word % 8;
  exec = word / 8 % 2 == 1;
  info = info % 2 ^ 32 / 16 * 16;
  size = size;
  name = name;
  body = at + header_len name;
}

pub header_back : (y : List ℕ) (at word info size : ℕ) (name rest : List ℕ) → Stands y at word info size name rest → header_at y at ≡ read_header at word info size name
unfolding header_at number_at
header_back y at word info size name rest is =
    let w : big_at y at ≡ word = ap (big_number 4) is.here ∙ first_word word info size name rest ∙ (let e : word % 2 ^ 32 ≡ word = omega (arith, is.small_word) in e) in
    let f : big_at y (at + 4) ≡ info % 2 ^ 32 = big_front y _ at 4 is.here ∙ second_word word info size name rest in
    let s : big_at y (at + 8) ≡ size = big_front y _ at 8 is.here ∙ third_word word info size name rest ∙ (let e : size % 2 ^ 32 ≡ size = omega (arith, is.small_size) in e) in
    let n = name_back y at word info size name rest is in
    let b = end_back y at word info size name rest is in
    λ i. record {
      next = w i / 16 * 16;
      kind = w i % 8;
      exec = w i / 8 % 2 == 1;
      info = f i / 16 * 16;
      size = s i;
      name = n i;
      body = b i;
    }

bytes_back : (y : List ℕ) (at word info size : ℕ) (name rest : List ℕ) → Stands y at word info size name rest → header_bytes y at ≡ header_text word info size name
unfolding header_bytes
bytes_back y at word info size name rest is =
    let len : name_end y at - at ≡ header_len name = omega (arith, end_back y at word info size name rest is) in
    (λ i. take (len i) (is.here i)) ∙ take_at (header_text word info size name) rest (header_len name) (length-header_text word info size name)

text_sum : (word info size : ℕ) (name : List ℕ) → word_sum (header_text word info size name) % 2 ^ 32 ≡ 0
unfolding header_text
text_sum word info size name =
    let named = word_sum (name_text name) in
    let checksum = balance (word + info + size + named) in
    omega (arith, word_low word, word_low info, word_low size, word_low checksum)

pub sum_back : (y : List ℕ) (at word info size : ℕ) (name rest : List ℕ) → Stands y at word info size name rest → sums_to_zero (header_bytes y at) ≡ true
unfolding sums_to_zero
sum_back y at word info size name rest is =
    ap (λ b. word_sum b % 2 ^ 32 == 0) (bytes_back y at word info size name rest is) ∙ eq-eqb (word_sum (header_text word info size name) % 2 ^ 32) 0 (text_sum word info size name)

-- how many bytes there are
pub length_back : (y : List ℕ) (at word info size : ℕ) (name rest : List ℕ) → Stands y at word info size name rest → length y ≡ at + header_len name + length rest
length_back y at word info size name rest is =
    omega (arith, length-drop at y, ap length is.here, length-append (header_text word info size name) rest, length-header_text word info size name)

-- nothing is wrong with it
pub sound_back : (y : List ℕ) (before at word info size : ℕ) (name rest : List ℕ) → Stands y at word info size name rest → before < at → is_bad_name (read_header at word info size name) ≡ false
    → ((word % 8 == 2) && nat_lt (length rest) size) ≡ false → header_fault y before at ≡ None
unfolding header_fault
sound_back y before at word info size name rest is later good fits =
    let h = header_back y at word info size name rest is in
    let len = length_back y at word info size name rest is in
    let inside : nat_lt (length y) (name_end y at) ≡ false = le-ltb (length y) (name_end y at) (omega (arith, len, end_back y at word info size name rest is)) in
    let named : is_bad_name (header_at y at) ≡ false = ap is_bad_name h ∙ good in
    let behind : nat_le at before ≡ false = lt-leb at before later in
    let past : nat_lt (length y) (at + header_len name + size) ≡ nat_lt (length rest) size = ap (λ n. nat_lt n (at + header_len name + size)) len ∙ same_shift (at + header_len name) (length rest) size in
    let ranged : ((header_at y at).kind == 2 && nat_lt (length y) ((header_at y at).body + (header_at y at).size)) ≡ false =
    ap (λ (g : Header). g.kind == 2 && nat_lt (length y) (g.body + g.size)) h ∙ ap (λ b. (word % 8 == 2) && b) past ∙ fits in
    rw (inside, sum_back y at word info size name rest is, named, behind, ranged) refl
  where
    same_shift : (k a b : ℕ) → nat_lt (k + a) (k + b) ≡ nat_lt a b
    same_shift k a b = grind (arith, nat_tests)
