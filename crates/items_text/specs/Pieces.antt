-- Pieces at the front of a text. A piece is read by what it may be, is spelled again, and counts only where the text begins so.
use Rattle.std.specs.Prelude.{ℕ, zero, suc, ◌+◌, ◌-◌, ◌^◌, ◌==◌, Bool, ◌&&◌, ◌||◌, nat_le, nat_lt, min, if◌then◌else◌, List, [], ◌∷◌, length, take, drop, position, codes, bytes_eq, Option, Some, None, option_map}
use Rattle.std.specs.List.{list_all}
use Rattle.std.specs.Result.{result_ok}
use Rattle.std.specs.Str.Parse.{digits_value}
use Rattle.hex.specs.Hex.{decode_of}

-- the second step, where the first one gave something
infixl 10 ◌>>=◌
abbrev pub ◌>>=◌ : {A B : Type 0} → Option A → (A → Option B) → Option B
Some x >>= f = f x
None >>= f = None

-- something that was read, and the text behind it
abbrev pub Front : Type 0 → Type 0
Front X = Option (X × List ℕ)

-- what is behind this front
unfoldable pub behind : (front text : List ℕ) → Option (List ℕ)
behind front text = if bytes_eq (take (length front) text) front then Some (drop (length front) text) else None

-- what stands before the first such byte, and behind it
unfoldable pub cut_at : ℕ → List ℕ → Front (List ℕ)
cut_at c text = option_map (λ i. (take i text, drop (i + 1) text)) (position (λ b. b == c) text)

-- a number before the first such byte, by the digits of a base; or the most that there may be, where it is more
unfoldable pub number_at : (radix most c : ℕ) → List ℕ → Front ℕ
number_at radix most c text = option_map (λ piece. (min (digits_value radix piece.0) most, piece.1)) (cut_at c text)

abbrev pub most_word : ℕ
most_word = 2 ^ 32 - 1

abbrev pub most_count : ℕ
most_count = 2 ^ 64 - 1

-- ---- bytes

abbrev pub is_lower_digit : ℕ → Bool
is_lower_digit c = nat_le 48 c && nat_le c 57 || nat_le 97 c && nat_le c 102

-- bytes of two lower case digits each, at least one
unfoldable pub hex_of : List ℕ → Option (List ℕ)
hex_of word = if nat_lt 0 (length word) && list_all is_lower_digit word then result_ok (decode_of word) else None

-- or `-` for none
unfoldable pub bytes_of : List ℕ → Option (List ℕ)
bytes_of word = if bytes_eq word (codes "-") then Some [] else hex_of word

-- bytes before the first such byte
unfoldable pub bytes_at : ℕ → List ℕ → Front (List ℕ)
bytes_at c text = do
  piece ← cut_at c text
  bytes ← bytes_of piece.0
  Some (bytes, piece.1)

-- ---- one behind the other

-- one more, and those that are read behind it
abbrev pub many_behind : {X : Type 0} → (List ℕ → List X × List ℕ) → List ℕ → Front X → List X × List ℕ
many_behind more text None = ([], text)
many_behind more text (Some (x, rest)) = (x ∷ (more rest).0, (more rest).1)

-- within so many steps: each that is read at the front, and what is behind all of them
abbrev pub many_within : {X : Type 0} → (List ℕ → Front X) → ℕ → List ℕ → List X × List ℕ
many_within read zero text = ([], text)
many_within read (suc n) text = many_behind (many_within read n) text (read text)

-- there are no more than bytes
unfoldable pub many : {X : Type 0} → (List ℕ → Front X) → List ℕ → List X × List ℕ
many read text = many_within read (length text) text
