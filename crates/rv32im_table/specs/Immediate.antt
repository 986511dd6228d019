-- The immediates of the five formats: RISC-V unprivileged ISA, "Immediate Encoding Variants".
-- A format lists its pieces once; reading and replacing both go by that list.
use Rattle.std.specs.Prelude.{◌≡◌, ℕ, ◌+◌, ◌-◌, ◌*◌, ◌%◌, ◌^◌, List, [], ◌∷◌, nat_lt, if◌then◌else◌}
use Rattle.rv32im_table.specs.Field.{bits}

-- `width` bits that stand from bit `at` up in the word and from bit `value` up in the immediate
pub record Piece : Type 0 where
  pub at : ℕ
  pub value : ℕ
  pub width : ℕ

-- The immediate's sign is its bit `size - 1`, and it is a multiple of `unit`. `others` are the bits
-- of the word that are not the immediate's.
pub record Format : Type 0 where
  pub size : ℕ
  pub unit : ℕ
  pub pieces : List Piece
  pub others : List Piece

abbrev piece : ℕ → ℕ → ℕ → Piece
piece at value width = record { at = at; value = value; width = width }

-- bits that aren't moved
abbrev kept : ℕ → ℕ → Piece
kept at width = piece at at width

abbrev pub format_i : Format
format_i = record {
  size = 12;
  unit = 1;
  pieces = piece 20 0 12 ∷ [];
  others = kept 0 20 ∷ [];
}

abbrev pub format_s : Format
format_s = record {
  size = 12;
  unit = 1;
  pieces = piece 7 0 5 ∷ piece 25 5 7 ∷ [];
  others = kept 0 7 ∷ kept 12 13 ∷ [];
}

abbrev pub format_b : Format
format_b = record {
  size = 13;
  unit = 2;
  pieces = piece 8 1 4 ∷ piece 25 5 6 ∷ piece 7 11 1 ∷ piece 31 12 1 ∷ [];
  others = kept 0 7 ∷ kept 12 13 ∷ [];
}

abbrev pub format_u : Format
format_u = record {
  size = 32;
  unit = 4096;
  pieces = piece 12 12 20 ∷ [];
  others = kept 0 12 ∷ [];
}

abbrev pub format_j : Format
format_j = record {
  size = 21;
  unit = 2;
  pieces = piece 21 1 10 ∷ piece 20 11 1 ∷ piece 12 12 8 ∷ piece 31 20 1 ∷ [];
  others = kept 0 12 ∷ [];
}

-- the pieces of a word, each moved to its place in the immediate
abbrev pub gathered : List Piece → ℕ → ℕ
gathered [] w = 0
gathered (p ∷ ps) w = bits w p.at p.width * 2 ^ p.value + gathered ps w

-- the pieces of an immediate, each moved to its place in the word
abbrev pub scattered : List Piece → ℕ → ℕ
scattered [] v = 0
scattered (p ∷ ps) v = bits v p.value p.width * 2 ^ p.at + scattered ps v

-- a number of `size` bits, its sign extended to 32 bits
abbrev pub sign_extended : ℕ → ℕ → ℕ
sign_extended size n = if nat_lt n (2 ^ (size - 1)) then n else n + (2 ^ 32 - 2 ^ size)

-- the immediate that a word has
abbrev pub immediate : Format → ℕ → ℕ
immediate f w = sign_extended f.size (gathered f.pieces w)

-- a word with the immediate's bits cleared
abbrev pub cleared : Format → ℕ → ℕ
cleared f w = gathered f.others w

-- a word with the immediate's bits replaced by those of `v`
abbrev pub replaced : Format → ℕ → ℕ → ℕ
replaced f w v = cleared f w + scattered f.pieces v

-- `v` is an immediate of the format: a multiple of its unit that is the sign extension of its low bits
pub record IsImmediate (f : Format) (v : ℕ) : Type 0 where
  pub extended : v ≡ sign_extended f.size (v % 2 ^ f.size)
  pub multiple : v % f.unit ≡ 0

unfoldable pub imm_i : ℕ → ℕ
imm_i w = immediate format_i w

unfoldable pub imm_s : ℕ → ℕ
imm_s w = immediate format_s w

unfoldable pub imm_b : ℕ → ℕ
imm_b w = immediate format_b w

unfoldable pub imm_u : ℕ → ℕ
imm_u w = immediate format_u w

unfoldable pub imm_j : ℕ → ℕ
imm_j w = immediate format_j w

unfoldable pub put_i : ℕ → ℕ → ℕ
put_i w v = replaced format_i w v

unfoldable pub put_s : ℕ → ℕ → ℕ
put_s w v = replaced format_s w v

unfoldable pub put_b : ℕ → ℕ → ℕ
put_b w v = replaced format_b w v

unfoldable pub put_u : ℕ → ℕ → ℕ
put_u w v = replaced format_u w v

unfoldable pub put_j : ℕ → ℕ → ℕ
put_j w v = replaced format_j w v
