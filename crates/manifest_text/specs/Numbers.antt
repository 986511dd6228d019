-- Numbers as they are written.
use Rattle.std.specs.Prelude.{ℕ, ◌+◌, ◌-◌, ◌*◌, ◌^◌, ◌==◌, Bool, false, ◌&&◌, ◌||◌, nat_le, nat_lt, if◌then◌else◌, List, [], ◌∷◌, length, drop, slice_index, Option, Some, None}
use Rattle.std.specs.List.{list_all}
use Rattle.quantum_sched.specs.declared.Quantum.{Quantum}
use Rattle.manifest_text.specs.Pieces.{Text, pieces}

-- '0' to '9'
abbrev pub is_digit : ℕ → Bool
is_digit b = nat_le 48 b && nat_le b 57

-- '0' to '9' and 'a' to 'f'
abbrev pub is_hex_digit : ℕ → Bool
is_hex_digit b = is_digit b || (nat_le 97 b && nat_le b 102)

abbrev pub hex_digit_value : ℕ → ℕ
hex_digit_value b = if nat_le b 57 then b - 48 else b - 87

-- the number that digits spell behind those of n
abbrev pub spelled : (ℕ → ℕ) → ℕ → ℕ → Text → ℕ
spelled digit radix n [] = n
spelled digit radix n (b ∷ bs) = spelled digit radix (n * radix + digit b) bs

unfoldable pub decimal_value : Text → ℕ
decimal_value text = spelled (λ b. b - 48) 10 0 text

unfoldable pub hex_value : Text → ℕ
hex_value text = spelled hex_digit_value 16 0 text

-- decimal digits without a zero in front, or `0`
abbrev pub is_number : Text → Bool
is_number text = list_all is_digit text && (length text == 1 || nat_lt 48 (slice_index text 0))

-- a number in a range, both ends included
unfoldable pub is_number_in : ℕ → ℕ → Text → Bool
is_number_in least most text = is_number text && nat_le least (decimal_value text) && nat_le (decimal_value text) most

abbrev pub number_in : ℕ → ℕ → Text → Option ℕ
number_in least most text = if is_number_in least most text then Some (decimal_value text) else None

-- `0x` and one to eight hexadecimal digits
unfoldable pub is_address : Text → Bool
is_address text =
    slice_index text 0 == 48 && slice_index text 1 == 120
    && nat_le 3 (length text) && nat_le (length text) 10 && list_all is_hex_digit (drop 2 text)

unfoldable pub address_value : Text → ℕ
address_value text = hex_value (drop 2 text)

abbrev pub address : Text → Option ℕ
address text = if is_address text then Some (address_value text) else None

-- `K:N`, K any word of 32 bits and N from 1 to 1,000,000
abbrev pub colon : ℕ
colon = 58

abbrev pub is_pair : List Text → Bool
is_pair (pick ∷ count ∷ []) = is_number_in 0 (2 ^ 32 - 1) pick && is_number_in 1 1000000 count
is_pair _ = false

unfoldable pub is_quantum : Text → Bool
is_quantum word = is_pair (pieces colon word)

abbrev pub pair_value : List Text → Quantum
pair_value (pick ∷ count ∷ []) = record { pick = decimal_value pick; count = decimal_value count }
pair_value _ = record { pick = 0; count = 0 }

unfoldable pub quantum_value : Text → Quantum
quantum_value word = pair_value (pieces colon word)
