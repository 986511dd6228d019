-- Strings that stand in memory, and what they count, on worked examples.
use Rattle.std.proofs.Common.{◌≡◌, inl, inr, [], ◌∷◌, ◌++◌, None, refl, arith}
use Rattle.byte_words.specs.ByteMap.{Bytes, with_bytes, little_bytes}
use Rattle.byte_words.specs.Numbers.{number_at}
use Rattle.call_log.specs.Sent.{read_span}
use Rattle.call_bytes.specs.Lists.{StringAt, ListAt, counted}

-- the string "a" at 32 and "bc" at 40, and at 64 their pointers with a zero behind them
abbrev memory : Bytes
memory =
    with_bytes (with_bytes (with_bytes (λ a. None) 32 (97 ∷ 0 ∷ [])) 40 (98 ∷ 99 ∷ 0 ∷ [])) 64 (little_bytes 4 32 ++ (little_bytes 4 40 ++ little_bytes 4 0))

string : StringAt memory 40 (98 ∷ 99 ∷ [])
string = (refl, omega arith, (refl, omega arith, refl))

list : ListAt memory 64 ((97 ∷ []) ∷ (98 ∷ 99 ∷ []) ∷ [])
unfolding read_span number_at
list = inr (
  omega arith,
  (
    32,
    (32 ∷ 0 ∷ 0 ∷ 0 ∷ [], refl, refl),
    omega arith,
    (refl, omega arith, refl),
    (40, (40 ∷ 0 ∷ 0 ∷ 0 ∷ [], refl, refl), omega arith, string, (0 ∷ 0 ∷ 0 ∷ 0 ∷ [], refl, refl)),
  ),
)

no_list : ListAt memory 0 []
no_list = inl (refl, refl)

-- four bytes for each pointer, and two and three for the strings
counts : counted ((97 ∷ []) ∷ (98 ∷ 99 ∷ []) ∷ []) ≡ 13
counts = refl

-- an empty string counts five, and no list nothing
counts_none : (counted ([] ∷ []) ∷ counted [] ∷ []) ≡ 5 ∷ 0 ∷ []
counts_none = refl
