-- The start frame on a new stack (System V ABI, RISC-V supplement: argc, argv, envp): argc, the pointers to the arguments,
-- 0, the pointers to the environment, 0, and then all strings with their zeros, without gaps.
use Rattle.std.specs.Prelude.{ℕ, ◌+◌, ◌-◌, ◌*◌, ◌/◌, Bool, ◌&&◌, nat_le, List, [], ◌∷◌, ◌++◌, length, map, flat_map, Vec}
use Rattle.byteorder.specs.Endian.{little_bytes}
use Rattle.flat_loader.specs.Original.{Original, stack_len, block_len}

-- the bytes of each string
abbrev pub texts : {Z : Type 0} → List (Vec ℕ Z) → List (List ℕ)
texts ss = map (λ s. s.items) ss

-- strings with their zeros
abbrev pub strings : List (List ℕ) → List ℕ
strings ss = flat_map (λ s. s ++ 0 ∷ []) ss

-- where each string stands, of those from an address on
abbrev pub pointers : ℕ → List (List ℕ) → List ℕ
pointers at [] = []
pointers at (s ∷ ss) = at ∷ pointers (at + (length s + 1)) ss

-- the bytes of argc, of both lists of pointers and of their zeros
abbrev pub words_len : List (List ℕ) → List (List ℕ) → ℕ
words_len args env = 4 * (length args + length env + 3)

unfoldable pub frame_len : List (List ℕ) → List (List ℕ) → ℕ
frame_len args env = words_len args env + length (strings args ++ strings env)

-- the words of a frame whose strings stand from an address on
abbrev pub frame_words : ℕ → List (List ℕ) → List (List ℕ) → List ℕ
frame_words at args env =
    length args ∷ pointers at args ++ (0 ∷ pointers (at + length (strings args)) env ++ (0 ∷ []))

-- the frame that begins at sp
unfoldable pub frame : ℕ → List (List ℕ) → List (List ℕ) → List ℕ
frame sp args env = flat_map (little_bytes 4) (frame_words (sp + words_len args env) args env) ++ (strings args ++ strings env)

-- the greatest multiple of 16 from which so many bytes end at or below an end
unfoldable pub frame_start : ℕ → ℕ → ℕ
frame_start end len = (end - len) / 16 * 16

-- the frame lies in the stack
unfoldable pub frame_fits : Original → List (List ℕ) → List (List ℕ) → Bool
frame_fits o args env =
    nat_le (frame_len args env) (block_len o) && nat_le (block_len o) (frame_start (block_len o) (frame_len args env) + stack_len o)
