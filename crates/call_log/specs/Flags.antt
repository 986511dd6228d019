-- Flags of system calls.
use Rattle.std.specs.Prelude.{ℕ, ◌/◌, ◌%◌, ◌==◌, Bool}

-- a flag of one bit, which has this value
abbrev pub has_flag : (flags value : ℕ) → Bool
has_flag flags value = (flags / value) % 2 == 1
