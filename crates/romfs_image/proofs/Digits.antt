-- What a hole of two hexadecimal digits writes.
use Rattle.std.proofs.Common.{◌≡◌, ℕ, ◌-◌, false, List, [], ◌++◌, length, replicate, arith}
use Rattle.std.specs.Fmt.{padded_integral, format_spec, char_count}
use Rattle.std.proofs.lemmas.List.{append-nil}

pub padded_byte : (ds : List ℕ) → padded_integral (format_spec 32 0 4 2 18446744073709551615) false [] ds ≡ replicate (2 - length ds) 48 ++ ds
unfolding padded_integral char_count
padded_byte ds = let short : 2 - length ds - 0 - 0 ≡ 2 - length ds = omega arith in rw (short, append-nil ds)
