-- What a hole of eight hexadecimal digits writes.
use Rattle.std.proofs.Common.{◌≡◌, ℕ, ◌-◌, false, List, [], ◌++◌, length, replicate, arith}
use Rattle.std.specs.Fmt.{padded_integral, format_spec, char_count}
use Rattle.std.proofs.lemmas.List.{append-nil}

pub padded_address : (ds : List ℕ) → padded_integral (format_spec 32 0 4 8 18446744073709551615) false [] ds ≡ replicate (8 - length ds) 48 ++ ds
unfolding padded_integral char_count
padded_address ds = let short : 8 - length ds - 0 - 0 ≡ 8 - length ds = omega arith in rw (short, append-nil ds)
