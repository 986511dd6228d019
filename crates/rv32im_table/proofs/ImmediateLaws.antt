-- Laws of the immediates, for those who patch words by relocations.
use Rattle.std.proofs.Common.{◌≡◌, ℕ, ◌/◌, ◌^◌, ◌<◌, arith}
use Rattle.std.proofs.lemmas.Bool.Decides.{nat_tests}
use Rattle.rv32im_table.specs.Immediate.{IsImmediate, cleared, format_i, format_s, format_b, format_u, format_j}
use Rattle.rv32im_table.specs.Immediate.{imm_i, imm_s, imm_b, imm_u, imm_j, put_i, put_s, put_b, put_u, put_j}

-- ---- a word is a word after its immediate was replaced

pub put_i-fits : (w v : ℕ) → put_i w v < 2 ^ 32
unfolding put_i
put_i-fits w v = omega arith

pub put_s-fits : (w v : ℕ) → put_s w v < 2 ^ 32
unfolding put_s
put_s-fits w v = omega arith

pub put_b-fits : (w v : ℕ) → put_b w v < 2 ^ 32
unfolding put_b
put_b-fits w v = omega arith

pub put_u-fits : (w v : ℕ) → put_u w v < 2 ^ 32
unfolding put_u
put_u-fits w v = omega arith

pub put_j-fits : (w v : ℕ) → put_j w v < 2 ^ 32
unfolding put_j
put_j-fits w v = omega arith

-- ---- to put the immediate that a word has changes nothing

pub put_i-same : (w v : ℕ) → w < 2 ^ 32 → imm_i w ≡ v → put_i w v ≡ w
unfolding imm_i put_i
put_i-same w v fits same = grind (arith, nat_tests)

pub put_s-same : (w v : ℕ) → w < 2 ^ 32 → imm_s w ≡ v → put_s w v ≡ w
unfolding imm_s put_s
put_s-same w v fits same = grind (arith, nat_tests)

pub put_b-same : (w v : ℕ) → w < 2 ^ 32 → imm_b w ≡ v → put_b w v ≡ w
unfolding imm_b put_b
put_b-same w v fits same = grind (arith, nat_tests)

pub put_j-same : (w v : ℕ) → w < 2 ^ 32 → imm_j w ≡ v → put_j w v ≡ w
unfolding imm_j put_j
put_j-same w v fits same = grind (arith, nat_tests)

-- the low 12 bits of `v` don't count
pub put_u-same : (w v : ℕ) → w < 2 ^ 32 → w / 2 ^ 12 ≡ v / 2 ^ 12 → put_u w v ≡ w
unfolding put_u
put_u-same w v fits same = omega arith

pub put_u-imm_u : (w : ℕ) → w < 2 ^ 32 → put_u w (imm_u w) ≡ w
unfolding imm_u put_u
put_u-imm_u w fits = grind (arith, nat_tests)

-- ---- the immediate that was put is read back

pub imm_i-put_i : (w v : ℕ) → IsImmediate format_i v → imm_i (put_i w v) ≡ v
unfolding imm_i put_i
imm_i-put_i w v is = grind (arith, nat_tests, is.extended, is.multiple)

pub imm_s-put_s : (w v : ℕ) → IsImmediate format_s v → imm_s (put_s w v) ≡ v
unfolding imm_s put_s
imm_s-put_s w v is = grind (arith, nat_tests, is.extended, is.multiple)

pub imm_b-put_b : (w v : ℕ) → IsImmediate format_b v → imm_b (put_b w v) ≡ v
unfolding imm_b put_b
imm_b-put_b w v is = grind (arith, nat_tests, is.extended, is.multiple)

pub imm_u-put_u : (w v : ℕ) → IsImmediate format_u v → imm_u (put_u w v) ≡ v
unfolding imm_u put_u
imm_u-put_u w v is = grind (arith, nat_tests, is.extended, is.multiple)

pub imm_j-put_j : (w v : ℕ) → IsImmediate format_j v → imm_j (put_j w v) ≡ v
unfolding imm_j put_j
imm_j-put_j w v is = grind (arith, nat_tests, is.extended, is.multiple)

-- ---- all other bits stay

pub cleared-put_i : (w v : ℕ) → cleared format_i (put_i w v) ≡ cleared format_i w
unfolding put_i
cleared-put_i w v = omega arith

pub cleared-put_s : (w v : ℕ) → cleared format_s (put_s w v) ≡ cleared format_s w
unfolding put_s
cleared-put_s w v = omega arith

pub cleared-put_b : (w v : ℕ) → cleared format_b (put_b w v) ≡ cleared format_b w
unfolding put_b
cleared-put_b w v = omega arith

pub cleared-put_u : (w v : ℕ) → cleared format_u (put_u w v) ≡ cleared format_u w
unfolding put_u
cleared-put_u w v = omega arith

pub cleared-put_j : (w v : ℕ) → cleared format_j (put_j w v) ≡ cleared format_j w
unfolding put_j
cleared-put_j w v = omega arith
