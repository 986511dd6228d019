-- Words of instructions: results at the ends of their ranges, and immediates put into words that an assembler writes so.
use Rattle.std.proofs.Common.{◌≡◌, ℕ, [], ◌∷◌, map, refl}
use Rattle.std.specs.Prelude.{replicate}
use Rattle.rv32im_table.specs.Immediate.{imm_s, imm_b, imm_j, put_s, put_b, put_j}
use Rattle.rv32im_step.specs.Integer.{sub, slt, sltu, sll, srl, sra}
use Rattle.rv32im_step.specs.Multiply.{mul, mulh, mulhu, div, rem}

-- ---- integer computations

-- a difference below zero wraps
subtracts : (sub 5 3 ∷ sub 0 1 ∷ sub 0x8000_0000 1 ∷ sub 0 0x8000_0000 ∷ []) ≡ 2 ∷ 0xffff_ffff ∷ 0x7fff_ffff ∷ 0x8000_0000 ∷ []
unfolding sub
subtracts = refl

-- -1 and 0, 0 and -1, the least and the greatest, and a word with itself
compares-signed : (slt 0xffff_ffff 0 ∷ slt 0 0xffff_ffff ∷ slt 0x8000_0000 0x7fff_ffff ∷ slt 3 3 ∷ []) ≡ 1 ∷ 0 ∷ 1 ∷ 0 ∷ []
unfolding slt
compares-signed = refl

-- the same words without a sign
compares-unsigned : (sltu 0xffff_ffff 0 ∷ sltu 0 0xffff_ffff ∷ sltu 0x8000_0000 0x7fff_ffff ∷ sltu 3 3 ∷ []) ≡ 0 ∷ 1 ∷ 0 ∷ 0 ∷ []
unfolding sltu
compares-unsigned = refl

-- by 31, by 31 with a bit that falls off, by 32, which is 0, and by 33, which is 1
shifts-left : (sll 1 31 ∷ sll 3 31 ∷ sll 5 32 ∷ sll 0x8000_0001 0xffff_ffe1 ∷ []) ≡ 0x8000_0000 ∷ 0x8000_0000 ∷ 5 ∷ 2 ∷ []
unfolding sll
shifts-left = refl

-- zeros move in
shifts-right : (srl 0x8000_0000 31 ∷ srl 0xffff_ffff 4 ∷ srl 5 32 ∷ srl 0x8000_0001 0xffff_ffe1 ∷ []) ≡ 1 ∷ 0x0fff_ffff ∷ 5 ∷ 0x4000_0000 ∷ []
unfolding srl
shifts-right = refl

-- the sign moves in
shifts-sign : (sra 0x8000_0000 31 ∷ sra 0xffff_ffff 4 ∷ sra 0x7fff_ffff 30 ∷ sra 0x8000_0001 32 ∷ []) ≡ 0xffff_ffff ∷ 0xffff_ffff ∷ 1 ∷ 0x8000_0001 ∷ []
unfolding sra
shifts-sign = refl

-- ---- products, in two words

multiplies-low : (mul 7 6 ∷ mul 0xffff_ffff 0xffff_ffff ∷ mul 0x1_0000 0x1_0000 ∷ mul 0x8000_0000 3 ∷ []) ≡ 42 ∷ 1 ∷ 0 ∷ 0x8000_0000 ∷ []
unfolding mul
multiplies-low = refl

multiplies-high : (mulhu 7 6 ∷ mulhu 0xffff_ffff 0xffff_ffff ∷ mulhu 0x1_0000 0x1_0000 ∷ mulhu 0x8000_0000 3 ∷ []) ≡ 0 ∷ 0xffff_fffe ∷ 1 ∷ 1 ∷ []
unfolding mulhu
multiplies-high = refl

-- with signs: 1 of -1 and -1, 2^62 of the least with itself, and a product below zero
multiplies-signed : (mulh 7 6 ∷ mulh 0xffff_ffff 0xffff_ffff ∷ mulh 0x8000_0000 0x8000_0000 ∷ mulh 0x8000_0000 3 ∷ []) ≡ 0 ∷ 0 ∷ 0x4000_0000 ∷ 0xffff_fffe ∷ []
unfolding mulh
multiplies-signed = refl

-- -7 by 2 and 7 by -2 are rounded towards zero, and a quotient by zero has all bits set
divides : (div 0xffff_fff9 2 ∷ div 7 0xffff_fffe ∷ div 7 0 ∷ []) ≡ 0xffff_fffd ∷ 0xffff_fffd ∷ 0xffff_ffff ∷ []
unfolding div
divides = refl

-- the remainders have the sign of the dividend
leaves : (rem 0xffff_fff9 2 ∷ rem 7 0xffff_fffe ∷ rem 7 0 ∷ []) ≡ 0xffff_ffff ∷ 1 ∷ 7 ∷ []
unfolding rem
leaves = refl

-- ---- immediates. The words are sw x2,0(x1), beq x1,x2,. and jal x1,.

abbrev stores : ℕ
stores = 0x0020_a023

abbrev branches : ℕ
branches = 0x0020_8063

abbrev jumps : ℕ
jumps = 0x0000_00ef

-- 8, -4, and the ends of the range
puts-store : map (put_s stores) (8 ∷ 0xffff_fffc ∷ 0x7ff ∷ 0xffff_f800 ∷ []) ≡ 0x0020_a423 ∷ 0xfe20_ae23 ∷ 0x7e20_afa3 ∷ 0x8020_a023 ∷ []
unfolding put_s
puts-store = refl

-- with bit 11, which stands apart
puts-branch :
    map (put_b branches) (8 ∷ 0xffff_fffc ∷ 0x800 ∷ 0xffe ∷ 0xffff_f000 ∷ [])
    ≡ 0x0020_8463 ∷ 0xfe20_8ee3 ∷ 0x0020_80e3 ∷ 0x7e20_8fe3 ∷ 0x8020_8063 ∷ []
unfolding put_b
puts-branch = refl

puts-jump :
    map (put_j jumps) (8 ∷ 0xffff_fffc ∷ 0x800 ∷ 0xf_fffe ∷ 0xfff0_0000 ∷ [])
    ≡ 0x0080_00ef ∷ 0xffdf_f0ef ∷ 0x0010_00ef ∷ 0x7fff_f0ef ∷ 0x8000_00ef ∷ []
unfolding put_j
puts-jump = refl

-- what a word had is gone
puts-over : (put_s 0xfe20_ae23 0 ∷ put_b 0xfe20_8ee3 0 ∷ put_j 0xffdf_f0ef 0 ∷ []) ≡ stores ∷ branches ∷ jumps ∷ []
unfolding put_s put_b put_j
puts-over = refl

-- and read from its word again -4 is -4
reads-back : (imm_s (put_s stores 0xffff_fffc) ∷ imm_b (put_b branches 0xffff_fffc) ∷ imm_j (put_j jumps 0xffff_fffc) ∷ []) ≡ replicate 3 0xffff_fffc
unfolding imm_s imm_b imm_j put_s put_b put_j
reads-back = refl

-- which isn't so of what is no immediate: an odd one, and one that is too large
reads-other : (imm_s (put_s stores 0x800) ∷ imm_b (put_b branches 9) ∷ imm_j (put_j jumps 0x10_0000) ∷ []) ≡ 0xffff_f800 ∷ 8 ∷ 0xfff0_0000 ∷ []
unfolding imm_s imm_b imm_j put_s put_b put_j
reads-other = refl
