-- The definitions at worked examples, which compute.
use Rattle.std.proofs.Common.{◌≡◌, ℕ, ◌+◌, ◌-◌, ◌*◌, ◌^◌, List, [], ◌∷◌, refl}
use Rattle.std.specs.Prelude.{Some, None}
use Rattle.rv32im_table.specs.declared.instr.Instr.TheVariants.{Auipc, Jalr, Beq, Sub, Srai, Ecall}
use Rattle.rv32im_table.specs.Field.{opcode, rd, funct3, rs1, rs2, shamt, funct7}
use Rattle.rv32im_table.specs.Immediate.{Piece, Format, format_i, format_s, format_b, format_u, format_j}
use Rattle.rv32im_table.specs.Immediate.{imm_i, imm_s, imm_b, imm_u, imm_j, put_i, put_u}
use Rattle.rv32im_table.specs.Table.{decoded}

-- the bits of a list of pieces, as a mask of the word
abbrev mask : List Piece → ℕ
mask [] = 0
mask (p ∷ ps) = (2 ^ p.width - 1) * 2 ^ p.at + mask ps

-- each format has every bit of the word once, in its immediate or beside it
abbrev all_bits : Format → ℕ
all_bits f = mask f.pieces + mask f.others

bits_i : all_bits format_i ≡ 0xffff_ffff
bits_i = refl

bits_s : all_bits format_s ≡ 0xffff_ffff
bits_s = refl

bits_b : all_bits format_b ≡ 0xffff_ffff
bits_b = refl

bits_u : all_bits format_u ≡ 0xffff_ffff
bits_u = refl

bits_j : all_bits format_j ≡ 0xffff_ffff
bits_j = refl

-- auipc x1,0x3
auipc : decoded 0x0000_3097 ≡ Some (Auipc 1 0x3000)
unfolding decoded opcode rd imm_u
auipc = refl

-- jalr x1,-2044(x1)
jalr : decoded 0x8040_80e7 ≡ Some (Jalr 1 1 (2 ^ 32 - 2044))
unfolding decoded opcode rd rs1 funct3 imm_i
jalr = refl

-- beq x1,x2,.-4096
beq : decoded 0x8020_8063 ≡ Some (Beq 1 2 (2 ^ 32 - 4096))
unfolding decoded opcode rs1 rs2 funct3 imm_b
beq = refl

-- sub x4,x5,x6
sub : decoded 0x4062_8233 ≡ Some (Sub 4 5 6)
unfolding decoded opcode rd rs1 rs2 funct3 funct7
sub = refl

-- srai x14,x15,16
srai : decoded 0x4107_d713 ≡ Some (Srai 14 15 16)
unfolding decoded opcode rd rs1 shamt funct3 funct7
srai = refl

ecall : decoded 0x0000_0073 ≡ Some Ecall
unfolding decoded opcode
ecall = refl

zero : decoded 0 ≡ None
unfolding decoded opcode
zero = refl

-- sb x23,-1(x24)
imm_s-sb : imm_s 0xff7c_0fa3 ≡ 2 ^ 32 - 1
unfolding imm_s
imm_s-sb = refl

-- jal x15,.+0xffffe
imm_j-jal : imm_j 0x7fff_f7ef ≡ 0xffffe
unfolding imm_j
imm_j-jal = refl

-- a call over the distance 0x2804: its high part is rounded, its low part is -2044
call-high : put_u 0x0000_0097 (0x2804 + 0x800) ≡ 0x0000_3097
unfolding put_u
call-high = refl

call-low : put_i 0x0000_80e7 0x2804 ≡ 0x8040_80e7
unfolding put_i
call-low = refl
