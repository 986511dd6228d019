-- The definitions at worked examples, which compute.
use Rattle.std.proofs.Common.{◌≡◌, ◌-◌, ◌^◌, true, false, [], ◌∷◌, refl}
use Rattle.std.specs.Prelude.{Ok, replicate}
use Rattle.rv32im_table.specs.Field.{opcode, funct3, rd, rs1, rs2}
use Rattle.rv32im_table.specs.Immediate.{imm_i, imm_s, imm_j}
use Rattle.rv32im_table.specs.Table.{decoded}
use Rattle.rv32im_step.specs.declared.regs.Regs.{Regs}
use Rattle.rv32im_step.specs.Asked.{effect_asked, asked}
use Rattle.byte_words.specs.ByteMap.{byte_of}
use Rattle.rv32im_step.specs.ByteBus.{writable_of}
use Rattle.rv32im_step.specs.Integer.{sra}
use Rattle.rv32im_step.specs.Meaning.{trap, effect, meaning}
use Rattle.rv32im_step.specs.Memory.{fetch_of, load_of, store_of, loaded, stored}
use Rattle.rv32im_step.specs.Multiply.{mulh, mulhsu, div, divu, rem, remu}
use Rattle.rv32im_step.specs.Registers.{register}

-- -2^31 by -1
div-overflow : div 0x8000_0000 0xffff_ffff ≡ 0x8000_0000
unfolding div
div-overflow = refl

rem-overflow : rem 0x8000_0000 0xffff_ffff ≡ 0
unfolding rem
rem-overflow = refl

divu-zero : divu 7 0 ≡ 0xffff_ffff
unfolding divu
divu-zero = refl

remu-zero : remu 7 0 ≡ 7
unfolding remu
remu-zero = refl

-- -7 by 2 is -3, and -1 is left
div-negative : div (2 ^ 32 - 7) 2 ≡ 2 ^ 32 - 3
unfolding div
div-negative = refl

rem-negative : rem (2 ^ 32 - 7) 2 ≡ 2 ^ 32 - 1
unfolding rem
rem-negative = refl

-- -1 by 2^32 - 1 is -2^32 + 1
mulhsu-negative : mulhsu 0xffff_ffff 0xffff_ffff ≡ 0xffff_ffff
unfolding mulhsu
mulhsu-negative = refl

mulh-negative : mulh 0xffff_ffff 2 ≡ 0xffff_ffff
unfolding mulh
mulh-negative = refl

-- -15 by 8, rounded down
sra-negative : sra (2 ^ 32 - 15) 3 ≡ 2 ^ 32 - 2
unfolding sra
sra-negative = refl

-- the registers at 0x80000000
abbrev regs : Regs
regs = record { pc = 0x8000_0000; x = 0 ∷ 0x8000_0003 ∷ replicate 30 0 }

-- the word 0
illegal-word : meaning regs (byte_of 0x8000_0000 (0 ∷ 0 ∷ 0 ∷ 0 ∷ [])) writable_of ≡ trap 4
unfolding meaning loaded decoded opcode
illegal-word = refl

-- ebreak
breakpoint-word : meaning regs (byte_of 0x8000_0000 (0x73 ∷ 0 ∷ 0x10 ∷ 0 ∷ [])) writable_of ≡ trap 5
unfolding meaning loaded decoded opcode effect
breakpoint-word = refl

-- jal x3,.+0x82
misaligned-jump : meaning regs (byte_of 0x8000_0000 (0xef ∷ 0x01 ∷ 0x20 ∷ 0x08 ∷ [])) writable_of ≡ trap 7
unfolding meaning loaded decoded opcode effect rd imm_j
misaligned-jump = refl

-- four bytes at an odd address
odd-load : loaded (byte_of 0x8000_0000 (0x81 ∷ 0x82 ∷ 0x83 ∷ 0x84 ∷ 0x85 ∷ [])) (load_of 0x8000_0000 0x8000_0001 4) ≡ Ok 0x8584_8382
unfolding loaded
odd-load = refl

-- nothing is asked after a fetch that is refused
fetch-asked : asked regs (byte_of 0x8000_0000 (0x83 ∷ 0x81 ∷ 0 ∷ [])) writable_of ≡
    record { access = fetch_of 0x8000_0000; done = false } ∷ []
unfolding asked loaded
fetch-asked = refl

-- lb x3,0(x1)
load-asked : asked regs (byte_of 0x8000_0000 (0x83 ∷ 0x81 ∷ 0 ∷ 0 ∷ [])) writable_of ≡
    record { access = fetch_of 0x8000_0000; done = true } ∷
    record { access = load_of 0x8000_0000 0x8000_0003 1; done = true } ∷ []
unfolding asked loaded decoded opcode effect_asked funct3 rd rs1 imm_i register
load-asked = refl

-- sw x1,0(x1)
store-asked : asked regs (byte_of 0x8000_0000 (0x23 ∷ 0xa0 ∷ 0x10 ∷ 0 ∷ [])) writable_of ≡
    record { access = fetch_of 0x8000_0000; done = true } ∷
    record { access = store_of 0x8000_0000 0x8000_0003 4; done = false } ∷ []
unfolding asked loaded stored decoded opcode effect_asked funct3 rs1 rs2 imm_s register
store-asked = refl
