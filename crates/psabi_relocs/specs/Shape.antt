-- How a word has a value. RISC-V ELF psABI, "Relocations", the column of fields; the immediates are those of the
-- unprivileged ISA, "Immediate Encoding Variants".
use Rattle.std.specs.Prelude.{ℕ, ◌+◌, ◌*◌, ◌/◌, ◌%◌, ◌^◌, Bool, ◌==◌}
use Rattle.rv32im_table.specs.Immediate.{sign_extended, imm_i, imm_s, imm_b, imm_u, imm_j, put_i, put_s, put_b, put_u, put_j}
use Rattle.psabi_relocs.specs.declared.row.Shape.{Shape}
use Rattle.psabi_relocs.specs.declared.row.Shape.TheVariants.{Word, High, LowI, LowS, Branch, Jump}

-- the high part of a value, and what is left for the low part: v = high + low modulo 2^32, low from -2048 to 2047
abbrev pub high_part : ℕ → ℕ
high_part v = (v + 0x800) % 2 ^ 32 / 4096 * 4096

abbrev pub low_part : ℕ → ℕ
low_part v = sign_extended 12 (v % 4096)

-- the word w holds the value v, both below 2^32
abbrev pub has_value : Shape → ℕ → ℕ → Bool
has_value Word w v = w == v
has_value High w v = imm_u w == high_part v
has_value LowI w v = imm_i w == low_part v
has_value LowS w v = imm_s w == low_part v
has_value Branch w v = imm_b w == v
has_value Jump w v = imm_j w == v

-- the word w with the value v in its field
abbrev pub put : Shape → ℕ → ℕ → ℕ
put Word w v = v
put High w v = put_u w (high_part v)
put LowI w v = put_i w (low_part v)
put LowS w v = put_s w (low_part v)
put Branch w v = put_b w v
put Jump w v = put_j w v
