-- The relocation types. RISC-V ELF psABI, "Relocations": a type's number gives its row of the table.
use Rattle.std.specs.Prelude.{ℕ, Bool, true, false, ◌==◌, if◌then◌else◌}
use Rattle.psabi_relocs.specs.declared.row.Row.{Row}
use Rattle.psabi_relocs.specs.declared.row.Row.TheVariants.{Unknown, Mark, Pointer, Absolute, Relative, Call, GotHi20, Low, Group}
use Rattle.psabi_relocs.specs.declared.row.Shape.TheVariants.{Word, High, LowI, LowS, Branch, Jump}
use Rattle.psabi_relocs.specs.declared.row.Width.{Width}
use Rattle.psabi_relocs.specs.declared.row.Width.TheVariants.{Bits8, Bits16, Bits32, Bits6, Uleb128}
use Rattle.psabi_relocs.specs.declared.row.Step.TheVariants.{Add, Sub, Set}

-- the row of a type's number, with the type's name behind R_RISCV_
unfoldable pub row_of : ℕ → Row
row_of k =
    if k == 0 then Mark  -- NONE
    else if k == 1 then Pointer  -- 32
    else if k == 16 then Relative Branch  -- BRANCH
    else if k == 17 then Relative Jump  -- JAL
    else if k == 18 then Call  -- CALL
    else if k == 19 then Call  -- CALL_PLT
    else if k == 20 then GotHi20  -- GOT_HI20
    else if k == 23 then Relative High  -- PCREL_HI20
    else if k == 24 then Low LowI  -- PCREL_LO12_I
    else if k == 25 then Low LowS  -- PCREL_LO12_S
    else if k == 26 then Absolute High  -- HI20
    else if k == 27 then Absolute LowI  -- LO12_I
    else if k == 28 then Absolute LowS  -- LO12_S
    else if k == 33 then Group Bits8 Add  -- ADD8
    else if k == 34 then Group Bits16 Add  -- ADD16
    else if k == 35 then Group Bits32 Add  -- ADD32
    else if k == 37 then Group Bits8 Sub  -- SUB8
    else if k == 38 then Group Bits16 Sub  -- SUB16
    else if k == 39 then Group Bits32 Sub  -- SUB32
    else if k == 43 then Mark  -- ALIGN
    else if k == 51 then Mark  -- RELAX
    else if k == 52 then Group Bits6 Sub  -- SUB6
    else if k == 53 then Group Bits6 Set  -- SET6
    else if k == 54 then Group Bits8 Set  -- SET8
    else if k == 55 then Group Bits16 Set  -- SET16
    else if k == 56 then Group Bits32 Set  -- SET32
    else if k == 57 then Relative Word  -- 32_PCREL
    else if k == 59 then Relative Word  -- PLT32
    else if k == 60 then Group Uleb128 Set  -- SET_ULEB128
    else if k == 61 then Group Uleb128 Sub  -- SUB_ULEB128
    else Unknown

-- how many bytes of a number are a group's field: of a ULEB128 number the first
abbrev pub width_len : Width → ℕ
width_len Bits8 = 1
width_len Bits16 = 2
width_len Bits32 = 4
width_len Bits6 = 1
width_len Uleb128 = 1

abbrev pub is_same : Width → Width → Bool
is_same Bits8 Bits8 = true
is_same Bits16 Bits16 = true
is_same Bits32 Bits32 = true
is_same Bits6 Bits6 = true
is_same Uleb128 Uleb128 = true
is_same _ _ = false

-- how many bytes from P on are the field
abbrev pub field_len : Row → ℕ
field_len Unknown = 0
field_len Mark = 0
field_len Call = 8
field_len (Group width step) = width_len width
field_len _ = 4

-- NONE, ALIGN and RELAX say nothing of the linked bytes
abbrev pub is_mark : Row → Bool
is_mark Mark = true
is_mark _ = false

abbrev pub is_unknown : Row → Bool
is_unknown Unknown = true
is_unknown _ = false

abbrev pub is_got_hi20 : Row → Bool
is_got_hi20 GotHi20 = true
is_got_hi20 _ = false

-- an instruction has S + A itself
abbrev pub is_absolute : Row → Bool
is_absolute (Absolute shape) = true
is_absolute _ = false

-- S + A - P
abbrev pub is_relative : Row → Bool
is_relative (Relative shape) = true
is_relative Call = true
is_relative _ = false

-- the high part that a low part names: GOT_HI20 or PCREL_HI20
abbrev pub is_high : Row → Bool
is_high GotHi20 = true
is_high (Relative High) = true
is_high _ = false

-- PCREL_LO12_I or PCREL_LO12_S
abbrev pub is_low : Row → Bool
is_low (Low shape) = true
is_low _ = false

-- entries of the row pair with others, or are steps of a group
abbrev pub is_joined : Row → Bool
is_joined GotHi20 = true
is_joined (Relative High) = true
is_joined (Low shape) = true
is_joined (Group width step) = true
is_joined _ = false
