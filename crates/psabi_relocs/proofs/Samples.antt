-- Groups, computed: the difference of two symbols 16 bytes apart, of which one or both move.
use Rattle.std.proofs.Common.{◌≡◌, ℕ, ◌^◌, refl}
use Rattle.psabi_relocs.specs.declared.class.Class.{Class}
use Rattle.psabi_relocs.specs.declared.class.Class.TheVariants.{Moves, Fixed}
use Rattle.psabi_relocs.specs.declared.reloc.Reloc.{Reloc}
use Rattle.psabi_relocs.specs.declared.row.Row.TheVariants.{Group}
use Rattle.psabi_relocs.specs.declared.row.Width.{Width}
use Rattle.psabi_relocs.specs.declared.row.Width.TheVariants.{Bits8, Bits32, Bits6, Uleb128}
use Rattle.psabi_relocs.specs.declared.row.Step.{Step}
use Rattle.psabi_relocs.specs.declared.row.Step.TheVariants.{Add, Sub, Set}
use Rattle.psabi_relocs.specs.Difference.{bits, entry_number}

-- an entry at the place 0x10020
entry : Width → Step → ℕ → Class → ℕ → Reloc
entry width step value class addend = record { row = Group width step; place = 0x10020; value = value; class = class; addend = addend }

-- the number at 0x10020 after ADD or SET of the upper symbol and SUB of the lower one
pair_number : Width → Step → Class → ℕ → ℕ → ℕ → ℕ
pair_number width step lower bytes d v =
    entry_number 0x10020 width (2 ^ bits width bytes) d (entry width Sub 0x10000 lower 0)
    (entry_number 0x10020 width (2 ^ bits width bytes) d (entry width step 0x10008 Moves 8) v)

-- both move: 16 at every base
linked : pair_number Bits32 Add Moves 0 0 0 ≡ 16
unfolding pair_number entry
linked = refl

raised : pair_number Bits32 Add Moves 0 0x7fff0123 0 ≡ 16
unfolding pair_number entry
raised = refl

in_a_byte : pair_number Bits8 Add Moves 0 0x123 250 ≡ 10
unfolding pair_number entry
in_a_byte = refl

in_six_bits : pair_number Bits6 Set Moves 0 0x123 33 ≡ 16
unfolding pair_number entry
in_six_bits = refl

in_two_bytes_of_seven_bits : pair_number Uleb128 Set Moves 2 0x123 5000 ≡ 16
unfolding pair_number entry
in_two_bytes_of_seven_bits = refl

-- the lower one stands still: the number goes with the image
one_moves : pair_number Bits32 Add Fixed 0 0 0 ≡ 16
unfolding pair_number entry
one_moves = refl

one_moved : pair_number Bits32 Add Fixed 0 1 0 ≡ 17
unfolding pair_number entry
one_moved = refl
