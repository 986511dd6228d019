-- The sums of the groups at one place, one for each width: for the index alone, which keeps them together.
use Rattle.std.specs.Prelude.{◌+◌, ◌^◌, ◌<◌, Option, Some, None}
use Rattle.psabi_relocs.specs.declared.row.Width.{Width}
use Rattle.psabi_relocs.specs.declared.row.Width.TheVariants.{Bits8, Bits16, Bits32, Bits6, Uleb128}
use Rattle.psabi_relocs.specs.declared.group.Sum.{Sum}
use Rattle.psabi_relocs.specs.declared.group.Sums.{Sums}
use Rattle.psabi_relocs.specs.Group.{no_sum}

abbrev pub no_sums : Sums
no_sums = record { bits8 = no_sum; bits16 = no_sum; bits32 = no_sum; bits6 = no_sum; uleb128 = no_sum }

abbrev pub sums_or_none : Option Sums → Sums
sums_or_none None = no_sums
sums_or_none (Some sums) = sums

abbrev pub sum_of : Width → Sums → Sum
sum_of Bits8 s = s.bits8
sum_of Bits16 s = s.bits16
sum_of Bits32 s = s.bits32
sum_of Bits6 s = s.bits6
sum_of Uleb128 s = s.uleb128

-- both counts can take one more in 32 bits
abbrev pub CanStep : Sum → Type 0
CanStep s = (s.plus + 1 < 2 ^ 32) × (s.minus + 1 < 2 ^ 32)
