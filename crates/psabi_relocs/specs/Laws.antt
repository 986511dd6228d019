-- Laws of the relocations, over definitions alone: what a group's number does when the image moves. e is a file, i a kept
-- section, q a place, d the distance by which addresses are raised, `bytes` the length of a number of ULEB128 form, and v the
-- number before the first entry.
use Rattle.std.specs.Prelude.{◌≡◌, ◌≢◌, ℕ, ◌%◌, ◌^◌, ◌<◌, List, true, false, Some, None}
use Rattle.elf32_reader.specs.Relas.{rela_count}
use Rattle.psabi_relocs.specs.declared.row.Row.TheVariants.{Group}
use Rattle.psabi_relocs.specs.declared.row.Width.{Width}
use Rattle.psabi_relocs.specs.declared.row.Step.{Step}
use Rattle.psabi_relocs.specs.declared.group.Sum.{Sum}
use Rattle.psabi_relocs.specs.declared.fault.RelocFault.TheVariants.{Unpaired}
use Rattle.psabi_relocs.specs.Group.{sum_below, is_balanced}
use Rattle.psabi_relocs.specs.Reloc.{reloc}
use Rattle.psabi_relocs.specs.Fault.{reloc_fault}
use Rattle.psabi_relocs.specs.Difference.{bits, group_number}

-- the sum of the group at the place q and of a width
abbrev pub group_sum : List ℕ → ℕ → ℕ → Width → Sum
group_sum e i q width = sum_below e i q width (rela_count e i)

-- the group's number is the same wherever the image lies
abbrev pub IsSame : List ℕ → ℕ → ℕ → Width → ℕ → Type 0
IsSame e i q width bytes = (d v : ℕ) → v < 2 ^ bits width bytes → group_number e i q width bytes d v ≡ group_number e i q width bytes 0 v

-- whatever the number was before, it is another one where addresses are raised by 1
abbrev pub IsOther : List ℕ → ℕ → ℕ → Width → ℕ → Type 0
IsOther e i q width bytes = (v : ℕ) → v < 2 ^ bits width bytes → group_number e i q width bytes 1 v ≢ group_number e i q width bytes 0 v

-- the number can tell the counts of a sum: both are below 2 to its bits
abbrev pub CanTell : Width → ℕ → Sum → Type 0
CanTell width bytes s = (s.plus < 2 ^ bits width bytes) × (s.minus < 2 ^ bits width bytes)

-- a balanced group has the same number at every base
abbrev pub BalancedLaw : Type 0
BalancedLaw = (e : List ℕ) (i q : ℕ) (width : Width) (bytes : ℕ) → is_balanced (group_sum e i q width) ≡ true → IsSame e i q width bytes

-- one that isn't balanced has not
abbrev pub UnbalancedLaw : Type 0
UnbalancedLaw = (e : List ℕ) (i q : ℕ) (width : Width) (bytes : ℕ) → CanTell width bytes (group_sum e i q width) → is_balanced (group_sum e i q width) ≡ false → IsOther e i q width bytes

-- exactly: where the number is the same at every base, the counts are the same modulo 2 to its bits
abbrev pub SameCountsLaw : Type 0
SameCountsLaw = (e : List ℕ) (i q : ℕ) (width : Width) (bytes : ℕ) → IsSame e i q width bytes
    → (group_sum e i q width).plus % 2 ^ bits width bytes ≡ (group_sum e i q width).minus % 2 ^ bits width bytes

-- an entry of a group without a fault: its group has the same number at every base
abbrev pub AcceptedGroupLaw : Type 0
AcceptedGroupLaw = (e : List ℕ) (i j : ℕ) (width : Width) (step : Step) (bytes : ℕ) → (reloc e i j).row ≡ Group width step
    → reloc_fault e i j ≡ None → IsSame e i (reloc e i j).place width bytes

-- an entry of a group that is Unpaired: its group has not
abbrev pub UnpairedGroupLaw : Type 0
UnpairedGroupLaw = (e : List ℕ) (i j : ℕ) (width : Width) (step : Step) (bytes : ℕ) → (reloc e i j).row ≡ Group width step
    → CanTell width bytes (group_sum e i (reloc e i j).place width) → reloc_fault e i j ≡ Some Unpaired → IsOther e i (reloc e i j).place width bytes
