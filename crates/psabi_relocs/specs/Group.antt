-- Groups. A group is all entries of one section with the same place and the same width. Its sum starts at 0 and takes the
-- entries in order: ADD of a moving symbol adds 1, SUB of one subtracts 1, SET makes it 1 for a moving symbol and 0 for any
-- other (fixed, weak, undefined or bad), of which ADD and SUB change nothing. The group is balanced if its sum ends at 0:
-- then the number that its entries compute is the same at every base (Laws.antt), and so are its bytes where no entry of another
-- width, or at an overlapping place, meets them. This is this project's own rule; the types are those of the RISC-V ELF psABI,
-- "Relocations", whose arithmetic is in Difference.antt: no code computes it, and the bytes of a group stay as they were linked.
use Rattle.std.specs.Prelude.{ℕ, zero, suc, ◌+◌, Bool, ◌==◌, List, if◌then◌else◌}
use Rattle.psabi_relocs.specs.declared.reloc.Reloc.{Reloc}
use Rattle.psabi_relocs.specs.declared.row.Row.{Row}
use Rattle.psabi_relocs.specs.declared.row.Row.TheVariants.{Group}
use Rattle.psabi_relocs.specs.declared.row.Width.{Width}
use Rattle.psabi_relocs.specs.declared.row.Step.{Step}
use Rattle.psabi_relocs.specs.declared.row.Step.TheVariants.{Add, Sub, Set}
use Rattle.psabi_relocs.specs.declared.group.Sum.{Sum}
use Rattle.psabi_relocs.specs.Class.{is_moving}
use Rattle.psabi_relocs.specs.Row.{is_same}
use Rattle.psabi_relocs.specs.Reloc.{reloc}

-- a sum is plus - minus, and starts at 0
abbrev pub no_sum : Sum
no_sum = record { plus = 0; minus = 0 }

-- how often one symbol counts: not at all where it doesn't move
abbrev pub count : Bool → ℕ
count moves = if moves then 1 else 0

-- a step with a symbol: SET forgets what was before
abbrev pub stepped : Step → Bool → Sum → Sum
stepped Add moves s = record { plus = s.plus + count moves; minus = s.minus }
stepped Sub moves s = record { plus = s.plus; minus = s.minus + count moves }
stepped Set moves s = record { plus = count moves; minus = 0 }

-- the step of a row in the sum of a width: a group's row of that width has one, other rows have none
abbrev pub row_step : Width → Row → Bool → Sum → Sum
row_step width (Group own step) moves s = if is_same own width then stepped step moves s else s
row_step width _ moves s = s

-- the step of an entry in the sum of the group at the place q and of a width
abbrev pub entry_step : ℕ → Width → Reloc → Sum → Sum
entry_step q width r s = if r.place == q then row_step width r.row (is_moving r.class) s else s

-- the sum of the group at the place q and of a width, over the first n entries
unfoldable pub sum_below : List ℕ → ℕ → ℕ → Width → ℕ → Sum
sum_below e i q width zero = no_sum
sum_below e i q width (suc n) = entry_step q width (reloc e i n) (sum_below e i q width n)

-- the sum is 0
abbrev pub is_balanced : Sum → Bool
is_balanced s = s.plus == s.minus
