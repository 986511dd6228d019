-- What the entries of a group compute on their number. RISC-V ELF psABI, "Relocations": ADD is V + S + A, SUB is V - S - A and
-- SET is S + A, each on the bits that its type names; V is the number that the entries before have left. A number of ULEB128
-- form has seven bits a byte ("Unsigned LEB128", DWARF 5, section 7.6). ADD64 and SUB64 aren't in this project's table. It is the
-- number of one width at one place: an entry of another width, or at a place that overlaps, may change the same bytes, and this
-- number knows nothing of it.
use Rattle.std.specs.Prelude.{ℕ, zero, suc, ◌+◌, ◌-◌, ◌*◌, ◌%◌, ◌^◌, ◌==◌, List, if◌then◌else◌}
use Rattle.elf32_reader.specs.Relas.{rela_count}
use Rattle.psabi_relocs.specs.declared.reloc.Reloc.{Reloc}
use Rattle.psabi_relocs.specs.declared.row.Row.{Row}
use Rattle.psabi_relocs.specs.declared.row.Row.TheVariants.{Group}
use Rattle.psabi_relocs.specs.declared.row.Width.{Width}
use Rattle.psabi_relocs.specs.declared.row.Width.TheVariants.{Bits8, Bits16, Bits32, Bits6, Uleb128}
use Rattle.psabi_relocs.specs.declared.row.Step.{Step}
use Rattle.psabi_relocs.specs.declared.row.Step.TheVariants.{Add, Sub, Set}
use Rattle.psabi_relocs.specs.Row.{is_same}
use Rattle.psabi_relocs.specs.Reloc.{reloc}
use Rattle.psabi_relocs.specs.Field.{moved}

-- how many bits a number has; one of ULEB128 form has `bytes` bytes
abbrev pub bits : Width → ℕ → ℕ
bits Bits8 bytes = 8
bits Bits16 bytes = 16
bits Bits32 bytes = 32
bits Bits6 bytes = 6
bits Uleb128 bytes = 7 * bytes

-- the number that a step leaves of the number v, modulo m, where s is S + A
abbrev pub computed : Step → ℕ → ℕ → ℕ → ℕ
computed Add m s v = (v + s) % m
computed Sub m s v = (v + (m - s % m)) % m
computed Set m s v = s % m

-- a group's row of this width computes the number anew, other rows leave it
abbrev pub row_number : Width → ℕ → Row → ℕ → ℕ → ℕ
row_number width m (Group own step) s v = if is_same own width then computed step m s v else v
row_number width m _ s v = v

-- the number at the place q and of a width, after an entry at addresses that are raised by d
abbrev pub entry_number : ℕ → Width → ℕ → ℕ → Reloc → ℕ → ℕ
entry_number q width m d r v = if r.place == q then row_number width m r.row (moved d r + r.addend) v else v

-- the same after the first n entries of the kept section i, which find the number v
unfoldable pub number_below : List ℕ → ℕ → ℕ → Width → ℕ → ℕ → ℕ → ℕ → ℕ
number_below e i q width m d v zero = v
number_below e i q width m d v (suc n) = entry_number q width m d (reloc e i n) (number_below e i q width m d v n)

-- after all entries of the kept section i
unfoldable pub group_number : List ℕ → ℕ → ℕ → Width → ℕ → ℕ → ℕ → ℕ
group_number e i q width bytes d v = number_below e i q width (2 ^ bits width bytes) d v (rela_count e i)
