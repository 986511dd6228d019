-- What is known of an accepted file.
use Rattle.std.proofs.Common.{◌≡◌, ℕ, ◌+◌, ◌^◌, ◌<◌, ◌≤◌, Bool, true, false, List, ◌∷◌, length, drop, Option, Some, None, slice_index, nat_lt, refl, arith}
use Rattle.std.specs.Option.{option_or}
use Rattle.std.proofs.lemmas.Bool.{and_parts, ltb-false, leb-true, leb-false, eqb-false, not-true, not-false}
use Rattle.std.proofs.lemmas.Bool.Decides.{nat_tests}
use Rattle.std.specs.Int.{w32, cast_unsigned}
use Rattle.std.proofs.lemmas.Int.{of_z-to_z}
use Rattle.std.proofs.lemmas.List.{get_or-drop}
use Rattle.byteorder.specs.Numbers.{little_from-lt}
use Rattle.elf32_reader.specs.Numbers.{u8_at, u16_at, u32_at}
use Rattle.elf32_reader.specs.declared.section.Section.{Section}
use Rattle.elf32_reader.specs.declared.symbol.Symbol.{Symbol}
use Rattle.elf32_reader.specs.declared.rela.Rela.{Rela}
use Rattle.byte_words.specs.Search.{any_below, first}
use Rattle.elf32_reader.specs.Header.{count_of}
use Rattle.elf32_reader.specs.Sections.{section, is_allocated, is_stored, has_content}
use Rattle.elf32_reader.specs.Symbols.{is_symtab, symbol_count, symbol}
use Rattle.elf32_reader.specs.Relas.{is_kept, rela_count, entry_offset, addend_word, rela}
use Rattle.elf32_reader.specs.Faults.{has_table, header_fault, passes_end, is_nameless, is_bad_symtab, is_symbolless, is_bad_rela, section_fault, elf_fault}
use Rattle.elf32_reader.specs.Accepted.{IsAccepted}
use Rattle.elf32_reader.specs.Tables.{HasTable, HasRanges, IsSymtab, IsRelas, IsElf}
use Rattle.byte_words.proofs.Searches.{or_parts, and_rest, any_below_none}
use Rattle.elf32_reader.proofs.Places.{is_symtab_below, is_kept_below, allocated_has_content, link_is_symtab}
use Rattle.byte_words.specs.Numbers.{byte_at, number_at}

-- where no row holds, the first one doesn't, and no later one does
pub first_none : {F : Type 0} (b : Bool) (f : F) (rows : List (Bool × F)) → first ((b, f) ∷ rows) ≡ None → (b ≡ false) × (first rows ≡ None)
first_none true f rows e = absurd (cc)
first_none false f rows e = (refl, e)

pub option_or-none : {F : Type 0} (a b : Option F) → option_or a b ≡ None → (a ≡ None) × (b ≡ None)
option_or-none None b e = (refl, e)
option_or-none (Some x) b e = absurd (cc)

pub header_clear : (e : List ℕ) → elf_fault e ≡ None → header_fault e ≡ None
unfolding elf_fault
header_clear e clear = (option_or-none (header_fault e) (section_fault e) clear).0

pub sections_clear : (e : List ℕ) → elf_fault e ≡ None → section_fault e ≡ None
unfolding elf_fault
sections_clear e clear = (option_or-none (header_fault e) (section_fault e) clear).1

header_long : (e : List ℕ) → header_fault e ≡ None → nat_lt (length e) 52 ≡ false
unfolding header_fault
header_long e clear = grind (arith, nat_tests)

header_table : (e : List ℕ) → header_fault e ≡ None → has_table e ≡ true
unfolding header_fault
header_table e clear = grind (arith, nat_tests)

pub has_table_parts : (e : List ℕ) → has_table e ≡ true → 52 ≤ length e → HasTable e
unfolding has_table
has_table_parts e is long =
    let whole = and_parts _ _ is in
    let few = and_parts _ _ whole.0 in
    let some = and_parts _ _ few.0 in
    let nonzero = eqb-false _ _ (not-true _ some.1) in
    let least : (count_of e ≡ 0 → ⊥) = nonzero in
    record {
      long = long;
      some = omega arith;
      few = leb-true _ _ few.1;
      whole = leb-true _ _ whole.1;
    }

-- the tables of a file whose header has no fault
pub table_from_header : (e : List ℕ) → header_fault e ≡ None → HasTable e
table_from_header e clear =
    has_table_parts e (header_table e clear) (ltb-false _ _ (header_long e clear))

section_fits : (e : List ℕ) (i : ℕ) → passes_end e i ≡ false → has_content (section e i) ≡ true → (section e i).offset + (section e i).size ≤ length e
unfolding passes_end
section_fits e i inside is = ltb-false _ _ (and_rest _ _ inside is)

-- the content of the sections, where none passes the end
pub ranges_from_search : (e : List ℕ) → HasTable e → any_below (passes_end e) (count_of e) ≡ false → HasRanges e
ranges_from_search e table none = record {
  table = table;
  fits = λ i below is. section_fits e i (any_below_none (passes_end e) (count_of e) i none below) is;
}

symbol_named : (e : List ℕ) (t j : ℕ) → is_nameless e t j ≡ false → (symbol e t j).name < (section e (section e t).link).size
unfolding is_nameless
symbol_named e t j named = leb-false _ _ named

symtab_from_row : (e : List ℕ) (t : ℕ) → is_bad_symtab e t ≡ false → is_symtab e t ≡ true → IsSymtab e t
unfolding is_bad_symtab
symtab_from_row e t good is =
    let parts = or_parts _ _ (and_rest _ _ good is) in
    record {
      shape = not-false _ parts.0;
      named = λ j below. symbol_named e t j (any_below_none (is_nameless e t) (symbol_count e t) j parts.1 below);
    }

-- the symbol tables, where none is bad
pub symtabs_from_search : (e : List ℕ) → any_below (is_bad_symtab e) (count_of e) ≡ false → (t : ℕ) → is_symtab e t ≡ true → IsSymtab e t
symtabs_from_search e none t is = symtab_from_row e t (any_below_none (is_bad_symtab e) (count_of e) t none (is_symtab_below e t is)) is

entry_has_symbol : (e : List ℕ) (i j : ℕ) → is_symbolless e i j ≡ false → (rela e i j).symbol < symbol_count e (section e i).link
unfolding is_symbolless
entry_has_symbol e i j has = leb-false _ _ has

relas_from_row : (e : List ℕ) (i : ℕ) → is_bad_rela e i ≡ false → is_kept e i ≡ true → IsRelas e i
unfolding is_bad_rela
relas_from_row e i good is =
    let rows = or_parts _ _ good in
    let parts = or_parts _ _ (and_rest _ _ rows.1 is) in
    record {
      shape = not-false _ parts.0;
      symbols = λ j below. entry_has_symbol e i j (any_below_none (is_symbolless e i) (rela_count e i) j parts.1 below);
    }

-- the kept relocation sections, where none is bad
pub relas_from_search : (e : List ℕ) → any_below (is_bad_rela e) (count_of e) ≡ false → (i : ℕ) → is_kept e i ≡ true → IsRelas e i
relas_from_search e none i is = relas_from_row e i (any_below_none (is_bad_rela e) (count_of e) i none (is_kept_below e i is)) is

ranges_clear : (e : List ℕ) → section_fault e ≡ None → any_below (passes_end e) (count_of e) ≡ false
unfolding section_fault
ranges_clear e clear = grind (arith, nat_tests)

symtabs_clear : (e : List ℕ) → section_fault e ≡ None → any_below (is_bad_symtab e) (count_of e) ≡ false
unfolding section_fault
symtabs_clear e clear = grind (arith, nat_tests)

relas_clear : (e : List ℕ) → section_fault e ≡ None → any_below (is_bad_rela e) (count_of e) ≡ false
unfolding section_fault
relas_clear e clear = grind (arith, nat_tests)

pub has_table_of : (e : List ℕ) → elf_fault e ≡ None → HasTable e
has_table_of e clear = table_from_header e (header_clear e clear)

pub has_ranges_of : (e : List ℕ) → elf_fault e ≡ None → HasRanges e
has_ranges_of e clear = ranges_from_search e (has_table_of e clear) (ranges_clear e (sections_clear e clear))

pub is_symtab_of : (e : List ℕ) (t : ℕ) → elf_fault e ≡ None → is_symtab e t ≡ true → IsSymtab e t
is_symtab_of e t clear = symtabs_from_search e (symtabs_clear e (sections_clear e clear)) t

pub is_relas_of : (e : List ℕ) (i : ℕ) → elf_fault e ≡ None → is_kept e i ≡ true → IsRelas e i
is_relas_of e i clear = relas_from_search e (relas_clear e (sections_clear e clear)) i

-- all that is known of an accepted file
pub is_elf : (e : List ℕ) → IsAccepted e → IsElf e
is_elf e accepted = record {
  accepted = accepted;
  ranges = has_ranges_of e accepted.no_fault;
  symtabs = λ t. is_symtab_of e t accepted.no_fault;
  relas = λ i. is_relas_of e i accepted.no_fault;
}

-- the same facts one by one

pub is_long : (e : List ℕ) → elf_fault e ≡ None → 52 ≤ length e
is_long e clear = (has_table_of e clear).long

pub count_above : (e : List ℕ) → elf_fault e ≡ None → 0 < count_of e
count_above e clear = (has_table_of e clear).some

pub count_below : (e : List ℕ) → elf_fault e ≡ None → count_of e ≤ 4096
count_below e clear = (has_table_of e clear).few

pub content_fits : (e : List ℕ) (i : ℕ) → elf_fault e ≡ None → i < count_of e → has_content (section e i) ≡ true
    → (section e i).offset + (section e i).size ≤ length e
content_fits e i clear = (has_ranges_of e clear).fits i

-- the content of an allocated section that is stored
pub stored_fits : (e : List ℕ) (i : ℕ) → elf_fault e ≡ None → i < count_of e → is_allocated (section e i) ≡ true → is_stored (section e i) ≡ true
    → (section e i).offset + (section e i).size ≤ length e
stored_fits e i clear below allocated stored = content_fits e i clear below (allocated_has_content (section e i) allocated stored)

pub kept_link : (e : List ℕ) (i : ℕ) → elf_fault e ≡ None → is_kept e i ≡ true → is_symtab e (section e i).link ≡ true
kept_link e i clear is = link_is_symtab e i (is_relas_of e i clear is).shape

pub entry_symbol : (e : List ℕ) (i j : ℕ) → elf_fault e ≡ None → is_kept e i ≡ true → j < rela_count e i
    → (rela e i j).symbol < symbol_count e (section e i).link
entry_symbol e i j clear is below = (is_relas_of e i clear is).symbols j below

-- numbers of a list of bytes, by their width
pub u8_at_fits : (e : List ℕ) (at : ℕ) → ((k : ℕ) → slice_index e k < 256) → u8_at e at < 256
unfolding byte_at
u8_at_fits e at bytes = bytes at

drop_bytes : (e : List ℕ) (at : ℕ) → ((k : ℕ) → slice_index e k < 256) → (k : ℕ) → slice_index (drop at e) k < 256
drop_bytes e at bytes k = rw get_or-drop (bytes _)

pub u16_at_fits : (e : List ℕ) (at : ℕ) → ((k : ℕ) → slice_index e k < 256) → u16_at e at < 2 ^ 16
unfolding number_at
u16_at_fits e at bytes = little_from-lt 0 2 (drop at e) (drop_bytes e at bytes)

pub u32_at_fits : (e : List ℕ) (at : ℕ) → ((k : ℕ) → slice_index e k < 256) → u32_at e at < 2 ^ 32
unfolding number_at
u32_at_fits e at bytes = little_from-lt 0 4 (drop at e) (drop_bytes e at bytes)

pub addend_word_fits : (e : List ℕ) (i j : ℕ) → IsAccepted e → addend_word e i j < 2 ^ 32
unfolding addend_word
addend_word_fits e i j accepted = u32_at_fits e _ accepted.bytes

-- the addend's word is the stored one
pub cast_unsigned-addend : (e : List ℕ) (i j : ℕ) → IsAccepted e → cast_unsigned w32 (rela e i j).addend ≡ addend_word e i j
unfolding rela
cast_unsigned-addend e i j accepted = of_z-to_z w32 (addend_word e i j) (addend_word_fits e i j accepted)

-- the fields of a section header
pub record FitsSection (s : Section) : Type 0 where
  pub name : s.name < 2 ^ 32
  pub kind : s.kind < 2 ^ 32
  pub flags : s.flags < 2 ^ 32
  pub addr : s.addr < 2 ^ 32
  pub offset : s.offset < 2 ^ 32
  pub size : s.size < 2 ^ 32
  pub link : s.link < 2 ^ 32
  pub info : s.info < 2 ^ 32
  pub addralign : s.addralign < 2 ^ 32
  pub entsize : s.entsize < 2 ^ 32

pub section_fits_words : (e : List ℕ) (i : ℕ) → ((k : ℕ) → slice_index e k < 256) → FitsSection (section e i)
unfolding section
section_fits_words e i bytes = record {
  name = u32_at_fits e _ bytes;
  kind = u32_at_fits e _ bytes;
  flags = u32_at_fits e _ bytes;
  addr = u32_at_fits e _ bytes;
  offset = u32_at_fits e _ bytes;
  size = u32_at_fits e _ bytes;
  link = u32_at_fits e _ bytes;
  info = u32_at_fits e _ bytes;
  addralign = u32_at_fits e _ bytes;
  entsize = u32_at_fits e _ bytes;
}

-- the fields of a symbol
pub record FitsSymbol (s : Symbol) : Type 0 where
  pub name : s.name < 2 ^ 32
  pub value : s.value < 2 ^ 32
  pub size : s.size < 2 ^ 32
  pub info : s.info < 256
  pub other : s.other < 256
  pub shndx : s.shndx < 2 ^ 16

pub symbol_fits_words : (e : List ℕ) (t j : ℕ) → ((k : ℕ) → slice_index e k < 256) → FitsSymbol (symbol e t j)
unfolding symbol
symbol_fits_words e t j bytes = record {
  name = u32_at_fits e _ bytes;
  value = u32_at_fits e _ bytes;
  size = u32_at_fits e _ bytes;
  info = u8_at_fits e _ bytes;
  other = u8_at_fits e _ bytes;
  shndx = u16_at_fits e _ bytes;
}

-- the fields of an entry
pub record FitsRela (r : Rela) : Type 0 where
  pub offset : r.offset < 2 ^ 32
  pub symbol : r.symbol < 2 ^ 24
  pub kind : r.kind < 256

pub rela_fits_words : (e : List ℕ) (i j : ℕ) → ((k : ℕ) → slice_index e k < 256) → FitsRela (rela e i j)
unfolding rela
rela_fits_words e i j bytes =
    let info = u32_at_fits e (entry_offset e i j + 4) bytes in
    record {
      offset = u32_at_fits e _ bytes;
      symbol = omega arith;
      kind = omega arith;
    }
