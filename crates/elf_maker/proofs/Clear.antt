-- The rows of the reader's table of faults, none of which holds.
use Rattle.std.proofs.Common.{◌≡◌, ◌≢◌, ℕ, ◌+◌, ◌*◌, ◌^◌, ◌<◌, ◌≤◌, ◌==◌, ltb, not, true, false, List, ◌++◌, length, None, refl, ap, arith}
use Rattle.std.specs.Int.Bits.{bit_and}
use Rattle.std.proofs.lemmas.Bool.{and_from, and_left, and_right, or_from, le-ltb, le-leb, eq-eqb, ne_eqb, not_from_true, not_from_false}
use Rattle.std.proofs.lemmas.List.{length-append}
use Rattle.elf32_reader.specs.declared.section.Section.{Section}
use Rattle.elf32_reader.specs.Numbers.{u8_at, u16_at, u32_at}
use Rattle.elf32_reader.specs.Header.{table_of, count_of}
use Rattle.elf32_reader.specs.Sections.{section, is_allocated, has_content, is_of_kind}
use Rattle.elf32_reader.specs.Symbols.{is_symtab}
use Rattle.elf32_reader.specs.Relas.{is_static_relocation, is_kept}
use Rattle.elf32_reader.specs.Faults.{has_magic, is_current, has_table, header_fault, passes_end, is_bad_symtab, is_bad_rela, section_fault, elf_fault}
use Rattle.elf_maker.specs.Spelling.{Item, words_text, halves_text, header_text}
use Rattle.elf_maker.proofs.Places.{Stands, length-header_text, table_read, count_read}
use Rattle.byte_words.proofs.Searches.{none_below}
use Rattle.byte_words.specs.Numbers.{byte_at, number_at}

-- ---- the header

header_none : (y : List ℕ) → 52 ≤ length y → has_magic y ≡ true → u8_at y 4 ≡ 1 → u8_at y 5 ≡ 1 → is_current y ≡ true → u16_at y 16 ≡ 2 → u16_at y 18 ≡ 243 → bit_and (u32_at y 36) 15 ≡ 0 → has_table y ≡ true
    → header_fault y ≡ None
unfolding header_fault
header_none y long magic class order current type machine flags table =
    let short : ltb (length y) 52 ≡ false = le-ltb _ _ long in
    rw (short, magic, class, order, current, type, machine, flags, table) refl

magic_is : (entry table count : ℕ) (rest : List ℕ) → has_magic (header_text entry table count ++ rest) ≡ true
unfolding has_magic byte_at header_text
magic_is entry table count rest = refl

class_is : (entry table count : ℕ) (rest : List ℕ) → u8_at (header_text entry table count ++ rest) 4 ≡ 1
unfolding byte_at header_text
class_is entry table count rest = refl

order_is : (entry table count : ℕ) (rest : List ℕ) → u8_at (header_text entry table count ++ rest) 5 ≡ 1
unfolding byte_at header_text
order_is entry table count rest = refl

current_is : (entry table count : ℕ) (rest : List ℕ) → is_current (header_text entry table count ++ rest) ≡ true
unfolding is_current byte_at number_at header_text words_text halves_text
current_is entry table count rest = refl

type_is : (entry table count : ℕ) (rest : List ℕ) → u16_at (header_text entry table count ++ rest) 16 ≡ 2
unfolding number_at header_text words_text halves_text
type_is entry table count rest = refl

machine_is : (entry table count : ℕ) (rest : List ℕ) → u16_at (header_text entry table count ++ rest) 18 ≡ 243
unfolding number_at header_text words_text halves_text
machine_is entry table count rest = refl

flags_are : (entry table count : ℕ) (rest : List ℕ) → bit_and (u32_at (header_text entry table count ++ rest) 36) 15 ≡ 0
unfolding number_at header_text words_text halves_text
flags_are entry table count rest = refl

entsize_is : (entry table count : ℕ) (rest : List ℕ) → u16_at (header_text entry table count ++ rest) 46 ≡ 40
unfolding number_at header_text words_text halves_text
entsize_is entry table count rest = refl

has_table_from : (y : List ℕ) → u16_at y 46 ≡ 40 → 0 < count_of y → count_of y ≤ 4096 → table_of y + 40 * count_of y ≤ length y → has_table y ≡ true
unfolding has_table
has_table_from y entsize some few fits =
    and_from _ _ (and_from _ _ (and_from _ _ (eq-eqb _ _ entsize) (not_from_false _ (ne_eqb _ _ (λ e. omega arith)))) (le-leb _ _ few)) (le-leb _ _ fits)

pub header_clear : (entry table count : ℕ) (rest : List ℕ) → table < 2 ^ 32 → 0 < count → count ≤ 4096 → table + 40 * count ≤ 52 + length rest → header_fault (header_text entry table count ++ rest) ≡ None
header_clear entry table count rest below some few fits =
    let y = header_text entry table count ++ rest in
    let len : length y ≡ 52 + length rest = omega (arith, length-append (header_text entry table count) rest, length-header_text entry table count) in
    let counted = count_read entry table count rest (omega arith) in
    let placed = table_read entry table count rest below in
    header_none y (omega (arith, len)) (magic_is entry table count rest) (class_is entry table count rest) (order_is entry table count rest) (current_is entry table count rest)
    (type_is entry table count rest) (machine_is entry table count rest) (flags_are entry table count rest)
    (has_table_from y (entsize_is entry table count rest) (omega (arith, counted)) (omega (arith, counted)) (omega (arith, counted, placed, len)))

-- ---- one section

-- section k is no reason for a fault
pub record IsClear (e : List ℕ) (k : ℕ) : Type 0 where
  pub range : passes_end e k ≡ false
  pub symtab : is_bad_symtab e k ≡ false
  pub rela : is_bad_rela e k ≡ false

pub sections_clear : (e : List ℕ) → ((k : ℕ) → k < count_of e → IsClear e k) → section_fault e ≡ None
unfolding section_fault
sections_clear e each =
    let ranges = none_below (passes_end e) (count_of e) (λ k lt. (each k lt).range) in
    let symtabs = none_below (is_bad_symtab e) (count_of e) (λ k lt. (each k lt).symtab) in
    let relas = none_below (is_bad_rela e) (count_of e) (λ k lt. (each k lt).rela) in
    rw (ranges, symtabs, relas) refl

pub no_fault_from : (e : List ℕ) → header_fault e ≡ None → section_fault e ≡ None → elf_fault e ≡ None
unfolding elf_fault
no_fault_from e header sections = rw (header, sections) refl

-- its content lies in the file
pub range_sized : (e : List ℕ) (k : ℕ) (x : Item) → Stands e k x → x.header.size ≡ length x.bytes → passes_end e k ≡ false
unfolding passes_end
range_sized e k x st sized =
    let at : (section e k).offset ≡ st.offset = ap (λ (s : Section). s.offset) st.is in
    let size : (section e k).size ≡ x.header.size = ap (λ (s : Section). s.size) st.is in
    let fits : (section e k).offset + (section e k).size ≤ length e = omega (arith, at, size, sized, st.room) in
    and_right _ _ (le-ltb _ _ fits)

-- or it is of a type without content
pub range_nobits : (e : List ℕ) (k : ℕ) → (section e k).kind ≡ 8 → passes_end e k ≡ false
unfolding passes_end has_content
range_nobits e k kind = and_left _ _ (and_right _ _ (not_from_true _ (eq-eqb _ _ kind)))

pub range_null : (e : List ℕ) (k : ℕ) → (section e k).kind ≡ 0 → passes_end e k ≡ false
unfolding passes_end has_content
range_null e k kind = and_left _ _ (and_left _ _ (not_from_true _ (eq-eqb _ _ kind)))

pub no_symtab : (e : List ℕ) (k : ℕ) → (section e k).kind ≢ 2 → is_symtab e k ≡ false
unfolding is_symtab is_of_kind
no_symtab e k other = and_right _ _ (ne_eqb _ _ other)

pub symtab_clear : (e : List ℕ) (k : ℕ) → is_symtab e k ≡ false → is_bad_symtab e k ≡ false
unfolding is_bad_symtab
symtab_clear e k is = and_left _ _ is

pub not_static : (s : Section) → s.kind ≢ 4 → s.kind ≢ 9 → is_static_relocation s ≡ false
unfolding is_static_relocation
not_static s rela rel = and_left _ _ (or_from _ _ (ne_eqb _ _ rela) (ne_eqb _ _ rel))

pub allocated_static : (s : Section) → is_allocated s ≡ true → is_static_relocation s ≡ false
unfolding is_static_relocation
allocated_static s is = and_right _ _ (not_from_true _ is)

pub not_kept : (e : List ℕ) (k : ℕ) → is_static_relocation (section e k) ≡ false → is_kept e k ≡ false
unfolding is_kept
not_kept e k is = and_left _ _ (and_left _ _ (and_right _ _ is))

pub rela_clear : (e : List ℕ) (k : ℕ) → is_static_relocation (section e k) ≡ false → is_bad_rela e k ≡ false
unfolding is_bad_rela
rela_clear e k is = or_from _ _ (and_left _ _ is) (and_left _ _ (not_kept e k is))

pub allocated_from : (s : Section) → s.kind ≢ 0 → bit_and s.flags 2 ≢ 0 → is_allocated s ≡ true
unfolding is_allocated
allocated_from s kind flags = and_from _ _ (not_from_false _ (ne_eqb _ _ kind)) (not_from_false _ (ne_eqb _ _ flags))

pub unallocated_from : (s : Section) → s.flags ≡ 0 → is_allocated s ≡ false
unfolding is_allocated
unallocated_from s flags = and_right _ _ (ap (λ f. not (bit_and f 2 == 0)) flags)
