-- Which rows are of a file's header, and which of its section headers.
use Rattle.std.proofs.Common.{◌≡◌, ◌∙◌, ℕ, ◌≤◌, Bool, true, false, ◌&&◌, List, [], ◌∷◌, Option, Some, length, nat_lt, if◌then◌else◌, refl, sym, ap}
use Rattle.std.specs.Prelude.{not, ◌==◌, bit_and}
use Rattle.std.proofs.lemmas.Bool.{and_parts, ltb-false}
use Rattle.byte_words.specs.Search.{first}
use Rattle.elf32_reader.specs.declared.fault.ElfFault.{ElfFault}
use Rattle.elf32_reader.specs.declared.fault.ElfFault.TheVariants.{Short, Magic, Class, Order, Version, FileType, Machine, Flags, SectionTable, SectionRange, SymbolRange, RelaShape}
use Rattle.elf32_reader.specs.Numbers.{u8_at, u16_at, u32_at}
use Rattle.elf32_reader.specs.Faults.{has_magic, is_current, has_table, header_fault, section_fault}
use Rattle.fault_texts.specs.Lines.{index_text, header_text, found_text}

abbrev is_of_header : ElfFault → Bool
is_of_header SectionRange = false
is_of_header SymbolRange = false
is_of_header RelaShape = false
is_of_header _ = true

abbrev each_of_header : List (Bool × ElfFault) → Bool
each_of_header [] = true
each_of_header (row ∷ rows) = is_of_header row.1 && each_of_header rows

-- the first row of a table that holds is one of it
row_is : (b : Bool) (g f : ElfFault) (later : Option ElfFault) → is_of_header g ≡ true → (if b then Some g else later) ≡ Some f
    → (later ≡ Some f → is_of_header f ≡ true) → is_of_header f ≡ true
row_is true g f later here is rest = let same : g ≡ f = cc in ap is_of_header (sym same) ∙ here
row_is false g f later here is rest = rest is

first_of_header : (rows : List (Bool × ElfFault)) (f : ElfFault) → each_of_header rows ≡ true → first rows ≡ Some f → is_of_header f ≡ true
first_of_header [] f each is = absurd cc
first_of_header (row ∷ rows) f each is =
    let parts = and_parts _ _ each in row_is row.0 row.1 f (first rows) parts.0 is (first_of_header rows f parts.1)

-- the rows of the header behind the first
abbrev later_rows : List ℕ → List (Bool × ElfFault)
later_rows e =
    (not (has_magic e), Magic)
    ∷ (not (u8_at e 4 == 1), Class)
    ∷ (not (u8_at e 5 == 1), Order)
    ∷ (not (is_current e), Version)
    ∷ (not (u16_at e 16 == 2), FileType)
    ∷ (not (u16_at e 18 == 243), Machine)
    ∷ (not (bit_and (u32_at e 36) 15 == 0), Flags)
    ∷ (not (has_table e), SectionTable)
    ∷ []

of_header : (e : List ℕ) (f : ElfFault) → header_fault e ≡ Some f → is_of_header f ≡ true
unfolding header_fault
of_header e f is = first_of_header ((nat_lt (length e) 52, Short) ∷ later_rows e) f refl is

no_section : (e : List ℕ) (f : ElfFault) → is_of_header f ≡ true → found_text e 0 f ≡ header_text e f
no_section e Short row = refl
no_section e Magic row = refl
no_section e Class row = refl
no_section e Order row = refl
no_section e Version row = refl
no_section e FileType row = refl
no_section e Machine row = refl
no_section e Flags row = refl
no_section e SectionTable row = refl
no_section e SectionRange row = absurd cc
no_section e SymbolRange row = absurd cc
no_section e RelaShape row = absurd cc

-- a fault of the header speaks of no section
pub header_found : (e : List ℕ) (f : ElfFault) → header_fault e ≡ Some f → found_text e 0 f ≡ header_text e f
header_found e f is = no_section e f (of_header e f is)

rows_found : (e : List ℕ) (i : ℕ) (f : ElfFault) (a b c : Bool) → first ((a, SectionRange) ∷ (b, SymbolRange) ∷ (c, RelaShape) ∷ []) ≡ Some f
    → found_text e i f ≡ index_text e i
rows_found e i f true b c is = let same : SectionRange ≡ f = cc in ap (found_text e i) (sym same)
rows_found e i f false true c is = let same : SymbolRange ≡ f = cc in ap (found_text e i) (sym same)
rows_found e i f false false true is = let same : RelaShape ≡ f = cc in ap (found_text e i) (sym same)
rows_found e i f false false false is = absurd cc

-- and one of a section header of that section alone
pub section_found : (e : List ℕ) (i : ℕ) (f : ElfFault) → section_fault e ≡ Some f → found_text e i f ≡ index_text e i
unfolding section_fault
section_found e i f is = rows_found e i f _ _ _ is

abbrev is_short : ElfFault → Bool
is_short Short = true
is_short _ = false

not_first : (b : Bool) (rows : List (Bool × ElfFault)) (f : ElfFault) → first ((b, Short) ∷ rows) ≡ Some f → is_short f ≡ false → b ≡ false
not_first true rows f is other = let same : Short ≡ f = cc in absurd (let no : true ≡ false = ap is_short same ∙ other in cc)
not_first false rows f is other = refl

-- where the fault isn't Short the header is whole
pub is_whole : (e : List ℕ) (f : ElfFault) → header_fault e ≡ Some f → is_short f ≡ false → 52 ≤ length e
unfolding header_fault
is_whole e f is other = ltb-false (length e) 52 (not_first (nat_lt (length e) 52) (later_rows e) f is other)

pub whole_class : (e : List ℕ) (f : ElfFault) → header_fault e ≡ Some f → f ≡ Class → 52 ≤ length e
whole_class e f is kind = is_whole e f is (ap is_short kind)

pub whole_order : (e : List ℕ) (f : ElfFault) → header_fault e ≡ Some f → f ≡ Order → 52 ≤ length e
whole_order e f is kind = is_whole e f is (ap is_short kind)

pub whole_type : (e : List ℕ) (f : ElfFault) → header_fault e ≡ Some f → f ≡ FileType → 52 ≤ length e
whole_type e f is kind = is_whole e f is (ap is_short kind)

pub whole_machine : (e : List ℕ) (f : ElfFault) → header_fault e ≡ Some f → f ≡ Machine → 52 ≤ length e
whole_machine e f is kind = is_whole e f is (ap is_short kind)

pub whole_flags : (e : List ℕ) (f : ElfFault) → header_fault e ≡ Some f → f ≡ Flags → 52 ≤ length e
whole_flags e f is kind = is_whole e f is (ap is_short kind)
