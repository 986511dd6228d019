-- What lies in the file, by the index that names it.
use Rattle.std.proofs.Common.{◌≡◌, ℕ, ◌+◌, ◌<◌, ◌≤◌, inl, inr, true, false, not, List, length, nat_eq, refl, sym, ap, arith, subst}
use Rattle.std.proofs.lemmas.Bool.{and_parts, and_from, or_cases, ltb-true, ltb-false, eqb-true, not-true}
use Rattle.std.proofs.lemmas.Grind.{common_steps}
use Rattle.elf32_reader.specs.declared.section.Section.{Section}
use Rattle.elf32_reader.specs.Header.{count_of}
use Rattle.elf32_reader.specs.Sections.{section, is_allocated, is_stored, has_content, content, is_of_kind}
use Rattle.elf32_reader.specs.Symbols.{is_symtab, symbol_count, symbol_offset}
use Rattle.elf32_reader.specs.Relas.{is_static_relocation, is_kept, rela_count, entry_offset}
use Rattle.elf32_reader.specs.Faults.{passes_end, has_symbol_shape, has_rela_shape}
use Rattle.elf32_reader.specs.Names.{names_index, has_names}
use Rattle.elf32_reader.specs.Tables.{HasRanges}
use Rattle.byte_words.proofs.Searches.{and_rest}

pub is_of_kind_below : (e : List ℕ) (i k : ℕ) → is_of_kind e i k ≡ true → i < count_of e
unfolding is_of_kind
is_of_kind_below e i k is = ltb-true _ _ (and_parts _ _ is).0

pub is_of_kind_kind : (e : List ℕ) (i k : ℕ) → is_of_kind e i k ≡ true → (section e i).kind ≡ k
unfolding is_of_kind
is_of_kind_kind e i k is = eqb-true _ _ (and_parts _ _ is).1

pub is_symtab_below : (e : List ℕ) (t : ℕ) → is_symtab e t ≡ true → t < count_of e
unfolding is_symtab
is_symtab_below e t is = is_of_kind_below e t 2 is

pub is_symtab_kind : (e : List ℕ) (t : ℕ) → is_symtab e t ≡ true → (section e t).kind ≡ 2
unfolding is_symtab
is_symtab_kind e t is = is_of_kind_kind e t 2 is

-- a section of another type than NULL and NOBITS has content
pub has_content_of_kind : (s : Section) (k : ℕ) → s.kind ≡ k → nat_eq k 0 ≡ false → nat_eq k 8 ≡ false → has_content s ≡ true
unfolding has_content
has_content_of_kind s k is null nobits =
    and_from _ _ (subst (λ n. not (nat_eq n 0) ≡ true) (sym is) (ap not null))
    (subst (λ n. not (nat_eq n 8) ≡ true) (sym is) (ap not nobits))

pub allocated_has_content : (s : Section) → is_allocated s ≡ true → is_stored s ≡ true → has_content s ≡ true
unfolding is_allocated is_stored has_content
allocated_has_content s allocated stored = and_from _ _ (and_parts _ _ allocated).0 stored

pub symbol_fits : (e : List ℕ) (t j : ℕ) → HasRanges e → is_symtab e t ≡ true → j < symbol_count e t → symbol_offset e t j + 16 ≤ length e
unfolding symbol_offset symbol_count
symbol_fits e t j ranges is below =
    let content = has_content_of_kind (section e t) 2 (is_symtab_kind e t is) refl refl in
    let fits = ranges.fits t (is_symtab_below e t is) content in
    omega arith

pub is_kept_below : (e : List ℕ) (i : ℕ) → is_kept e i ≡ true → i < count_of e
unfolding is_kept
is_kept_below e i is = ltb-true _ _ (and_parts _ _ (and_parts _ _ (and_parts _ _ is).0).0).0

pub is_kept_static : (e : List ℕ) (i : ℕ) → is_kept e i ≡ true → is_static_relocation (section e i) ≡ true
unfolding is_kept
is_kept_static e i is = (and_parts _ _ (and_parts _ _ (and_parts _ _ is).0).0).1

pub is_kept_info : (e : List ℕ) (i : ℕ) → is_kept e i ≡ true → (section e i).info < count_of e
unfolding is_kept
is_kept_info e i is = ltb-true _ _ (and_parts _ _ (and_parts _ _ is).0).1

pub is_kept_allocated : (e : List ℕ) (i : ℕ) → is_kept e i ≡ true → is_allocated (section e (section e i).info) ≡ true
unfolding is_kept
is_kept_allocated e i is = (and_parts _ _ is).1

pub has_content_static : (s : Section) → is_static_relocation s ≡ true → has_content s ≡ true
unfolding is_static_relocation
has_content_static s is =
    elim (or_cases _ _ (and_parts _ _ is).0) [
      | inl rela ↦ has_content_of_kind s 4 (eqb-true _ _ rela) refl refl
      | inr rel ↦ has_content_of_kind s 9 (eqb-true _ _ rel) refl refl
    ]

pub rela_fits : (e : List ℕ) (i j : ℕ) → HasRanges e → is_kept e i ≡ true → j < rela_count e i → entry_offset e i j + 12 ≤ length e
unfolding entry_offset rela_count
rela_fits e i j ranges is below =
    let content = has_content_static (section e i) (is_kept_static e i is) in
    let fits = ranges.fits i (is_kept_below e i is) content in
    omega arith

pub link_is_symtab : (e : List ℕ) (i : ℕ) → has_rela_shape e i ≡ true → is_symtab e (section e i).link ≡ true
unfolding has_rela_shape
link_is_symtab e i shape = (and_parts _ _ shape).1

pub link_is_strtab : (e : List ℕ) (t : ℕ) → has_symbol_shape e t ≡ true → is_of_kind e (section e t).link 3 ≡ true
unfolding has_symbol_shape
link_is_strtab e t shape = (and_parts _ _ shape).1

pub link_below : (e : List ℕ) (t : ℕ) → has_symbol_shape e t ≡ true → (section e t).link < count_of e
link_below e t shape = is_of_kind_below e _ 3 (link_is_strtab e t shape)

-- the string table of a symbol table lies in the file
pub strings_fit : (e : List ℕ) (t : ℕ) → HasRanges e → has_symbol_shape e t ≡ true
    → (section e (section e t).link).offset + (section e (section e t).link).size ≤ length e
strings_fit e t ranges shape =
    let is = link_is_strtab e t shape in
    let content = has_content_of_kind (section e (section e t).link) 3 (is_of_kind_kind e _ 3 is) refl refl in
    ranges.fits _ (is_of_kind_below e _ 3 is) content

pub length_content : (e : List ℕ) (s : Section) → s.offset + s.size ≤ length e → length (content e s) ≡ s.size
unfolding content
length_content e s fits = grind (arith, common_steps)

-- the table of section names lies in the file

names_parts : (e : List ℕ) → has_names e ≡ true → (is_of_kind e (names_index e) 3 ≡ true) × (passes_end e (names_index e) ≡ false)
unfolding has_names
names_parts e is =
    let whole = and_parts _ _ is in
    ((and_parts _ _ whole.0).1, not-true _ whole.1)

pub names_below : (e : List ℕ) → has_names e ≡ true → names_index e < count_of e
names_below e is = is_of_kind_below e _ 3 (names_parts e is).0

pub names_fit : (e : List ℕ) → has_names e ≡ true → (section e (names_index e)).offset + (section e (names_index e)).size ≤ length e
unfolding passes_end
names_fit e is =
    let parts = names_parts e is in
    let content = has_content_of_kind (section e (names_index e)) 3 (is_of_kind_kind e _ 3 parts.0) refl refl in
    ltb-false _ _ (and_rest _ _ parts.1 content)
