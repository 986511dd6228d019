-- What is written says just what was given.
use Rattle.std.proofs.Common.{Vec, Global, ◌≡◌, ◌≢◌, ℕ, zero, suc, ◌+◌, ◌*◌, ◌%◌, ◌^◌, ◌<◌, ◌≤◌, ◌==◌, leb, true, false, List, [], ◌∷◌, ◌++◌, length, map, take, drop, get_or, Some, None, Result, Ok, Err, IfOk, OnOk, refl, sym, ap, ◌∙◌, subst, arith, inl, inr}
use Rattle.std.specs.List.{slice_get, All, flat_map, before_first}
use Rattle.std.specs.declared.alloc.AllocError.{AllocError}
use Rattle.std.specs.Int.Bits.{bit_and}
use Rattle.std.proofs.lemmas.Bool.{cases_eq, cases_lt, and_from, and_left, and_right, or_from, or_left, le-ltb, lt-ltb, lt-leb, eq-eqb, not_from_true, not_from_false}
use Rattle.std.proofs.lemmas.List.{length-append, length-map}
use Rattle.std.proofs.lemmas.List.Elements.{All-filter}
use Rattle.std.proofs.lemmas.Option.{slice_get_within, slice_get_cases}
use Rattle.elf32_reader.specs.declared.section.Section.{Section}
use Rattle.elf32_reader.specs.declared.symbol.Symbol.{Symbol}
use Rattle.elf32_reader.specs.declared.rela.Rela.{Rela}
use Rattle.elf32_reader.specs.Numbers.{u8_at, u16_at, u32_at}
use Rattle.elf32_reader.specs.Header.{entry_of, count_of}
use Rattle.elf32_reader.specs.Sections.{section, is_allocated, content, is_of_kind}
use Rattle.elf32_reader.specs.Symbols.{is_symtab, symbol_count, symbol_at, symbol_offset, symbol, name_of}
use Rattle.elf32_reader.specs.Relas.{is_static_relocation, is_kept, rela_count, entry_offset, rela}
use Rattle.elf32_reader.specs.Faults.{header_fault, passes_end, is_nameless, has_symbol_shape, is_bad_symtab, is_symbolless, has_rela_shape, is_bad_rela}
use Rattle.elf_maker.specs.declared.given.Part.{Part}
use Rattle.elf_maker.specs.declared.given.MakeSymbol.{MakeSymbol}
use Rattle.elf_maker.specs.declared.given.MakeRela.{MakeRela}
use Rattle.elf_maker.specs.Given.{HasAlloc, IsPart, HasPlainName, IsRela, relas_of, relocated}
use Rattle.elf_maker.specs.Makes.{HasHeader, HasPart, HasTableHeader, HasSymbol, HasSymbols, HasRelas, entry_of_rela, Makes}
use Rattle.elf_maker.specs.Fits.{FitsSymbol, FitsRela, FitsAll}
use Rattle.elf_maker.specs.Spelling.{Item, contents, placed, null_section, section_text, file_text, header_text, words_text, halves_text, header_of, part_header, part_item, table_header, table_item, no_symbol, symbol_text, name_text, names_text, symbols_text, symtab_text, strtab_text, symtab_item, strtab_item, rela_text, relas_text, all_items, spelled}
use Rattle.elf_maker.proofs.Bytes.{drop_behind, u8_from, u16_from, u32_from, u32_from_zero, entry_at}
use Rattle.elf_maker.proofs.Laid.{length-placed, flat_map_prefix, flat_map_room}
use Rattle.elf_maker.proofs.Sizes.{length-symtab_text, length-strtab_text, length-rela_text, length-relas_text}
use Rattle.elf_maker.proofs.Places.{file_of, IsSound, Stands, length-table, entry_is, count_is, null_is}
use Rattle.elf_maker.proofs.Entries.{inside, content_is, same_symbol, symbol_read, Begins, symbols_at, before_zero, name_at, rela_read}
use Rattle.elf_maker.proofs.Sections.{at_all, Fine, relas_item, behind, all_are, relocated_below, relocated_has, relocated_part, sound, part_stands, symtab_stands, strtab_stands, relas_stand, each_section}
use Rattle.elf_maker.proofs.Clear.{header_clear, IsClear, sections_clear, no_fault_from, range_sized, range_nobits, range_null, no_symtab, symtab_clear, not_static, allocated_static, not_kept, rela_clear, allocated_from, unallocated_from}
use Rattle.byte_words.proofs.Searches.{none_below}
use Rattle.byte_words.specs.Numbers.{byte_at, number_at}

-- ---- the file header

file_header_clear : (entry : ℕ) (items : List Item) → IsSound entry items → header_fault (file_of entry items) ≡ None
unfolding file_text
file_header_clear entry items is =
    let ss = null_section ∷ placed 52 items in
    let body = contents items in
    let counted = count_is entry items is in
    header_clear entry (52 + length body) (length ss) (body ++ flat_map section_text ss) (omega (arith, is.body)) (omega arith) (omega (arith, is.count, length-placed 52 items)) (omega (arith, length-append body (flat_map section_text ss), length-table ss))

has_header : (entry table count : ℕ) (rest : List ℕ) → HasHeader (header_text entry table count ++ rest)
unfolding header_text words_text halves_text number_at
has_header entry table count rest =
    record { ident = refl; flags = refl; ehsize = refl; phoff = refl; phentsize = refl; phnum = refl; shstrndx = refl }

file_has_header : (entry : ℕ) (items : List Item) → HasHeader (file_of entry items)
unfolding file_text
file_has_header entry items =
    let ss = null_section ∷ placed 52 items in
    let body = contents items in
    has_header entry (52 + length body) (length ss) (body ++ flat_map section_text ss)

-- ---- the fields of a section

record IsTable (e : List ℕ) (k kind size link info entsize : ℕ) : Type 0 where
  kind_is : (section e k).kind ≡ kind
  flags_are : (section e k).flags ≡ 0
  size_is : (section e k).size ≡ size
  link_is : (section e k).link ≡ link
  info_is : (section e k).info ≡ info
  entsize_is : (section e k).entsize ≡ entsize

table_fields : (e : List ℕ) (k kind : ℕ) (bytes : List ℕ) (link info entsize : ℕ) → Stands e k (table_item kind bytes link info entsize) → IsTable e k kind (length bytes) link info entsize
unfolding table_header header_of
table_fields e k kind bytes link info entsize st = record {
  kind_is = ap (λ (s : Section). s.kind) st.is;
  flags_are = ap (λ (s : Section). s.flags) st.is;
  size_is = ap (λ (s : Section). s.size) st.is;
  link_is = ap (λ (s : Section). s.link) st.is;
  info_is = ap (λ (s : Section). s.info) st.is;
  entsize_is = ap (λ (s : Section). s.entsize) st.is;
}

has_table_header : (e : List ℕ) (k kind : ℕ) (bytes : List ℕ) (link info entsize : ℕ) → Stands e k (table_item kind bytes link info entsize) → HasTableHeader e k kind link info entsize
unfolding table_header header_of
has_table_header e k kind bytes link info entsize st = record {
  kind = ap (λ (s : Section). s.kind) st.is;
  flags = ap (λ (s : Section). s.flags) st.is;
  addr = ap (λ (s : Section). s.addr) st.is;
  name = ap (λ (s : Section). s.name) st.is;
  link = ap (λ (s : Section). s.link) st.is;
  info = ap (λ (s : Section). s.info) st.is;
  addralign = ap (λ (s : Section). s.addralign) st.is;
  entsize = ap (λ (s : Section). s.entsize) st.is;
}

table_range : (e : List ℕ) (k kind : ℕ) (bytes : List ℕ) (link info entsize : ℕ) → Stands e k (table_item kind bytes link info entsize) → passes_end e k ≡ false
unfolding table_header header_of
table_range e k kind bytes link info entsize st = range_sized e k (table_item kind bytes link info entsize) st refl

table_content : (e : List ℕ) (k kind : ℕ) (bytes : List ℕ) (link info entsize : ℕ) → Stands e k (table_item kind bytes link info entsize) → content e (section e k) ≡ bytes
unfolding table_header header_of
table_content e k kind bytes link info entsize st = content_is e k (table_item kind bytes link info entsize) st refl

has_part : (e : List ℕ) (k : ℕ) (p : Part) → IsPart p → Stands e k (part_item p) → HasPart e k p
unfolding part_header header_of
has_part e k p ok st = record {
  kind = ap (λ (s : Section). s.kind) st.is;
  flags = ap (λ (s : Section). s.flags) st.is;
  addr = ap (λ (s : Section). s.addr) st.is;
  size = ap (λ (s : Section). s.size) st.is;
  name = ap (λ (s : Section). s.name) st.is;
  link = ap (λ (s : Section). s.link) st.is;
  info = ap (λ (s : Section). s.info) st.is;
  addralign = ap (λ (s : Section). s.addralign) st.is;
  entsize = ap (λ (s : Section). s.entsize) st.is;
  bytes = λ stored. content_is e k (part_item p) st (sym (ok.stored stored));
}

part_range : (e : List ℕ) (k : ℕ) (p : Part) → IsPart p → Stands e k (part_item p) → passes_end e k ≡ false
unfolding part_header header_of
part_range e k p ok st = elim (cases_eq p.kind 8) [
  | inl nobits ↦ range_nobits e k (ap (λ (s : Section). s.kind) st.is ∙ nobits)
  | inr stored ↦ range_sized e k (part_item p) st (sym (ok.stored stored))
]

part_allocated : (e : List ℕ) (k : ℕ) (p : Part) → IsPart p → HasPart e k p → HasAlloc p → is_allocated (section e k) ≡ true
part_allocated e k p ok has alloc =
    allocated_from (section e k) (λ zeroes. ok.not_null (sym has.kind ∙ zeroes)) (λ zeroes. alloc (ap (λ n. bit_and n 2) (sym has.flags) ∙ zeroes))

part_static : (e : List ℕ) (k : ℕ) (p : Part) → IsPart p → HasPart e k p → is_static_relocation (section e k) ≡ false
part_static e k p ok has = elim (cases_eq p.kind 4) [
  | inl rela ↦ allocated_static (section e k) (part_allocated e k p ok has (ok.rela rela))
  | inr rela ↦ (elim (cases_eq p.kind 9) [
    | inl rel ↦ allocated_static (section e k) (part_allocated e k p ok has (ok.rel rel))
    | inr rel ↦ not_static (section e k) (λ is. rela (sym has.kind ∙ is)) (λ is. rel (sym has.kind ∙ is))
  ])
]

part_clear : (e : List ℕ) (k : ℕ) (p : Part) → IsPart p → Stands e k (part_item p) → IsClear e k
part_clear e k p ok st =
    let has = has_part e k p ok st in
    record {
      range = part_range e k p ok st;
      symtab = symtab_clear e k (no_symtab e k (λ is. ok.not_symtab (sym has.kind ∙ is)));
      rela = rela_clear e k (part_static e k p ok has);
    }

-- ---- one file

count_made : (parts : List Part) (symbols : List MakeSymbol) (relas : List MakeRela) (entry : ℕ) → Fine parts symbols relas entry → count_of (spelled parts symbols relas entry) ≡ length parts + 3 + length (relocated (length parts) relas)
unfolding spelled
count_made parts symbols relas entry f =
    let n = length parts in
    omega (
      arith,
      count_is entry (all_items parts symbols relas) (sound parts symbols relas entry f),
      ap length (all_are parts symbols relas),
      length-append (map part_item parts) (behind n symbols relas),
      length-map parts part_item,
      length-map (relocated n relas) (relas_item (n + 1) relas),
    )

start_made : (parts : List Part) (symbols : List MakeSymbol) (relas : List MakeRela) (entry : ℕ) → Fine parts symbols relas entry → entry_of (spelled parts symbols relas entry) ≡ entry
unfolding spelled
start_made parts symbols relas entry f = entry_is entry (all_items parts symbols relas) (sound parts symbols relas entry f)

null_made : (parts : List Part) (symbols : List MakeSymbol) (relas : List MakeRela) (entry : ℕ) → Fine parts symbols relas entry → section (spelled parts symbols relas entry) 0 ≡ null_section
unfolding spelled
null_made parts symbols relas entry f = null_is entry (all_items parts symbols relas) (sound parts symbols relas entry f)

has_header_made : (parts : List Part) (symbols : List MakeSymbol) (relas : List MakeRela) (entry : ℕ) → HasHeader (spelled parts symbols relas entry)
unfolding spelled
has_header_made parts symbols relas entry = file_has_header entry (all_items parts symbols relas)

header_made : (parts : List Part) (symbols : List MakeSymbol) (relas : List MakeRela) (entry : ℕ) → Fine parts symbols relas entry → header_fault (spelled parts symbols relas entry) ≡ None
unfolding spelled
header_made parts symbols relas entry f = file_header_clear entry (all_items parts symbols relas) (sound parts symbols relas entry f)

-- ---- the symbol table

no_symbol_read : (y : List ℕ) (at : ℕ) (more : List ℕ) → drop at y ≡ no_symbol ++ more → symbol_at y at ≡ record { name = 0; value = 0; size = 0; info = 0; other = 0; shndx = 0 }
unfolding byte_at number_at
no_symbol_read y at more here =
    same_symbol (symbol_at y at) (record { name = 0; value = 0; size = 0; info = 0; other = 0; shndx = 0 })
    (u32_from_zero y at ∙ ap (λ z. u32_at z 0) here)
    (u32_from y at 4 ∙ ap (λ z. u32_at z 4) here)
    (u32_from y at 8 ∙ ap (λ z. u32_at z 8) here)
    (u8_from y at 12 ∙ ap (λ z. u8_at z 12) here)
    (u8_from y at 13 ∙ ap (λ z. u8_at z 13) here)
    (u16_from y at 14 ∙ ap (λ z. u16_at z 14) here)

first_symbol : (e : List ℕ) (t : ℕ) (symbols : List MakeSymbol) (x : Item) → x.bytes ≡ symtab_text symbols → Stands e t x → symbol e t 0 ≡ record { name = 0; value = 0; size = 0; info = 0; other = 0; shndx = 0 }
unfolding symbol symbol_offset symtab_text
first_symbol e t symbols x are st =
    no_symbol_read e ((section e t).offset + 16 * 0) (symbols_text 1 symbols ++ st.rest) (inside e t x st (16 * 0) ∙ ap (λ bs. bs ++ st.rest) are)

symbol_here : (e : List ℕ) (t : ℕ) (symbols : List MakeSymbol) (x : Item) → x.bytes ≡ symtab_text symbols → Stands e t x → (j : ℕ) (s : MakeSymbol) → slice_get symbols j ≡ Some s
    → Begins (drop (symbol_offset e t (suc j)) e) (symbol_text (1 + length (names_text (take j symbols))) s)
unfolding symbol_offset symtab_text
symbol_here e t symbols x are st j s is =
    let later = symbols_text 1 symbols ++ st.rest in
    let found = symbols_at 1 symbols j s st.rest is in
    record {
      more = found.more;
      is = inside e t x st (16 * suc j)
          ∙ ap (λ bs. drop (16 * suc j) (bs ++ st.rest)) are
          ∙ ap (λ k. drop k (no_symbol ++ later)) (let e : 16 * suc j ≡ 16 + 16 * j = omega arith in e)
          ∙ drop_behind no_symbol later 16 (16 * j) refl
          ∙ found.is;
    }

symbol_is : (e : List ℕ) (t : ℕ) (symbols : List MakeSymbol) (x : Item) → x.bytes ≡ symtab_text symbols → Stands e t x → (j : ℕ) (s : MakeSymbol) → slice_get symbols j ≡ Some s
    → FitsSymbol s → length (strtab_text symbols) < 2 ^ 31 → symbol e t (suc j) ≡ record { name = 1 + length (names_text (take j symbols)); value = s.value; size = 0; info = s.info; other = 0; shndx = s.shndx }
unfolding symbol strtab_text
symbol_is e t symbols x are st j s is fits small =
    let here = symbol_here e t symbols x are st j s is in
    symbol_read e (symbol_offset e t (suc j)) (1 + length (names_text (take j symbols))) s here.more here.is (omega (arith, flat_map_prefix name_text symbols j, small)) fits

strings_are : (e : List ℕ) (t u : ℕ) (symbols : List MakeSymbol) → (section e t).link ≡ u → Stands e u (strtab_item symbols) → content e (section e (section e t).link) ≡ strtab_text symbols
strings_are e t u symbols link st = ap (λ k. content e (section e k)) link ∙ table_content e u 3 (strtab_text symbols) 0 0 0 st

name_is : (e : List ℕ) (t : ℕ) (symbols : List MakeSymbol) → content e (section e (section e t).link) ≡ strtab_text symbols → (j : ℕ) (s : MakeSymbol) → slice_get symbols j ≡ Some s → HasPlainName s
    → (symbol e t (suc j)).name ≡ 1 + length (names_text (take j symbols)) → name_of e t (suc j) ≡ s.name.items
unfolding name_of strtab_text
name_is e t symbols strings j s is named at =
    let m = length (names_text (take j symbols)) in
    ap (λ k. before_first (λ b. b == 0) (drop k (content e (section e (section e t).link)))) at
    ∙ ap (λ bs. before_first (λ b. b == 0) (drop (1 + m) bs)) strings
    ∙ ap (before_first (λ b. b == 0)) (drop_behind (0 ∷ []) (names_text symbols) 1 m refl ∙ name_at symbols j s is)
    ∙ before_zero s.name.items (names_text (drop (suc j) symbols)) named

no_name_is : (e : List ℕ) (t : ℕ) (symbols : List MakeSymbol) → content e (section e (section e t).link) ≡ strtab_text symbols → (symbol e t 0).name ≡ 0 → name_of e t 0 ≡ []
unfolding name_of strtab_text
no_name_is e t symbols strings at =
    ap (λ k. before_first (λ b. b == 0) (drop k (content e (section e (section e t).link)))) at
    ∙ ap (λ bs. before_first (λ b. b == 0) (drop 0 bs)) strings

has_symbol : (e : List ℕ) (t : ℕ) (symbols : List MakeSymbol) (x : Item) → x.bytes ≡ symtab_text symbols → Stands e t x → content e (section e (section e t).link) ≡ strtab_text symbols → (j : ℕ) (s : MakeSymbol) → slice_get symbols j ≡ Some s
    → FitsSymbol s → HasPlainName s → length (strtab_text symbols) < 2 ^ 31 → HasSymbol e t (suc j) s
has_symbol e t symbols x are st strings j s is fits named small =
    let read = symbol_is e t symbols x are st j s is fits small in
    record {
      name = name_is e t symbols strings j s is named (ap (λ (y : Symbol). y.name) read);
      value = ap (λ (y : Symbol). y.value) read;
      size = ap (λ (y : Symbol). y.size) read;
      info = ap (λ (y : Symbol). y.info) read;
      other = ap (λ (y : Symbol). y.other) read;
      shndx = ap (λ (y : Symbol). y.shndx) read;
    }

strtab_small : (parts : List Part) (symbols : List MakeSymbol) (relas : List MakeRela) (entry : ℕ) → Fine parts symbols relas entry → length (strtab_text symbols) < 2 ^ 31
strtab_small parts symbols relas entry f = omega (arith, length-strtab_text symbols, f.few_symbols, f.few_bytes)

symtab_table : (parts : List Part) (symbols : List MakeSymbol) (relas : List MakeRela) (entry : ℕ) → Fine parts symbols relas entry → IsTable (spelled parts symbols relas entry) (length parts + 1) 2 (length (symtab_text symbols)) (length parts + 2) 1 16
symtab_table parts symbols relas entry f = table_fields (spelled parts symbols relas entry) (length parts + 1) 2 (symtab_text symbols) (length parts + 2) 1 16 (symtab_stands parts symbols relas entry f)

symtab_header : (parts : List Part) (symbols : List MakeSymbol) (relas : List MakeRela) (entry : ℕ) → Fine parts symbols relas entry → HasTableHeader (spelled parts symbols relas entry) (length parts + 1) 2 (length parts + 1 + 1) 1 16
symtab_header parts symbols relas entry f =
    let next : length parts + 2 ≡ length parts + 1 + 1 = omega arith in
    subst (λ u. HasTableHeader (spelled parts symbols relas entry) (length parts + 1) 2 u 1 16) next
    (has_table_header (spelled parts symbols relas entry) (length parts + 1) 2 (symtab_text symbols) (length parts + 2) 1 16 (symtab_stands parts symbols relas entry f))

strtab_header : (parts : List Part) (symbols : List MakeSymbol) (relas : List MakeRela) (entry : ℕ) → Fine parts symbols relas entry → HasTableHeader (spelled parts symbols relas entry) (length parts + 1 + 1) 3 0 0 0
strtab_header parts symbols relas entry f =
    let next : length parts + 2 ≡ length parts + 1 + 1 = omega arith in
    subst (λ u. HasTableHeader (spelled parts symbols relas entry) u 3 0 0 0) next
    (has_table_header (spelled parts symbols relas entry) (length parts + 2) 3 (strtab_text symbols) 0 0 0 (strtab_stands parts symbols relas entry f))

strtab_table : (parts : List Part) (symbols : List MakeSymbol) (relas : List MakeRela) (entry : ℕ) → Fine parts symbols relas entry → IsTable (spelled parts symbols relas entry) (length parts + 2) 3 (length (strtab_text symbols)) 0 0 0
strtab_table parts symbols relas entry f = table_fields (spelled parts symbols relas entry) (length parts + 2) 3 (strtab_text symbols) 0 0 0 (strtab_stands parts symbols relas entry f)

of_kind : (e : List ℕ) (k kind : ℕ) → k < count_of e → (section e k).kind ≡ kind → is_of_kind e k kind ≡ true
unfolding is_of_kind
of_kind e k kind below is = and_from _ _ (lt-ltb _ _ below) (eq-eqb _ _ is)

symtab_is : (parts : List Part) (symbols : List MakeSymbol) (relas : List MakeRela) (entry : ℕ) → Fine parts symbols relas entry → is_symtab (spelled parts symbols relas entry) (length parts + 1) ≡ true
unfolding is_symtab
symtab_is parts symbols relas entry f =
    of_kind (spelled parts symbols relas entry) (length parts + 1) 2 (omega (arith, count_made parts symbols relas entry f)) (symtab_table parts symbols relas entry f).kind_is

symbols_counted : (parts : List Part) (symbols : List MakeSymbol) (relas : List MakeRela) (entry : ℕ) → Fine parts symbols relas entry → symbol_count (spelled parts symbols relas entry) (length parts + 1) ≡ length symbols + 1
unfolding symbol_count
symbols_counted parts symbols relas entry f = omega (arith, (symtab_table parts symbols relas entry f).size_is, length-symtab_text symbols)

strings_made : (parts : List Part) (symbols : List MakeSymbol) (relas : List MakeRela) (entry : ℕ) → Fine parts symbols relas entry
    → content (spelled parts symbols relas entry) (section (spelled parts symbols relas entry) (section (spelled parts symbols relas entry) (length parts + 1)).link) ≡ strtab_text symbols
strings_made parts symbols relas entry f =
    strings_are (spelled parts symbols relas entry) (length parts + 1) (length parts + 2) symbols (symtab_table parts symbols relas entry f).link_is (strtab_stands parts symbols relas entry f)

symbol_made : (parts : List Part) (symbols : List MakeSymbol) (relas : List MakeRela) (entry : ℕ) → Fine parts symbols relas entry → (j : ℕ) (s : MakeSymbol) → slice_get symbols j ≡ Some s → HasSymbol (spelled parts symbols relas entry) (length parts + 1) (suc j) s
symbol_made parts symbols relas entry f j s is =
    has_symbol (spelled parts symbols relas entry) (length parts + 1) symbols (symtab_item (length parts) symbols) refl (symtab_stands parts symbols relas entry f) (strings_made parts symbols relas entry f) j s is
    (at_all FitsSymbol symbols j s f.fits.each_symbol is) (at_all HasPlainName symbols j s f.each_symbol is) (strtab_small parts symbols relas entry f)

no_symbol_made : (parts : List Part) (symbols : List MakeSymbol) (relas : List MakeRela) (entry : ℕ) → Fine parts symbols relas entry → symbol (spelled parts symbols relas entry) (length parts + 1) 0 ≡ record { name = 0; value = 0; size = 0; info = 0; other = 0; shndx = 0 }
no_symbol_made parts symbols relas entry f =
    first_symbol (spelled parts symbols relas entry) (length parts + 1) symbols (symtab_item (length parts) symbols) refl (symtab_stands parts symbols relas entry f)

symbols_made : (parts : List Part) (symbols : List MakeSymbol) (relas : List MakeRela) (entry : ℕ) → Fine parts symbols relas entry → HasSymbols (spelled parts symbols relas entry) (length parts + 1) symbols
symbols_made parts symbols relas entry f =
    let e = spelled parts symbols relas entry in
    let t = length parts + 1 in
    record {
      is = symtab_is parts symbols relas entry f;
      header = symtab_header parts symbols relas entry f;
      strings = strtab_header parts symbols relas entry f;
      count = symbols_counted parts symbols relas entry f;
      no_symbol = no_symbol_made parts symbols relas entry f;
      no_name = no_name_is e t symbols (strings_made parts symbols relas entry f) (ap (λ (y : Symbol). y.name) (no_symbol_made parts symbols relas entry f));
      each = λ j s is. subst (λ k. HasSymbol e t k s) (let more : suc j ≡ j + 1 = omega arith in more) (symbol_made parts symbols relas entry f j s is);
    }

-- each name lies in the string table
name_below : (parts : List Part) (symbols : List MakeSymbol) (relas : List MakeRela) (entry : ℕ) → Fine parts symbols relas entry → (j : ℕ) → j < length symbols + 1
    → (symbol (spelled parts symbols relas entry) (length parts + 1) j).name < length (strtab_text symbols)
unfolding strtab_text
name_below parts symbols relas entry f zero below = omega (arith, ap (λ (y : Symbol). y.name) (no_symbol_made parts symbols relas entry f))
name_below parts symbols relas entry f (suc j) below =
    elim ((slice_get_cases symbols j).1) [
      | inl found ↦ (
          let s : MakeSymbol = found.0 in
          let read = symbol_is (spelled parts symbols relas entry) (length parts + 1) symbols (symtab_item (length parts) symbols) refl (symtab_stands parts symbols relas entry f) j s found.2 (at_all FitsSymbol symbols j s f.fits.each_symbol found.2) (strtab_small parts symbols relas entry f) in
          omega (arith, ap (λ (y : Symbol). y.name) read, flat_map_room name_text symbols j s found.1, length-append (get_or symbols j s).name.items (0 ∷ [])))
      | inr past ↦ absurd (omega (arith, past.0))
    ]

symtab_shape : (parts : List Part) (symbols : List MakeSymbol) (relas : List MakeRela) (entry : ℕ) → Fine parts symbols relas entry → has_symbol_shape (spelled parts symbols relas entry) (length parts + 1) ≡ true
unfolding has_symbol_shape
symtab_shape parts symbols relas entry f =
    let e = spelled parts symbols relas entry in
    let table = symtab_table parts symbols relas entry f in
    let whole : (section e (length parts + 1)).size % 16 ≡ 0 = omega (arith, table.size_is, length-symtab_text symbols) in
    let strings : is_of_kind e (length parts + 2) 3 ≡ true = of_kind e (length parts + 2) 3 (omega (arith, count_made parts symbols relas entry f)) (strtab_table parts symbols relas entry f).kind_is in
    and_from _ _ (and_from _ _ (eq-eqb _ _ table.entsize_is) (eq-eqb _ _ whole)) (ap (λ k. is_of_kind e k 3) table.link_is ∙ strings)

symtab_good : (parts : List Part) (symbols : List MakeSymbol) (relas : List MakeRela) (entry : ℕ) → Fine parts symbols relas entry → is_bad_symtab (spelled parts symbols relas entry) (length parts + 1) ≡ false
unfolding is_bad_symtab is_nameless
symtab_good parts symbols relas entry f =
    let e = spelled parts symbols relas entry in
    let t = length parts + 1 in
    let size : (section e (section e t).link).size ≡ length (strtab_text symbols) = ap (λ k. (section e k).size) (symtab_table parts symbols relas entry f).link_is ∙ (strtab_table parts symbols relas entry f).size_is in
    and_right _ _ (or_from _ _ (not_from_true _ (symtab_shape parts symbols relas entry f))
    (none_below (λ j. leb (section e (section e t).link).size (symbol e t j).name) (symbol_count e t) (λ j lt.
    let named = name_below parts symbols relas entry f j (omega (arith, symbols_counted parts symbols relas entry f)) in
    let within : (symbol e t j).name < (section e (section e t).link).size = omega (arith, named, size) in
    lt-leb _ _ within)))

-- ---- relocations

relas_table : (parts : List Part) (symbols : List MakeSymbol) (relas : List MakeRela) (entry : ℕ) → Fine parts symbols relas entry → (k p : ℕ) → slice_get (relocated (length parts) relas) k ≡ Some p
    → IsTable (spelled parts symbols relas entry) (length parts + 3 + k) 4 (length (relas_text relas p)) (length parts + 1) (p + 1) 12
relas_table parts symbols relas entry f k p is =
    table_fields (spelled parts symbols relas entry) (length parts + 3 + k) 4 (relas_text relas p) (length parts + 1) (p + 1) 12 (relas_stand parts symbols relas entry f k p is)

part_made : (parts : List Part) (symbols : List MakeSymbol) (relas : List MakeRela) (entry : ℕ) → Fine parts symbols relas entry → (i : ℕ) (p : Part) → slice_get parts i ≡ Some p → HasPart (spelled parts symbols relas entry) (i + 1) p
part_made parts symbols relas entry f i p is =
    has_part (spelled parts symbols relas entry) (i + 1) p (at_all IsPart parts i p f.each_part is) (part_stands parts symbols relas entry f i p is)

relas_static : (e : List ℕ) (k : ℕ) → (section e k).kind ≡ 4 → (section e k).flags ≡ 0 → is_static_relocation (section e k) ≡ true
unfolding is_static_relocation
relas_static e k kind flags = and_from _ _ (or_left _ _ (eq-eqb _ _ kind)) (not_from_false _ (unallocated_from (section e k) flags))

kept_from : (e : List ℕ) (k x : ℕ) → k < count_of e → is_static_relocation (section e k) ≡ true → (section e k).info ≡ x → x < count_of e → is_allocated (section e x) ≡ true → is_kept e k ≡ true
unfolding is_kept
kept_from e k x below static info there allocated =
    let within : (section e k).info < count_of e = omega (arith, info, there) in
    and_from _ _ (and_from _ _ (and_from _ _ (lt-ltb _ _ below) static) (lt-ltb _ _ within)) (ap (λ i. is_allocated (section e i)) info ∙ allocated)

relas_kept : (parts : List Part) (symbols : List MakeSymbol) (relas : List MakeRela) (entry : ℕ) → Fine parts symbols relas entry → (k p : ℕ) → slice_get (relocated (length parts) relas) k ≡ Some p → is_kept (spelled parts symbols relas entry) (length parts + 3 + k) ≡ true
relas_kept parts symbols relas entry f k p is =
    let e = spelled parts symbols relas entry in
    let n = length parts in
    let table = relas_table parts symbols relas entry f k p is in
    let counted = count_made parts symbols relas entry f in
    let found = relocated_part parts symbols relas f.each_rela p (relocated_has n relas k p is) in
    let q = found.0 in
    kept_from e (n + 3 + k) (p + 1) (omega (arith, counted, slice_get_within (relocated n relas) k p is)) (relas_static e (n + 3 + k) table.kind_is table.flags_are) table.info_is (omega (arith, counted, relocated_below n relas k p is))
    (part_allocated e (p + 1) q (at_all IsPart parts p q f.each_part found.1) (part_made parts symbols relas entry f p q found.1) found.2)

relas_counted : (parts : List Part) (symbols : List MakeSymbol) (relas : List MakeRela) (entry : ℕ) → Fine parts symbols relas entry → (k p : ℕ) → slice_get (relocated (length parts) relas) k ≡ Some p
    → rela_count (spelled parts symbols relas entry) (length parts + 3 + k) ≡ length (relas_of p relas)
unfolding rela_count
relas_counted parts symbols relas entry f k p is = omega (arith, (relas_table parts symbols relas entry f k p is).size_is, length-relas_text relas p)

rela_here : (e : List ℕ) (k : ℕ) (relas : List MakeRela) (p : ℕ) (x : Item) → x.bytes ≡ relas_text relas p → (st : Stands e k x) (j : ℕ) (r : MakeRela) → slice_get (relas_of p relas) j ≡ Some r
    → drop (entry_offset e k j) e ≡ rela_text r ++ (flat_map rela_text (drop (suc j) (relas_of p relas)) ++ st.rest)
unfolding entry_offset relas_text
rela_here e k relas p x are st j r is =
    inside e k x st (12 * j) ∙ ap (λ bs. drop (12 * j) (bs ++ st.rest)) are ∙ entry_at rela_text 12 length-rela_text (relas_of p relas) j r st.rest is

symbol_there : (parts : List Part) (symbols : List MakeSymbol) (relas : List MakeRela) → All (IsRela parts symbols) relas → (p j : ℕ) (r : MakeRela) → slice_get (relas_of p relas) j ≡ Some r → r.symbol ≤ length symbols
symbol_there parts symbols relas all p j r is = (at_all (IsRela parts symbols) (relas_of p relas) j r (All-filter (λ (x : MakeRela). x.part == p) (IsRela parts symbols) relas all) is).symbol

rela_made : (parts : List Part) (symbols : List MakeSymbol) (relas : List MakeRela) (entry : ℕ) → Fine parts symbols relas entry → (k p : ℕ) → slice_get (relocated (length parts) relas) k ≡ Some p → (j : ℕ) (r : MakeRela) → slice_get (relas_of p relas) j ≡ Some r
    → rela (spelled parts symbols relas entry) (length parts + 3 + k) j ≡ entry_of_rela r
rela_made parts symbols relas entry f k p is j r found =
    let st = relas_stand parts symbols relas entry f k p is in
    rela_read (spelled parts symbols relas entry) (length parts + 3 + k) j r (flat_map rela_text (drop (suc j) (relas_of p relas)) ++ st.rest)
    (rela_here (spelled parts symbols relas entry) (length parts + 3 + k) relas p (relas_item (length parts + 1) relas p) refl st j r found)
    (at_all FitsRela (relas_of p relas) j r (All-filter (λ (x : MakeRela). x.part == p) FitsRela relas f.fits.each_rela) found)
    (omega (arith, symbol_there parts symbols relas f.each_rela p j r found, f.few_symbols))

relas_made : (parts : List Part) (symbols : List MakeSymbol) (relas : List MakeRela) (entry : ℕ) → Fine parts symbols relas entry → (k p : ℕ) → slice_get (relocated (length parts) relas) k ≡ Some p
    → HasRelas (spelled parts symbols relas entry) (length parts + 3 + k) (p + 1) (length parts + 1) (relas_of p relas)
relas_made parts symbols relas entry f k p is =
    record {
      kept = relas_kept parts symbols relas entry f k p is;
      header = has_table_header (spelled parts symbols relas entry) (length parts + 3 + k) 4 (relas_text relas p) (length parts + 1) (p + 1) 12 (relas_stand parts symbols relas entry f k p is);
      count = relas_counted parts symbols relas entry f k p is;
      each = rela_made parts symbols relas entry f k p is;
    }

relas_shape : (parts : List Part) (symbols : List MakeSymbol) (relas : List MakeRela) (entry : ℕ) → Fine parts symbols relas entry → (k p : ℕ) → slice_get (relocated (length parts) relas) k ≡ Some p → has_rela_shape (spelled parts symbols relas entry) (length parts + 3 + k) ≡ true
unfolding has_rela_shape
relas_shape parts symbols relas entry f k p is =
    let e = spelled parts symbols relas entry in
    let table = relas_table parts symbols relas entry f k p is in
    let whole : (section e (length parts + 3 + k)).size % 12 ≡ 0 = omega (arith, table.size_is, length-relas_text relas p) in
    and_from _ _ (and_from _ _ (and_from _ _ (eq-eqb _ _ table.kind_is) (eq-eqb _ _ table.entsize_is)) (eq-eqb _ _ whole)) (ap (is_symtab e) table.link_is ∙ symtab_is parts symbols relas entry f)

relas_good : (parts : List Part) (symbols : List MakeSymbol) (relas : List MakeRela) (entry : ℕ) → Fine parts symbols relas entry → (k p : ℕ) → slice_get (relocated (length parts) relas) k ≡ Some p → is_bad_rela (spelled parts symbols relas entry) (length parts + 3 + k) ≡ false
unfolding is_bad_rela is_symbolless
relas_good parts symbols relas entry f k p is =
    let e = spelled parts symbols relas entry in
    let n = length parts in
    let table = relas_table parts symbols relas entry f k p is in
    let inside_count : (section e (n + 3 + k)).info < count_of e = omega (arith, table.info_is, count_made parts symbols relas entry f, relocated_below n relas k p is) in
    let symbols_are : symbol_count e (section e (n + 3 + k)).link ≡ length symbols + 1 = ap (symbol_count e) table.link_is ∙ symbols_counted parts symbols relas entry f in
    or_from _ _ (and_right _ _ (lt-leb _ _ inside_count))
    (and_right _ _ (or_from _ _ (not_from_true _ (relas_shape parts symbols relas entry f k p is))
    (none_below (λ j. leb (symbol_count e (section e (n + 3 + k)).link) (rela e (n + 3 + k) j).symbol) (rela_count e (n + 3 + k)) (λ j lt.
    elim ((slice_get_cases (relas_of p relas) j).1) [
      | inl found ↦ (
          let read = ap (λ (y : Rela). y.symbol) (rela_made parts symbols relas entry f k p is j found.0 found.2) in
          let there = symbol_there parts symbols relas f.each_rela p j found.0 found.2 in
          let within : (rela e (n + 3 + k) j).symbol < symbol_count e (section e (n + 3 + k)).link = omega (arith, read, there, symbols_are) in
          lt-leb _ _ within)
      | inr past ↦ absurd (omega (arith, past.0, relas_counted parts symbols relas entry f k p is))
    ]))))

-- ---- the whole

each_clear : (parts : List Part) (symbols : List MakeSymbol) (relas : List MakeRela) (entry : ℕ) → Fine parts symbols relas entry → (k : ℕ) → k < length parts + 3 + length (relocated (length parts) relas) → IsClear (spelled parts symbols relas entry) k
each_clear parts symbols relas entry f =
    let e = spelled parts symbols relas entry in
    let n = length parts in
    let null_kind : (section e 0).kind ≡ 0 = ap (λ (s : Section). s.kind) (null_made parts symbols relas entry f) in
    let symtab = symtab_table parts symbols relas entry f in
    let strtab = strtab_table parts symbols relas entry f in
    each_section parts relas (IsClear e)
    (record {
      range = range_null e 0 null_kind;
      symtab = symtab_clear e 0 (no_symtab e 0 (λ is. omega (arith, is, null_kind)));
      rela = rela_clear e 0 (not_static (section e 0) (λ is. omega (arith, is, null_kind)) (λ is. omega (arith, is, null_kind)));
    })
    (λ i p is. part_clear e (i + 1) p (at_all IsPart parts i p f.each_part is) (part_stands parts symbols relas entry f i p is))
    (record {
      range = table_range e (n + 1) 2 (symtab_text symbols) (n + 2) 1 16 (symtab_stands parts symbols relas entry f);
      symtab = symtab_good parts symbols relas entry f;
      rela = rela_clear e (n + 1) (not_static (section e (n + 1)) (λ is. omega (arith, is, symtab.kind_is)) (λ is. omega (arith, is, symtab.kind_is)));
    })
    (record {
      range = table_range e (n + 2) 3 (strtab_text symbols) 0 0 0 (strtab_stands parts symbols relas entry f);
      symtab = symtab_clear e (n + 2) (no_symtab e (n + 2) (λ is. omega (arith, is, strtab.kind_is)));
      rela = rela_clear e (n + 2) (not_static (section e (n + 2)) (λ is. omega (arith, is, strtab.kind_is)) (λ is. omega (arith, is, strtab.kind_is)));
    })
    (λ k p is. record {
      range = table_range e (n + 3 + k) 4 (relas_text relas p) (n + 1) (p + 1) 12 (relas_stand parts symbols relas entry f k p is);
      symtab = symtab_clear e (n + 3 + k) (no_symtab e (n + 3 + k) (λ two. omega (arith, two, (relas_table parts symbols relas entry f k p is).kind_is)));
      rela = relas_good parts symbols relas entry f k p is;
    })

only_symtab_made : (parts : List Part) (symbols : List MakeSymbol) (relas : List MakeRela) (entry : ℕ) → Fine parts symbols relas entry → (k : ℕ) → k < length parts + 3 + length (relocated (length parts) relas)
    → k ≢ length parts + 1 → is_symtab (spelled parts symbols relas entry) k ≡ false
only_symtab_made parts symbols relas entry f =
    let e = spelled parts symbols relas entry in
    let n = length parts in
    let null_kind : (section e 0).kind ≡ 0 = ap (λ (s : Section). s.kind) (null_made parts symbols relas entry f) in
    each_section parts relas (λ k. k ≢ n + 1 → is_symtab e k ≡ false)
    (λ other. no_symtab e 0 (λ is. omega (arith, is, null_kind)))
    (λ i p is other. no_symtab e (i + 1) (λ two. (at_all IsPart parts i p f.each_part is).not_symtab (sym (part_made parts symbols relas entry f i p is).kind ∙ two)))
    (λ other. absurd (other refl))
    (λ other. no_symtab e (n + 2) (λ is. omega (arith, is, (strtab_table parts symbols relas entry f).kind_is)))
    (λ k p is other. no_symtab e (n + 3 + k) (λ two. omega (arith, two, (relas_table parts symbols relas entry f k p is).kind_is)))

only_kept_made : (parts : List Part) (symbols : List MakeSymbol) (relas : List MakeRela) (entry : ℕ) → Fine parts symbols relas entry → (k : ℕ) → k < length parts + 3 + length (relocated (length parts) relas)
    → k < length parts + 3 → is_kept (spelled parts symbols relas entry) k ≡ false
only_kept_made parts symbols relas entry f =
    let e = spelled parts symbols relas entry in
    let n = length parts in
    let null_kind : (section e 0).kind ≡ 0 = ap (λ (s : Section). s.kind) (null_made parts symbols relas entry f) in
    let symtab = symtab_table parts symbols relas entry f in
    let strtab = strtab_table parts symbols relas entry f in
    each_section parts relas (λ k. k < n + 3 → is_kept e k ≡ false)
    (λ low. not_kept e 0 (not_static (section e 0) (λ is. omega (arith, is, null_kind)) (λ is. omega (arith, is, null_kind))))
    (λ i p is low. not_kept e (i + 1) (part_static e (i + 1) p (at_all IsPart parts i p f.each_part is) (part_made parts symbols relas entry f i p is)))
    (λ low. not_kept e (n + 1) (not_static (section e (n + 1)) (λ is. omega (arith, is, symtab.kind_is)) (λ is. omega (arith, is, symtab.kind_is))))
    (λ low. not_kept e (n + 2) (not_static (section e (n + 2)) (λ is. omega (arith, is, strtab.kind_is)) (λ is. omega (arith, is, strtab.kind_is))))
    (λ k p is low. absurd (omega arith))

only_parts_made : (parts : List Part) (symbols : List MakeSymbol) (relas : List MakeRela) (entry : ℕ) → Fine parts symbols relas entry → (k : ℕ) → k < length parts + 3 + length (relocated (length parts) relas)
    → length parts < k → is_allocated (section (spelled parts symbols relas entry) k) ≡ false
only_parts_made parts symbols relas entry f =
    let e = spelled parts symbols relas entry in
    let n = length parts in
    each_section parts relas (λ k. n < k → is_allocated (section e k) ≡ false)
    (λ high. absurd (omega arith))
    (λ i p is high. absurd (omega (arith, slice_get_within parts i p is)))
    (λ high. unallocated_from (section e (n + 1)) (symtab_table parts symbols relas entry f).flags_are)
    (λ high. unallocated_from (section e (n + 2)) (strtab_table parts symbols relas entry f).flags_are)
    (λ k p is high. unallocated_from (section e (n + 3 + k)) (relas_table parts symbols relas entry f k p is).flags_are)

symtab_past : (e : List ℕ) (k : ℕ) → count_of e ≤ k → is_symtab e k ≡ false
unfolding is_symtab is_of_kind
symtab_past e k past = and_left _ _ (le-ltb _ _ past)

pub makes : (parts : List Part) (symbols : List MakeSymbol) (relas : List MakeRela) (entry : ℕ) → Fine parts symbols relas entry → Makes parts symbols relas entry (spelled parts symbols relas entry)
makes parts symbols relas entry f =
    let e = spelled parts symbols relas entry in
    let n = length parts in
    let counted = count_made parts symbols relas entry f in
    record {
      no_fault = no_fault_from e (header_made parts symbols relas entry f) (sections_clear e (λ k lt. each_clear parts symbols relas entry f k (omega (arith, counted))));
      header = has_header_made parts symbols relas entry;
      start = start_made parts symbols relas entry f;
      count = counted;
      no_section = null_made parts symbols relas entry f;
      each_part = part_made parts symbols relas entry f;
      all_symbols = symbols_made parts symbols relas entry f;
      each_relocated = relas_made parts symbols relas entry f;
      only_symtab = λ i other. elim (cases_lt i (n + 3 + length (relocated n relas))) [
        | inl below ↦ only_symtab_made parts symbols relas entry f i below other
        | inr past ↦ symtab_past e i (omega (arith, counted))
      ];
      only_kept = λ i low. only_kept_made parts symbols relas entry f i (omega arith) low;
      only_parts = λ i high below. only_parts_made parts symbols relas entry f i (omega (arith, counted)) high;
    }

-- the same of what a call returned
pub made_if_ok : (parts : List Part) (symbols : List MakeSymbol) (relas : List MakeRela) (entry : ℕ) (r : Result (Vec ℕ Global) AllocError)
    → IfOk r (λ file. file.items ≡ spelled parts symbols relas entry) → OnOk r (FitsAll parts symbols relas entry) → (FitsAll parts symbols relas entry → Fine parts symbols relas entry)
    → IfOk r (λ file. Makes parts symbols relas entry file.items)
made_if_ok parts symbols relas entry (Ok file) is fits fine = subst (Makes parts symbols relas entry) (sym is) (makes parts symbols relas entry (fine fits))
made_if_ok parts symbols relas entry (Err error) is fits fine = tt
