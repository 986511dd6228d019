-- How the bytes of a file are laid: the file header, the contents of the sections one after the other,
-- and the section headers.
use Rattle.std.specs.Prelude.{◌≡◌, ℕ, ◌+◌, ◌*◌, List, [], ◌∷◌, ◌++◌, length, map}
use Rattle.std.specs.List.{flat_map, range_with_len}
use Rattle.std.specs.Int.{w32, cast_unsigned}
use Rattle.byteorder.specs.Endian.{little_bytes}
use Rattle.elf32_reader.specs.declared.section.Section.{Section}
use Rattle.elf_maker.specs.declared.given.Part.{Part}
use Rattle.elf_maker.specs.declared.given.MakeSymbol.{MakeSymbol}
use Rattle.elf_maker.specs.declared.given.MakeRela.{MakeRela}
use Rattle.elf_maker.specs.declared.writer.Writer.{Writer}
use Rattle.elf_maker.specs.Given.{relas_of}

-- numbers of four bytes and of two, the lowest byte first
unfoldable pub words_text : List ℕ → List ℕ
words_text ns = flat_map (little_bytes 4) ns

unfoldable pub halves_text : List ℕ → List ℕ
halves_text ns = flat_map (little_bytes 2) ns

unfoldable pub section_text : Section → List ℕ
section_text s = words_text (s.name ∷ s.kind ∷ s.flags ∷ s.addr ∷ s.offset ∷ s.size ∷ s.link ∷ s.info ∷ s.addralign ∷ s.entsize ∷ [])

-- e_ident: the magic number, ELFCLASS32, ELFDATA2LSB, EV_CURRENT
abbrev pub ident : List ℕ
ident = 127 ∷ 69 ∷ 76 ∷ 70 ∷ 1 ∷ 1 ∷ 1 ∷ 0 ∷ 0 ∷ 0 ∷ 0 ∷ 0 ∷ 0 ∷ 0 ∷ 0 ∷ 0 ∷ []

-- a file header with the offset of the section headers and their count
unfoldable pub header_text : ℕ → ℕ → ℕ → List ℕ
header_text entry table count =
    ident ++ (halves_text (2 ∷ 243 ∷ []) ++ (words_text (1 ∷ entry ∷ 0 ∷ table ∷ 0 ∷ []) ++ halves_text (52 ∷ 0 ∷ 0 ∷ 40 ∷ count ∷ 0 ∷ [])))

-- a file of these section headers, with the body between
unfoldable pub file_text : ℕ → List Section → List ℕ → List ℕ
file_text entry sections body =
    header_text entry (52 + length body) (length sections) ++ (body ++ flat_map section_text sections)

-- a section before it has an offset
pub record Item : Type 0 where
  pub header : Section
  pub bytes : List ℕ

-- the headers of sections whose contents stand one after the other from an offset on
abbrev pub placed : ℕ → List Item → List Section
placed at [] = []
placed at (item ∷ items) = record item.header { offset = at } ∷ placed (at + length item.bytes) items

abbrev pub contents : List Item → List ℕ
contents items = flat_map (λ item. item.bytes) items

-- a writer that was given these sections more
pub record Adds (old new : Writer) (items : List Item) : Type 0 where
  pub sections : new.sections.items ≡ old.sections.items ++ placed (52 + length old.body.items) items
  pub body : new.body.items ≡ old.body.items ++ contents items

-- section 0
abbrev pub null_section : Section
null_section = record { name = 0; kind = 0; flags = 0; addr = 0; offset = 0; size = 0; link = 0; info = 0; addralign = 0; entsize = 0 }

-- a section header without its offset
unfoldable pub header_of : (kind flags addr size link info entsize : ℕ) → Section
header_of kind flags addr size link info entsize =
    record { name = 0; kind = kind; flags = flags; addr = addr; offset = 0; size = size; link = link; info = info; addralign = 1; entsize = entsize }

unfoldable pub part_header : Part → Section
part_header p = header_of p.kind p.flags p.addr p.size 0 0 0

abbrev pub part_item : Part → Item
part_item p = record { header = part_header p; bytes = p.bytes.items }

-- the header of a table, or of its strings
unfoldable pub table_header : (kind size link info entsize : ℕ) → Section
table_header kind size link info entsize = header_of kind 0 0 size link info entsize

abbrev pub table_item : ℕ → List ℕ → ℕ → ℕ → ℕ → Item
table_item kind bytes link info entsize = record { header = table_header kind (length bytes) link info entsize; bytes = bytes }

-- a symbol whose name stands at an index of the string table
unfoldable pub symbol_text : ℕ → MakeSymbol → List ℕ
symbol_text at s = words_text (at ∷ s.value ∷ 0 ∷ []) ++ (s.info ∷ 0 ∷ halves_text (s.shndx ∷ []))

-- a name with the zero that ends it
abbrev pub name_text : MakeSymbol → List ℕ
name_text s = s.name.items ++ 0 ∷ []

abbrev pub names_text : List MakeSymbol → List ℕ
names_text symbols = flat_map name_text symbols

-- symbols whose names stand one after the other from an index on
abbrev pub symbols_text : ℕ → List MakeSymbol → List ℕ
symbols_text at [] = []
symbols_text at (s ∷ symbols) = symbol_text at s ++ symbols_text (at + length (name_text s)) symbols

-- symbol 0
abbrev pub no_symbol : List ℕ
no_symbol = 0 ∷ 0 ∷ 0 ∷ 0 ∷ 0 ∷ 0 ∷ 0 ∷ 0 ∷ 0 ∷ 0 ∷ 0 ∷ 0 ∷ 0 ∷ 0 ∷ 0 ∷ 0 ∷ []

unfoldable pub symtab_text : List MakeSymbol → List ℕ
symtab_text symbols = no_symbol ++ symbols_text 1 symbols

unfoldable pub strtab_text : List MakeSymbol → List ℕ
strtab_text symbols = 0 ∷ names_text symbols

unfoldable pub rela_text : MakeRela → List ℕ
rela_text r = words_text (r.offset ∷ (256 * r.symbol + r.kind) ∷ cast_unsigned w32 r.addend ∷ [])

-- the relocations of part p
unfoldable pub relas_text : List MakeRela → ℕ → List ℕ
relas_text relas p = flat_map rela_text (relas_of p relas)

-- the sections after n parts: the symbol table, the string table, and the relocations of each part
abbrev pub symtab_item : ℕ → List MakeSymbol → Item
symtab_item n symbols = table_item 2 (symtab_text symbols) (n + 2) 1 16

abbrev pub strtab_item : List MakeSymbol → Item
strtab_item symbols = table_item 3 (strtab_text symbols) 0 0 0

-- the relocations of the parts from index i on, where t is the symbol table: none where there are none
abbrev pub relas_items : ℕ → ℕ → List (List ℕ) → List Item
relas_items t i [] = []
relas_items t i ([] ∷ texts) = relas_items t (i + 1) texts
relas_items t i ((b ∷ bs) ∷ texts) = table_item 4 (b ∷ bs) t (i + 1) 12 ∷ relas_items t (i + 1) texts

-- the tables of n parts
abbrev pub relas_texts : ℕ → List MakeRela → List (List ℕ)
relas_texts n relas = map (relas_text relas) (range_with_len 0 n)

-- all sections but section 0
unfoldable pub all_items : List Part → List MakeSymbol → List MakeRela → List Item
all_items parts symbols relas =
    map part_item parts ++ (symtab_item (length parts) symbols ∷ strtab_item symbols ∷ relas_items (length parts + 1) 0 (relas_texts (length parts) relas))

-- the file of what is given
unfoldable pub spelled : List Part → List MakeSymbol → List MakeRela → ℕ → List ℕ
spelled parts symbols relas entry =
    file_text entry (null_section ∷ placed 52 (all_items parts symbols relas)) (contents (all_items parts symbols relas))
