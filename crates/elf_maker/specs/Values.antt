-- Parts and symbols by their values, with their bytes as lists, and the bytes of a file of such.
use Rattle.std.specs.Prelude.{◌≡◌, ℕ, ◌+◌, List, [], ◌∷◌, ◌++◌, length, map}
use Rattle.std.specs.List.{flat_map}
use Rattle.elf_maker.specs.declared.given.Part.{Part}
use Rattle.elf_maker.specs.declared.given.MakeSymbol.{MakeSymbol}
use Rattle.elf_maker.specs.declared.given.MakeRela.{MakeRela}
use Rattle.elf_maker.specs.Makes.{Makes}
use Rattle.elf_maker.specs.Spelling.{words_text, halves_text, file_text, Item, placed, contents, null_section, header_of, table_item, no_symbol, relas_items, relas_texts}

pub record PartValue : Type 0 where
  pub kind : ℕ
  pub flags : ℕ
  pub addr : ℕ
  pub size : ℕ
  pub bytes : List ℕ

pub record SymbolValue : Type 0 where
  pub name : List ℕ
  pub value : ℕ
  pub info : ℕ
  pub shndx : ℕ

abbrev pub part_value : Part → PartValue
part_value p = record { kind = p.kind; flags = p.flags; addr = p.addr; size = p.size; bytes = p.bytes.items }

abbrev pub symbol_value : MakeSymbol → SymbolValue
symbol_value s = record { name = s.name.items; value = s.value; info = s.info; shndx = s.shndx }

-- e says just this: it is a file of some parts and symbols with these values
pub record Says (parts : List PartValue) (symbols : List SymbolValue) (relas : List MakeRela) (entry : ℕ) (e : List ℕ) : Type 0 where
  pub given_parts : List Part
  pub given_symbols : List MakeSymbol
  pub parts_are : map part_value given_parts ≡ parts
  pub symbols_are : map symbol_value given_symbols ≡ symbols
  pub makes : Makes given_parts given_symbols relas entry e

-- ---- the bytes of the file

abbrev pub item_of : PartValue → Item
item_of p = record { header = header_of p.kind p.flags p.addr p.size 0 0 0; bytes = p.bytes }

-- a name with the zero that ends it
abbrev pub name_bytes : SymbolValue → List ℕ
name_bytes s = s.name ++ 0 ∷ []

-- an entry of the symbol table, whose name stands at an index of the string table
unfoldable pub symbol_bytes : ℕ → SymbolValue → List ℕ
symbol_bytes at s = words_text (at ∷ s.value ∷ 0 ∷ []) ++ (s.info ∷ 0 ∷ halves_text (s.shndx ∷ []))

-- entries whose names stand one after the other from an index on
abbrev pub symbols_bytes : ℕ → List SymbolValue → List ℕ
symbols_bytes at [] = []
symbols_bytes at (s ∷ symbols) = symbol_bytes at s ++ symbols_bytes (at + length (name_bytes s)) symbols

abbrev pub symtab_bytes : List SymbolValue → List ℕ
symtab_bytes symbols = no_symbol ++ symbols_bytes 1 symbols

abbrev pub strtab_bytes : List SymbolValue → List ℕ
strtab_bytes symbols = 0 ∷ flat_map name_bytes symbols

-- all sections but section 0: the parts, the symbol table, the string table, and the relocations of each part that has some
unfoldable pub items_of : List PartValue → List SymbolValue → List MakeRela → List Item
items_of parts symbols relas =
    map item_of parts
    ++ (table_item 2 (symtab_bytes symbols) (length parts + 2) 1 16
    ∷ table_item 3 (strtab_bytes symbols) 0 0 0
    ∷ relas_items (length parts + 1) 0 (relas_texts (length parts) relas))

-- the file header, the contents one after the other, and the section headers
unfoldable pub file_bytes : List PartValue → List SymbolValue → List MakeRela → (entry : ℕ) → List ℕ
file_bytes parts symbols relas entry =
    file_text entry (null_section ∷ placed 52 (items_of parts symbols relas)) (contents (items_of parts symbols relas))
