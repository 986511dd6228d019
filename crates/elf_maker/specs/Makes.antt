-- What the bytes of a file say, in the words of the crate that reads them: just what was given.
-- Section i + 1 is part i. Behind n parts come the symbol table, n + 1, the string table, n + 2, and the
-- relocations of each part that has some, from n + 3 on.
use Rattle.std.specs.Prelude.{◌≡◌, ◌≢◌, ℕ, ◌+◌, ◌<◌, true, false, List, [], ◌∷◌, length, take, replicate, Some, None}
use Rattle.std.specs.List.{slice_get}
use Rattle.elf32_reader.specs.declared.rela.Rela.{Rela}
use Rattle.elf32_reader.specs.Numbers.{u16_at, u32_at}
use Rattle.elf32_reader.specs.Header.{entry_of, count_of}
use Rattle.elf32_reader.specs.Sections.{section, is_allocated, content}
use Rattle.elf32_reader.specs.Symbols.{is_symtab, symbol_count, symbol, name_of}
use Rattle.elf32_reader.specs.Relas.{is_kept, rela_count, rela}
use Rattle.elf32_reader.specs.Faults.{elf_fault}
use Rattle.elf_maker.specs.declared.given.Part.{Part}
use Rattle.elf_maker.specs.declared.given.MakeSymbol.{MakeSymbol}
use Rattle.elf_maker.specs.declared.given.MakeRela.{MakeRela}
use Rattle.elf_maker.specs.Given.{relas_of, relocated}

-- the fields of the file header that are the same in each file (System V ABI, ELF32, "ELF Header")
pub record HasHeader (e : List ℕ) : Type 0 where
  -- e_ident: the magic number, ELFCLASS32, ELFDATA2LSB, EV_CURRENT, and for the rest zeros
  pub ident : take 16 e ≡ 0x7f ∷ 0x45 ∷ 0x4c ∷ 0x46 ∷ 1 ∷ 1 ∷ 1 ∷ replicate 9 0
  -- e_flags: the base ISA without compressed code, and the integer calling convention
  pub flags : u32_at e 36 ≡ 0
  -- e_ehsize, in bytes
  pub ehsize : u16_at e 40 ≡ 52
  -- e_phoff, e_phentsize and e_phnum: there is no program header table
  pub phoff : u32_at e 28 ≡ 0
  pub phentsize : u16_at e 42 ≡ 0
  pub phnum : u16_at e 44 ≡ 0
  -- e_shstrndx is SHN_UNDEF: there are no section names
  pub shstrndx : u16_at e 50 ≡ 0

-- section i of e is the part (System V ABI, ELF32, "Sections")
pub record HasPart (e : List ℕ) (i : ℕ) (p : Part) : Type 0 where
  pub kind : (section e i).kind ≡ p.kind
  pub flags : (section e i).flags ≡ p.flags
  pub addr : (section e i).addr ≡ p.addr
  pub size : (section e i).size ≡ p.size
  -- no name, no link, no alignment
  pub name : (section e i).name ≡ 0
  pub link : (section e i).link ≡ 0
  pub info : (section e i).info ≡ 0
  pub addralign : (section e i).addralign ≡ 1
  pub entsize : (section e i).entsize ≡ 0
  -- a section of type NOBITS (8) has no content
  pub bytes : p.kind ≢ 8 → content e (section e i) ≡ p.bytes.items

-- section i of e is a table of type k with link l, info x and entries of n bytes: it takes no memory, and
-- has no name and no alignment
pub record HasTableHeader (e : List ℕ) (i k l x n : ℕ) : Type 0 where
  pub kind : (section e i).kind ≡ k
  pub flags : (section e i).flags ≡ 0
  pub addr : (section e i).addr ≡ 0
  pub link : (section e i).link ≡ l
  pub info : (section e i).info ≡ x
  pub entsize : (section e i).entsize ≡ n
  pub name : (section e i).name ≡ 0
  pub addralign : (section e i).addralign ≡ 1

-- entry j of symbol table t is the symbol (System V ABI, ELF32, "Symbol Table"). st_size and st_other are 0
pub record HasSymbol (e : List ℕ) (t j : ℕ) (s : MakeSymbol) : Type 0 where
  pub name : name_of e t j ≡ s.name.items
  pub value : (symbol e t j).value ≡ s.value
  pub size : (symbol e t j).size ≡ 0
  pub info : (symbol e t j).info ≡ s.info
  pub other : (symbol e t j).other ≡ 0
  pub shndx : (symbol e t j).shndx ≡ s.shndx

-- section t of e is a symbol table, SYMTAB (2), and the next one its string table, STRTAB (3): the empty
-- symbol, and then these
pub record HasSymbols (e : List ℕ) (t : ℕ) (symbols : List MakeSymbol) : Type 0 where
  pub is : is_symtab e t ≡ true
  pub header : HasTableHeader e t 2 (t + 1) 1 16
  pub strings : HasTableHeader e (t + 1) 3 0 0 0
  pub count : symbol_count e t ≡ length symbols + 1
  pub no_symbol : symbol e t 0 ≡ record { name = 0; value = 0; size = 0; info = 0; other = 0; shndx = 0 }
  pub no_name : name_of e t 0 ≡ []
  pub each : (j : ℕ) (s : MakeSymbol) → slice_get symbols j ≡ Some s → HasSymbol e t (j + 1) s

-- an entry of a relocation section says the relocation (System V ABI, ELF32, "Relocation")
abbrev pub entry_of_rela : MakeRela → Rela
entry_of_rela r = record { offset = r.offset; symbol = r.symbol; kind = r.kind; addend = r.addend }

-- section i of e is a kept relocation section, RELA (4), whose info is section x and whose link is the
-- symbol table t, with these relocations in their order
pub record HasRelas (e : List ℕ) (i x t : ℕ) (relas : List MakeRela) : Type 0 where
  pub kept : is_kept e i ≡ true
  pub header : HasTableHeader e i 4 t x 12
  pub count : rela_count e i ≡ length relas
  pub each : (j : ℕ) (r : MakeRela) → slice_get relas j ≡ Some r → rela e i j ≡ entry_of_rela r

-- e is a file of these parts, symbols and relocations, and of nothing else. Left open is only at which
-- offsets the section headers, the contents and the names stand
pub record Makes (parts : List Part) (symbols : List MakeSymbol) (relas : List MakeRela) (entry : ℕ) (e : List ℕ) : Type 0 where
  pub no_fault : elf_fault e ≡ None
  pub header : HasHeader e
  pub start : entry_of e ≡ entry
  pub count : count_of e ≡ length parts + 3 + length (relocated (length parts) relas)
  -- section 0 is empty
  pub no_section : section e 0 ≡ record { name = 0; kind = 0; flags = 0; addr = 0; offset = 0; size = 0; link = 0; info = 0; addralign = 0; entsize = 0 }
  pub each_part : (i : ℕ) (p : Part) → slice_get parts i ≡ Some p → HasPart e (i + 1) p
  pub all_symbols : HasSymbols e (length parts + 1) symbols
  -- the k-th part that has relocations is p
  pub each_relocated : (k p : ℕ) → slice_get (relocated (length parts) relas) k ≡ Some p
      → HasRelas e (length parts + 3 + k) (p + 1) (length parts + 1) (relas_of p relas)
  -- there is no other symbol table and no other kept relocation section, and only parts take memory
  pub only_symtab : (i : ℕ) → i ≢ length parts + 1 → is_symtab e i ≡ false
  pub only_kept : (i : ℕ) → i < length parts + 3 → is_kept e i ≡ false
  pub only_parts : (i : ℕ) → length parts < i → i < count_of e → is_allocated (section e i) ≡ false
