-- The section header table (System V ABI, ELF32, "Sections").
use Rattle.std.specs.Prelude.{ℕ, ◌+◌, ◌*◌, ◌==◌, nat_lt, Bool, not, ◌&&◌, List, take, drop}
use Rattle.std.specs.Int.Bits.{bit_and}
use Rattle.elf32_reader.specs.declared.section.Section.{Section}
use Rattle.elf32_reader.specs.Numbers.{u32_at}
use Rattle.elf32_reader.specs.Header.{table_of, count_of}

-- the section header at an offset
abbrev pub header_at : List ℕ → ℕ → Section
header_at e at = record {
  name = u32_at e at;
  kind = u32_at e (at + 4);
  flags = u32_at e (at + 8);
  addr = u32_at e (at + 12);
  offset = u32_at e (at + 16);
  size = u32_at e (at + 20);
  link = u32_at e (at + 24);
  info = u32_at e (at + 28);
  addralign = u32_at e (at + 32);
  entsize = u32_at e (at + 36);
}

-- section i
unfoldable pub section : List ℕ → ℕ → Section
section e i = header_at e (table_of e + 40 * i)

-- it takes memory while the program runs: not NULL (0), and the flag ALLOC (2)
unfoldable pub is_allocated : Section → Bool
is_allocated s = not (s.kind == 0) && not (bit_and s.flags 2 == 0)

-- its bytes stand in the file: not NOBITS (8)
unfoldable pub is_stored : Section → Bool
is_stored s = not (s.kind == 8)

-- neither NULL nor NOBITS
unfoldable pub has_content : Section → Bool
has_content s = not (s.kind == 0) && not (s.kind == 8)

-- the bytes of a section that has content
unfoldable pub content : List ℕ → Section → List ℕ
content e s = take s.size (drop s.offset e)

-- i is the index of a section of the type k
unfoldable pub is_of_kind : List ℕ → ℕ → ℕ → Bool
is_of_kind e i k = nat_lt i (count_of e) && (section e i).kind == k
