-- What is given to `make`, and what has to hold of it.
use Rattle.std.specs.Prelude.{◌≡◌, ◌≢◌, ℕ, ◌+◌, ◌≤◌, ◌==◌, Bool, false, List, [], length}
use Rattle.std.specs.List.{list_any, filter, flat_map, range_with_len, slice_get}
use Rattle.std.specs.Option.{IsSomeAnd}
use Rattle.std.specs.Int.Bits.{bit_and}
use Rattle.elf_maker.specs.declared.given.Part.{Part}
use Rattle.elf_maker.specs.declared.given.MakeSymbol.{MakeSymbol}
use Rattle.elf_maker.specs.declared.given.MakeRela.{MakeRela}

-- the part takes memory while the program runs: the flag SHF_ALLOC (2)
abbrev pub HasAlloc : Part → Type 0
HasAlloc p = bit_and p.flags 2 ≢ 0

-- a part is neither NULL (0) nor SYMTAB (2), and is RELA (4) or REL (9) only with SHF_ALLOC. Its bytes
-- are all of it, or none where it is NOBITS (8)
pub record IsPart (p : Part) : Type 0 where
  pub not_null : p.kind ≢ 0
  pub not_symtab : p.kind ≢ 2
  pub rela : p.kind ≡ 4 → HasAlloc p
  pub rel : p.kind ≡ 9 → HasAlloc p
  pub stored : p.kind ≢ 8 → length p.bytes.items ≡ p.size
  pub nobits : p.kind ≡ 8 → p.bytes.items ≡ []

-- no byte of the name is zero
abbrev pub HasPlainName : MakeSymbol → Type 0
HasPlainName s = list_any (λ b. b == 0) s.name.items ≡ false

-- a relocation is of a part that is there and has SHF_ALLOC, and its symbol is there, where 0 is the
-- empty one
pub record IsRela (parts : List Part) (symbols : List MakeSymbol) (r : MakeRela) : Type 0 where
  pub part : IsSomeAnd (slice_get parts r.part) HasAlloc
  pub symbol : r.symbol ≤ length symbols

-- all bytes of the parts and of the names, counted together
abbrev pub total : List Part → List MakeSymbol → ℕ
total parts symbols = length (flat_map (λ p. p.bytes.items) parts) + length (flat_map (λ s. s.name.items) symbols)

-- the relocations of part p, in their order
abbrev pub relas_of : ℕ → List MakeRela → List MakeRela
relas_of p relas = filter (λ r. r.part == p) relas

-- part p has a relocation
abbrev pub is_relocated : List MakeRela → ℕ → Bool
is_relocated relas p = list_any (λ r. r.part == p) relas

-- the indexes of those of n parts that have a relocation, in ascending order
abbrev pub relocated : ℕ → List MakeRela → List ℕ
relocated n relas = filter (is_relocated relas) (range_with_len 0 n)
