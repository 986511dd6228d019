-- The numbers of what is given fit their fields, as each value of its type does.
use Rattle.std.specs.Prelude.{◌≡◌, ℕ, ◌^◌, ◌<◌, List}
use Rattle.std.specs.List.{All}
use Rattle.std.specs.Int.{w32, cast_signed, cast_unsigned}
use Rattle.elf_maker.specs.declared.given.Part.{Part}
use Rattle.elf_maker.specs.declared.given.MakeSymbol.{MakeSymbol}
use Rattle.elf_maker.specs.declared.given.MakeRela.{MakeRela}

pub record FitsPart (p : Part) : Type 0 where
  pub kind : p.kind < 2 ^ 32
  pub flags : p.flags < 2 ^ 32
  pub addr : p.addr < 2 ^ 32
  pub size : p.size < 2 ^ 32

pub record FitsSymbol (s : MakeSymbol) : Type 0 where
  pub value : s.value < 2 ^ 32
  pub info : s.info < 256
  pub shndx : s.shndx < 2 ^ 16

pub record FitsRela (r : MakeRela) : Type 0 where
  pub offset : r.offset < 2 ^ 32
  pub kind : r.kind < 256
  pub word : cast_unsigned w32 r.addend < 2 ^ 32
  pub addend : cast_signed w32 (cast_unsigned w32 r.addend) ≡ r.addend

-- all of it
pub record FitsAll (parts : List Part) (symbols : List MakeSymbol) (relas : List MakeRela) (entry : ℕ) : Type 0 where
  pub entry_fits : entry < 2 ^ 32
  pub each_part : All FitsPart parts
  pub each_symbol : All FitsSymbol symbols
  pub each_rela : All FitsRela relas
