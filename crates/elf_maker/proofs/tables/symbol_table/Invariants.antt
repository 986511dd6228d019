use Rattle.std.proofs.Common.{◌≡◌, ◌∷◌, ◌++◌, take}
use Rattle.std.specs.List.{All}
use Rattle.elf_maker.specs.Fits.{FitsSymbol}
use Rattle.elf_maker.specs.Spelling.{no_symbol, symbols_text, names_text}
use Rattle.elf_maker.proofs.tables.symbol_table.Given as goal

abbrev pub invariant-loop-symbol : goal.invariant-loop-symbol
invariant-loop-symbol l = record {
  entries : l.table.entries.items ≡ no_symbol ++ symbols_text 1 (take l.symbol-index l.symbols);
  names : l.table.names.items ≡ 0 ∷ names_text (take l.symbol-index l.symbols);
  fits : All FitsSymbol (take l.symbol-index l.symbols);
}
