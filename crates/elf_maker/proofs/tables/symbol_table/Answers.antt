use Rattle.std.proofs.Common.{◌≡◌, ◌<◌, ◌∷◌, ◌++◌, length, take, ap, ◌∙◌, arith, subst}
use Rattle.std.proofs.lemmas.List.{take_all}
use Rattle.std.proofs.lemmas.List.Elements.{All-more}
use Rattle.elf_maker.specs.Fits.{FitsSymbol}
use Rattle.elf_maker.specs.Spelling.{no_symbol, name_text, names_text, symbols_text, symtab_text, strtab_text}
use Rattle.elf_maker.proofs.Laid.{flat_map_prefix}
use Rattle.elf_maker.proofs.Texts.{entries_more, names_more}
use Rattle.elf_maker.proofs.tables.symbol_table.Goals as goal

pub push-requires : goal.push-requires
unfolding strtab_text
push-requires c =
    omega (arith, c.requires, ap length c.loop-symbol.invariant.names, flat_map_prefix name_text c.args.symbols.now c.loop-symbol.symbol-index)

pub loop-symbol-preserved : goal.loop-symbol-preserved
loop-symbol-preserved c =
    let i = c.loop-symbol.symbol-index in
    let s = c.symbol-item.result in
    let below : i < length c.args.symbols.now = c.loop-symbol-test.true in
    let fits : FitsSymbol s = c.in_ok-push.ensures.fits in
    record {
      entries = entries_more c.args.symbols.now i s c.loop-symbol.table.entries.items c.push.new.self.entries.items c.loop-symbol.table.names.items below c.symbol-item.is c.loop-symbol.invariant.entries c.loop-symbol.invariant.names c.in_ok-push.ensures.entries;
      names = names_more c.args.symbols.now i s c.loop-symbol.table.names.items c.push.new.self.names.items below c.symbol-item.is c.loop-symbol.invariant.names c.in_ok-push.ensures.names;
      fits = All-more FitsSymbol c.args.symbols.now i s below c.loop-symbol.invariant.fits (subst FitsSymbol c.symbol-item.is fits);
    }

pub returns-clause-entries : goal.returns-clause-entries
unfolding symtab_text
returns-clause-entries c =
    let all : take c.loop-symbol.symbol-index c.args.symbols.now ≡ c.args.symbols.now = take_all _ _ c.loop-symbol-test.false in
    c.loop-symbol.invariant.entries ∙ ap (λ ss. no_symbol ++ symbols_text 1 ss) all

pub returns-clause-names : goal.returns-clause-names
unfolding strtab_text
returns-clause-names c =
    let all : take c.loop-symbol.symbol-index c.args.symbols.now ≡ c.args.symbols.now = take_all _ _ c.loop-symbol-test.false in
    c.loop-symbol.invariant.names ∙ ap (λ ss. 0 ∷ names_text ss) all
