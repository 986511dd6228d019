use Rattle.std.proofs.lemmas.List.Elements.{All-from_recursion}
use Rattle.elf_maker.specs.Given.{IsPart, HasPlainName, IsRela}
use Rattle.std.proofs.Common.{◌∙◌}
use Rattle.std.proofs.lemmas.Result.{IfOk-weaker}
use Rattle.elf_maker.proofs.Made.{made_if_ok}
use Rattle.elf_maker.proofs.ByValues.{spelled_is}
use Rattle.elf_maker.proofs.making.make.Goals as goal

pub returns-clause-makes : goal.returns-clause-makes
returns-clause-makes c =
    let parts = c.args.parts.now in
    let symbols = c.args.symbols.now in
    let relas = c.args.relas.now in
    made_if_ok parts symbols relas c.args.entry c.written.result c.written.ensures.file c.written.ensures.fits (λ fits. record {
      few_parts = c.requires.few_parts;
      few_symbols = c.requires.few_symbols;
      few_relas = c.requires.few_relas;
      few_bytes = c.requires.few_bytes;
      each_part = All-from_recursion IsPart parts c.requires.parts;
      each_symbol = All-from_recursion HasPlainName symbols c.requires.symbols;
      each_rela = All-from_recursion (IsRela parts symbols) relas c.requires.relas;
      fits = fits;
    })

pub returns-clause-bytes : goal.returns-clause-bytes
returns-clause-bytes c = IfOk-weaker c.written.result _ _ (λ file is. is ∙ spelled_is c.args.parts.now c.args.symbols.now c.args.relas.now c.args.entry) c.written.ensures.file
