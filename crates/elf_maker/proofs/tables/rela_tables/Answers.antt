use Rattle.std.proofs.Common.{◌<◌, length, take, get_or, sym, ap, ◌∙◌, arith, Vec, Global, ℕ}
use Rattle.std.proofs.lemmas.List.{length-map, take_more}
use Rattle.std.proofs.lemmas.List.FromFn.{length-map-range_with_len}
use Rattle.std.proofs.lemmas.List.Elements.{All-more}
use Rattle.std.specs.Prelude.{pos}
use Rattle.elf_maker.specs.declared.given.MakeRela.{MakeRela}
use Rattle.elf_maker.specs.Fits.{FitsRela}
use Rattle.elf_maker.specs.Spelling.{relas_text, relas_texts}
use Rattle.elf_maker.proofs.Texts.{table_set}
use Rattle.elf_maker.proofs.tables.rela_tables.Goals as goal

abbrev none : MakeRela
none = record { part = 0; offset = 0; symbol = 0; kind = 0; addend = pos 0 }

pub index_mut-requires : goal.index_mut-requires
index_mut-requires c =
    let i = c.loop-rela.rela-index in
    let part = c.requires.parts i none c.loop-rela-test.true in
    omega (arith, part, c.loop-rela.tables.ok.0, length-map c.loop-rela.tables.items (λ (t : Vec ℕ Global). t.items), ap length c.loop-rela.invariant.tables, length-map-range_with_len (relas_text (take i c.args.relas.now)) 0 c.args.parts)

pub loop-rela-preserved : goal.loop-rela-preserved
loop-rela-preserved c =
    let i = c.loop-rela.rela-index in
    let rs = c.args.relas.now in
    let below : i < length rs = c.loop-rela-test.true in
    let part = c.requires.parts i none below in
    record {
      tables = table_set c.args.parts c.loop-rela.tables.items (take i rs) (get_or rs i none) c.index_mut.result.now c.push_rela.new.out part c.loop-rela.invariant.tables c.index_mut.ensures.value c.in_ok-push_rela.ensures.entry
          ∙ ap (relas_texts c.args.parts) (sym (take_more rs i none below));
      fits = All-more FitsRela rs i none below c.loop-rela.invariant.fits c.in_ok-push_rela.ensures.fits;
    }
