use Rattle.std.proofs.Common.{◌∷◌, [], ◌++◌, List, length, map, get_or, ap, ◌∙◌, arith, Vec, Global, ℕ}
use Rattle.std.proofs.lemmas.List.{length-map, length-append}
use Rattle.std.proofs.lemmas.List.FromFn.{length-map-range_with_len}
use Rattle.std.specs.List.{flat_map}
use Rattle.std.proofs.lemmas.Result.{IfOk-weaker}
use Rattle.elf_maker.specs.Spelling.{symtab_text, strtab_text, part_item, symtab_item, strtab_item, relas_text, placed, all_items, spelled, file_text, null_section}
use Rattle.elf_maker.proofs.Laid.{length-contents, length-placed, contents-parts, flat_map-tables}
use Rattle.elf_maker.proofs.Sizes.{all_added, length-all_items, length-all_contents, length-symtab_text, length-strtab_text, length-relas_texts, part_below}
use Rattle.elf_maker.proofs.making.written.Goals as goal

pub push_symbols-requires-clause-room : goal.push_symbols-requires-clause-room
push_symbols-requires-clause-room c =
    omega (
      arith,
      c.requires.few_bytes,
      c.requires.few_symbols,
      ap length c.in_ok-writer.ensures.body,
      length-contents c.in_ok-writer.writer c.push_parts.new.writer (map part_item c.args.parts.now) c.in_ok-push_parts.ensures.sections,
      ap length (contents-parts c.args.parts.now),
      length-symtab_text c.args.symbols.now,
      length-strtab_text c.args.symbols.now,
    )

pub rela_tables-requires-clause-parts : goal.rela_tables-requires-clause-parts
rela_tables-requires-clause-parts c = λ k d below. part_below c.args.parts.now c.args.symbols.now (get_or c.args.relas.now k d) (c.requires.relas k d below)

pub push_tables-requires-clause-count : goal.push_tables-requires-clause-count
push_tables-requires-clause-count c =
    omega (
      arith,
      c.requires.few_parts,
      ap length c.deref.ensures.value,
      length-map c.in_ok-tables.tables.items (λ (t : Vec ℕ Global). t.items),
      ap length c.in_ok-tables.ensures.tables,
      length-map-range_with_len (relas_text c.args.relas.now) 0 (length c.args.parts.now),
    )

pub push_tables-requires-clause-room : goal.push_tables-requires-clause-room
push_tables-requires-clause-room c =
    let n = length c.args.parts.now in
    let symbols = c.args.symbols.now in
    omega (
      arith,
      c.requires.few_bytes,
      c.requires.few_symbols,
      c.requires.few_relas,
      ap length c.in_ok-writer.ensures.body,
      length-contents c.in_ok-writer.writer c.push_parts.new.writer (map part_item c.args.parts.now) c.in_ok-push_parts.ensures.sections,
      ap length (contents-parts c.args.parts.now),
      length-contents c.push_parts.new.writer c.push_symbols.new.writer (symtab_item n symbols ∷ strtab_item symbols ∷ []) c.in_ok-push_symbols.ensures.sections,
      length-append (symtab_text symbols) (strtab_text symbols ++ []),
      length-append (strtab_text symbols) [],
      length-symtab_text symbols,
      length-strtab_text symbols,
      ap length (flat_map-tables c.deref.result.now),
      ap (λ ts. length (flat_map (λ (bs : List ℕ). bs) (map (λ (t : Vec ℕ Global). t.items) ts))) c.deref.ensures.value,
      ap (λ ts. length (flat_map (λ (bs : List ℕ). bs) ts)) c.in_ok-tables.ensures.tables,
      length-relas_texts n c.args.relas.now,
    )

pub finish-requires-clause-count : goal.finish-requires-clause-count
finish-requires-clause-count c =
    let texts = ap (map (λ (t : Vec ℕ Global). t.items)) c.deref.ensures.value ∙ c.in_ok-tables.ensures.tables in
    let all = all_added c.in_ok-writer.writer c.push_parts.new.writer c.push_symbols.new.writer c.push_tables.new.writer c.args.parts.now c.args.symbols.now c.args.relas.now (map (λ (t : Vec ℕ Global). t.items) c.deref.result.now)
    c.in_ok-writer.ensures.sections c.in_ok-writer.ensures.body c.in_ok-push_parts.ensures.sections c.in_ok-push_symbols.ensures.sections c.in_ok-push_tables.ensures texts in
    omega (
      arith,
      c.requires.few_parts,
      ap length all.sections,
      length-placed 52 (all_items c.args.parts.now c.args.symbols.now c.args.relas.now),
      length-all_items c.args.parts.now c.args.symbols.now c.args.relas.now,
    )

pub finish-requires-clause-body : goal.finish-requires-clause-body
finish-requires-clause-body c =
    let texts = ap (map (λ (t : Vec ℕ Global). t.items)) c.deref.ensures.value ∙ c.in_ok-tables.ensures.tables in
    let all = all_added c.in_ok-writer.writer c.push_parts.new.writer c.push_symbols.new.writer c.push_tables.new.writer c.args.parts.now c.args.symbols.now c.args.relas.now (map (λ (t : Vec ℕ Global). t.items) c.deref.result.now)
    c.in_ok-writer.ensures.sections c.in_ok-writer.ensures.body c.in_ok-push_parts.ensures.sections c.in_ok-push_symbols.ensures.sections c.in_ok-push_tables.ensures texts in
    omega (
      arith,
      ap length all.body,
      length-all_contents c.args.parts.now c.args.symbols.now c.args.relas.now c.requires.few_bytes c.requires.few_symbols c.requires.few_relas,
    )

pub returns-clause-file : goal.returns-clause-file
unfolding spelled
returns-clause-file c =
    let texts = ap (map (λ (t : Vec ℕ Global). t.items)) c.deref.ensures.value ∙ c.in_ok-tables.ensures.tables in
    let all = all_added c.in_ok-writer.writer c.push_parts.new.writer c.push_symbols.new.writer c.push_tables.new.writer c.args.parts.now c.args.symbols.now c.args.relas.now (map (λ (t : Vec ℕ Global). t.items) c.deref.result.now)
    c.in_ok-writer.ensures.sections c.in_ok-writer.ensures.body c.in_ok-push_parts.ensures.sections c.in_ok-push_symbols.ensures.sections c.in_ok-push_tables.ensures texts in
    IfOk-weaker c.finish.result _ _ (λ file is. is ∙ ap (λ ss. file_text c.args.entry ss c.push_tables.new.writer.body.items) all.sections
    ∙ ap (file_text c.args.entry (null_section ∷ placed 52 (all_items c.args.parts.now c.args.symbols.now c.args.relas.now))) all.body) c.finish.ensures
