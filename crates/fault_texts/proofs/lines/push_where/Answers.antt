-- What is told of the entry is of its own section, symbol and table.
use Rattle.std.proofs.lemmas.List.{append_assoc, append-nil}
use Rattle.elf32_reader.proofs.Places.{is_kept_below, is_kept_info}
use Rattle.elf2flt_tool.specs.Faults.{entry_at}
use Rattle.fault_texts.specs.Lines.{where_text}
use Rattle.fault_texts.proofs.InTable.{around_below, meant_below, meant_fits}
use Rattle.fault_texts.proofs.lines.push_where.Goals as goal

pub section-kept-requires : goal.section-kept-requires
section-kept-requires c = is_kept_below c.args.elf.now c.args.entry.section c.requires.kept

pub push_place-requires : goal.push_place-requires
push_place-requires c = rw (c.section-kept.ensures) (is_kept_info c.args.elf.now c.args.entry.section c.requires.kept)

pub push_around-requires-clause-around : goal.push_around-requires-clause-around
push_around-requires-clause-around c =
    rw (c.requires.sight, c.section-kept.ensures) (around_below c.args.elf.now (entry_at c.args.entry.section c.args.entry.index))

pub push_meant-requires-clause-symbol : goal.push_meant-requires-clause-symbol
push_meant-requires-clause-symbol c =
    let below = rw (c.rela-rela.ensures.value) at c.rela-rela.ensures.symbol in
    rw (c.requires.sight, c.section-kept.ensures) (meant_below c.args.elf.now (entry_at c.args.entry.section c.args.entry.index) below)

pub push_meant-requires-clause-distance : goal.push_meant-requires-clause-distance
push_meant-requires-clause-distance c =
    rw (c.requires.sight) (meant_fits c.args.elf.now (entry_at c.args.entry.section c.args.entry.index) c.rela-rela.ensures.accepted)

pub returns : goal.returns
unfolding where_text
returns c =
    rw (
      c.in_ok-push_meant.ensures,
      c.in_ok-extend_from_slice-3.ensures.items,
      c.in_ok-push_around.ensures,
      c.in_ok-extend_from_slice-2.ensures.items,
      c.in_ok-push_place.ensures,
      c.in_ok-extend_from_slice.ensures.items,
      c.in_ok-push_kind.ensures,
      c.requires.sight,
      c.section-kept.ensures,
      c.rela-rela.ensures.value,
    )
    (simp (append_assoc, append-nil))
