use Rattle.std.proofs.Common.{◌≡◌, refl, sym, ap, subst, ◌∙◌, arith}
use Rattle.std.specs.Option.{option_map}
use Rattle.elf32_reader.specs.Relas.{rela_count}
use Rattle.elf32_reader.proofs.Places.{is_kept_below, is_kept_info}
use Rattle.psabi_relocs.specs.Reloc.{reloc, target_section}
use Rattle.psabi_relocs.specs.Pair.{is_high_at, names}
use Rattle.psabi_relocs.specs.Firsts.{first_at, high_part}
use Rattle.psabi_relocs.proofs.IndexSearches.{first_below_zero}
use Rattle.psabi_relocs.proofs.IndexEntries.{HasEntries, sum_below_zero, one_more, all_entries}
use Rattle.psabi_relocs.proofs.GroupCounts.{can_step}
use Rattle.psabi_relocs.proofs.pairs.Pairs.of.Goals as goal

pub section-requires : goal.section-requires
section-requires c = is_kept_below _ _ c.requires.kept

pub section-target-requires : goal.section-target-requires
section-target-requires c = rw c.section.ensures (is_kept_info _ _ c.requires.kept)

pub loop-entry-init : goal.loop-entry-init
loop-entry-init c = record {
  high = λ q. ap (λ ns. first_at ns q) c.new.ensures.items ∙ sym (ap (option_map (λ k. high_part (reloc c.args.elf.now c.args.section k))) (first_below_zero (λ k. is_high_at q (reloc c.args.elf.now c.args.section k))));
  low = λ q. ap (λ ns. first_at ns q) c.new-2.ensures.items ∙ sym (first_below_zero (λ k. names (target_section c.args.elf.now c.args.section) q (reloc c.args.elf.now c.args.section k)));
  sums = λ q width. rw c.new-3.ensures.empty (sum_below_zero _ _ q width);
}

pub note_entry-requires : goal.note_entry-requires
note_entry-requires c =
    let e = c.args.elf.now in
    let place = (reloc e c.args.section c.loop-entry.entry).place in
    record {
      kept = c.requires.kept;
      entry = omega arith;
      room = λ width. rw (c.loop-entry.invariant.sums place width) (can_step e c.args.section place width c.loop-entry.entry (omega arith));
    }

pub loop-entry-preserved : goal.loop-entry-preserved
loop-entry-preserved c =
    let step = rw (c.section-target.ensures, c.section.ensures) at c.in_ok-note_entry.ensures in
    one_more c.args.elf.now c.args.section c.loop-entry.entry c.loop-entry.gathered c.note_entry.new.self c.loop-entry.invariant (
    record { high = step.high; low = step.low; sums = step.sums })

pub returns : goal.returns
returns c =
    let all : c.loop-entry.entry ≡ rela_count c.args.elf.now c.args.section = omega (arith, c.relas-entry-end.ensures.count) in
    let entries = subst (λ n. HasEntries c.args.elf.now c.args.section n c.loop-entry.gathered) all c.loop-entry.invariant in
    all_entries c.args.elf.now c.args.section c.loop-entry.gathered _ entries c.in_ok-of.ensures c.in_ok-of-2.ensures refl
