-- An entry that neither pairs nor groups changes nothing.
use Rattle.std.proofs.Common.{◌≡◌, ◌∙◌, ℕ, List, false, ap, sym}
use Rattle.std.specs.Ordering.{nat_cmp}
use Rattle.std.specs.BTreeMap as tree
use Rattle.elf32_reader.specs.Relas.{rela}
use Rattle.elf32_reader.specs.declared.rela.Rela.{Rela}
use Rattle.psabi_relocs.specs.declared.row.Row.{Row}
use Rattle.psabi_relocs.specs.Row.{row_of, is_joined}
use Rattle.psabi_relocs.specs.Reloc.{reloc}
use Rattle.psabi_relocs.specs.Sums.{sums_or_none, sum_of}
use Rattle.psabi_relocs.specs.Firsts.{first_at, high_part}
use Rattle.psabi_relocs.proofs.IndexEntries.{unpaired_high, unpaired_low, ungrouped}
use Rattle.psabi_relocs.proofs.pairs.Gathered.note_entry.Goals as goal

-- the row by which the code decides is the entry's
row_alone : (e : List ℕ) (i j : ℕ) (found : Rela) (row : Row) → found ≡ rela e i j → row ≡ row_of found.kind → is_joined row ≡ false → is_joined (reloc e i j).row ≡ false
unfolding reloc
row_alone e i j found row is of alone = ap is_joined (ap (λ (r : Rela). row_of r.kind) (sym is) ∙ sym of) ∙ alone

pub returns-then-not-is_joined-clause-high : goal.returns-then-not-is_joined-clause-high
returns-then-not-is_joined-clause-high c =
    let e = c.args.elf.now in
    let alone = row_alone e c.args.section c.args.entry c.rela.result c.of.result c.rela.ensures.value c.of.ensures (sym c.is_joined.ensures ∙ c.if-not-is_joined.true) in
    λ q. unpaired_high (reloc e c.args.section c.args.entry) alone q (high_part (reloc e c.args.section c.args.entry)) (first_at c.args.self.now.high.items q)

pub returns-then-not-is_joined-clause-low : goal.returns-then-not-is_joined-clause-low
returns-then-not-is_joined-clause-low c =
    let e = c.args.elf.now in
    let alone = row_alone e c.args.section c.args.entry c.rela.result c.of.result c.rela.ensures.value c.of.ensures (sym c.is_joined.ensures ∙ c.if-not-is_joined.true) in
    λ q. unpaired_low (reloc e c.args.section c.args.entry) alone c.args.target.now q c.args.entry (first_at c.args.self.now.low.items q)

pub returns-then-not-is_joined-clause-sums : goal.returns-then-not-is_joined-clause-sums
returns-then-not-is_joined-clause-sums c =
    let e = c.args.elf.now in
    let alone = row_alone e c.args.section c.args.entry c.rela.result c.of.result c.rela.ensures.value c.of.ensures (sym c.is_joined.ensures ∙ c.if-not-is_joined.true) in
    λ q width. ungrouped (reloc e c.args.section c.args.entry) alone q width (sum_of width (sums_or_none (tree.get nat_cmp c.args.self.now.sums q)))
