-- What is known of the indexes: they answer as a walk of all sections or all entries would.
use Rattle.std.specs.Prelude.{◌≡◌, ℕ, ◌&&◌, ◌==◌, List}
use Rattle.std.specs.Ordering.{nat_cmp}
use Rattle.std.specs.Option.{option_map}
use Rattle.std.specs.BTreeMap as tree
use Rattle.elf32_reader.specs.Header.{count_of}
use Rattle.elf32_reader.specs.Sections.{section}
use Rattle.elf32_reader.specs.Relas.{rela_count}
use Rattle.flat_layout.specs.Numbering.{has_bytes}
use Rattle.psabi_relocs.specs.declared.pairs.Pairs.{Pairs}
use Rattle.psabi_relocs.specs.declared.stored.StoredSections.{StoredSections}
use Rattle.psabi_relocs.specs.declared.row.Width.{Width}
use Rattle.psabi_relocs.specs.Search.{first_below}
use Rattle.psabi_relocs.specs.Pair.{high_of, low_of}
use Rattle.psabi_relocs.specs.Group.{sum_below}
use Rattle.psabi_relocs.specs.Sums.{sums_or_none, sum_of}
use Rattle.psabi_relocs.specs.Reloc.{reloc}
use Rattle.psabi_relocs.specs.Firsts.{first_at, high_part}

-- s is the index of the stored sections of the image of the file e
pub record AreStored (e : List ℕ) (s : StoredSections) : Type 0 where
  pub firsts : (a : ℕ) → tree.get nat_cmp s.firsts a ≡ first_below (λ k. has_bytes (section e k) && (section e k).addr == a) (count_of e)

-- p is the index of section i of the file e
pub record IsPairs (e : List ℕ) (i : ℕ) (p : Pairs) : Type 0 where
  pub high : (q : ℕ) → first_at p.high q ≡ option_map (λ j. high_part (reloc e i j)) (high_of e i q)
  pub low : (q : ℕ) → first_at p.low q ≡ low_of e i q
  pub sums : (q : ℕ) (width : Width) → sum_of width (sums_or_none (tree.get nat_cmp p.sums q)) ≡ sum_below e i q width (rela_count e i)
