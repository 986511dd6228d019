use Rattle.std.proofs.Common.{◌≡◌, ℕ, ◌&&◌, ◌==◌}
use Rattle.std.specs.Ordering.{nat_cmp}
use Rattle.std.specs.BTreeMap as tree
use Rattle.elf32_reader.specs.Sections.{section}
use Rattle.flat_layout.specs.Numbering.{has_bytes}
use Rattle.psabi_relocs.specs.Search.{first_below}
use Rattle.psabi_relocs.proofs.stored.StoredSections.of.Given as goal

-- the sections so far
abbrev pub invariant-loop-index : goal.invariant-loop-index
invariant-loop-index l =
    (q : ℕ) → tree.get nat_cmp l.firsts q ≡ first_below (λ k. has_bytes (section l.elf k) && (section l.elf k).addr == q) l.index
