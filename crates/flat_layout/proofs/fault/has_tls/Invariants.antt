use Rattle.std.proofs.Common.{◌≡◌, false}
use Rattle.byte_words.specs.Search.{any_below}
use Rattle.elf32_reader.specs.Sections.{section}
use Rattle.flat_layout.specs.Fault.{is_tls}
use Rattle.flat_layout.proofs.fault.has_tls.Given as goal

abbrev pub invariant-loop-index : goal.invariant-loop-index
invariant-loop-index l = any_below (λ i. is_tls (section l.elf i)) l.index ≡ false
