use Rattle.std.proofs.Common.{◌-◌, arith}
use Rattle.elf32_reader.specs.Sections.{section}
use Rattle.elf32_reader.proofs.Places.{allocated_has_content, length_content}
use Rattle.elf32_reader.proofs.Facts.{stored_fits}
use Rattle.psabi_relocs.proofs.StoredWord.{holds_parts, number-content}
use Rattle.psabi_relocs.proofs.bytes.linked_word.Goals as goal

pub content-requires-clause-content : goal.content-requires-clause-content
content-requires-clause-content c =
    allocated_has_content _ c.requires.allocated (holds_parts _ _ _ c.requires.holds).stored

pub word-requires : goal.word-requires
word-requires c =
    let s = section c.args.elf.now c.args.index in
    let holds = holds_parts s c.args.address 4 c.requires.holds in
    let fits = stored_fits c.args.elf.now c.args.index c.requires.accepted.no_fault c.requires.index c.requires.allocated holds.stored in
    let same = length_content c.args.elf.now s fits in
    rw (c.section-start.ensures, c.content.ensures, same) (omega arith)

pub returns : goal.returns
returns c =
    let s = section c.args.elf.now c.args.index in
    let holds = holds_parts s c.args.address 4 c.requires.holds in
    let fits = stored_fits c.args.elf.now c.args.index c.requires.accepted.no_fault c.requires.index c.requires.allocated holds.stored in
    rw (c.word.ensures, c.content.ensures, c.section-start.ensures) (number-content c.args.elf.now s (c.args.address - s.addr) fits (omega arith))
