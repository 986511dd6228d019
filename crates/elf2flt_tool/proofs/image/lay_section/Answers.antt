use Rattle.std.proofs.Common.{◌≡◌, true, false, sym}
use Rattle.elf32_reader.specs.Sections.{section, content}
use Rattle.elf32_reader.proofs.Facts.{stored_fits}
use Rattle.elf32_reader.proofs.Places.{length_content}
use Rattle.byte_words.specs.Patches.{Patch}
use Rattle.flat_layout.specs.Numbering.{has_bytes}
use Rattle.flat_layout.specs.Layout.{off, layout}
use Rattle.elf2flt_tool.proofs.Painted.{laid-below, laid-nothing, section_patch-stored, section_patch-other, is_stored_of}
use Rattle.elf2flt_tool.proofs.image.lay_section.Goals as goal

pub content-requires-clause-content : goal.content-requires-clause-content
content-requires-clause-content c =
    let is = rw c.section-section.ensures at c.if-has_bytes.ensures in
    (is_stored_of _ (sym is)).content

pub lay-requires : goal.lay-requires
lay-requires c =
    let e = c.args.elf.now in
    let i = c.args.index in
    let is : has_bytes (section e i) ≡ true = sym (rw c.section-section.ensures at c.if-has_bytes.ensures) in
    let stored = is_stored_of _ is in
    let len = length_content e (section e i) (stored_fits e i c.requires.accepted.no_fault c.requires.index stored.allocated stored.stored) in
    let fits = rw (section_patch-stored e i is) at c.requires.fits is in
    rw (c.off.ensures, c.requires.layout, c.section-section.ensures, c.content.ensures, len) fits

pub returns-then-has_bytes : goal.returns-then-has_bytes
returns-then-has_bytes c =
    let e = c.args.elf.now in
    let i = c.args.index in
    let is : has_bytes (section e i) ≡ true = sym (rw c.section-section.ensures at c.if-has_bytes.ensures) in
    let stored = is_stored_of _ is in
    let len = length_content e (section e i) (stored_fits e i c.requires.accepted.no_fault c.requires.index stored.allocated stored.stored) in
    let patch = section_patch-stored e i is in
    let fits = rw patch at c.requires.fits is in
    let p : Patch = record { at = off (layout e) (section e i).addr; bytes = content e (section e i) } in
    let below = laid-below c.args.image.now p (rw len fits) in
    rw (c.lay.ensures, c.off.ensures, c.requires.layout, c.section-section.ensures, c.content.ensures, patch) below

pub returns-else-has_bytes : goal.returns-else-has_bytes
returns-else-has_bytes c =
    let e = c.args.elf.now in
    let i = c.args.index in
    let is : has_bytes (section e i) ≡ false = sym (rw c.section-section.ensures at c.if-has_bytes.ensures) in
    rw (section_patch-other e i is) (laid-nothing c.args.image.now (off (layout e) (section e i).addr))
