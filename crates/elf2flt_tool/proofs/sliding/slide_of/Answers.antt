use Rattle.std.proofs.Common.{arith, refl}
use Rattle.flat_layout.proofs.Facts.{clear_numbers, size_le, text-data, laid_out}
use Rattle.flat_layout.proofs.Numbers.{is_numbered, stored_inside}
use Rattle.elf2flt_tool.specs.Slides.{section_slide}
use Rattle.elf2flt_tool.proofs.sliding.slide_of.Goals as goal

pub overflow_add-result : goal.overflow_add-result
overflow_add-result c =
    let e = c.args.elf.now in
    let i = c.args.index in
    let numbers = clear_numbers e c.requires.no_fault in
    let small = size_le e numbers in
    let inside = stored_inside e i numbers c.requires.index c.requires.bytes in
    let number = (is_numbered e i numbers c.requires.index (laid_out e i c.requires.bytes)).number in
    let whole = text-data e in
    rw (c.off.ensures, c.requires.layout, c.section-section.ensures) (omega (arith, number, whole, inside, small))

pub returns : goal.returns
unfolding section_slide
returns c = rw (c.off.ensures, c.requires.layout, c.section-section.ensures) refl
