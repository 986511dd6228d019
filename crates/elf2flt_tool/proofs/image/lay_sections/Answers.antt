use Rattle.std.proofs.Common.{◌≡◌, ◌+◌, ◌<◌, length, map, sym, ap, ◌∙◌, zero-add, arith}
use Rattle.std.specs.List.{range_with_len}
use Rattle.std.proofs.lemmas.List.FromFn.{map-range_with_len_more}
use Rattle.elf32_reader.specs.Header.{count_of}
use Rattle.byte_words.specs.Patches.{painted, bytes_below}
use Rattle.byte_words.proofs.Painting.{length-bytes_below}
use Rattle.flat_layout.proofs.Facts.{clear_numbers, text-data, laid_out}
use Rattle.flat_layout.proofs.Numbers.{is_numbered, stored_inside}
use Rattle.elf2flt_tool.specs.Image.{section_patch, bare}
use Rattle.elf2flt_tool.proofs.Painted.{below-push, below-zeros, section_patch-stored}
use Rattle.elf2flt_tool.proofs.image.lay_sections.Goals as goal

pub loop-index-init : goal.loop-index-init
loop-index-init c = c.requires.zeros ∙ below-zeros (c.args.layout.now.text + c.args.layout.now.data_len)

pub lay_section-requires-clause-fits : goal.lay_section-requires-clause-fits
lay_section-requires-clause-fits c = λ is.
    let e = c.args.elf.now in
    let i = c.loop-index.index in
    let none = clear_numbers e c.requires.no_fault in
    let below : i < count_of e = omega (arith, c.sections-index-end.ensures.count) in
    let inside = stored_inside e i none below is in
    let number = (is_numbered e i none below (laid_out e i is)).number in
    let whole = text-data e in
    let painted_so_far = painted (map (section_patch e) (range_with_len 0 i)) (λ n. 0) in
    let len : length c.loop-index.image ≡ c.args.layout.now.text + c.args.layout.now.data_len =
    ap length c.loop-index.invariant ∙ length-bytes_below _ painted_so_far in
    rw (len, c.requires.layout, section_patch-stored e i is, number, whole) inside

pub loop-index-preserved : goal.loop-index-preserved
loop-index-preserved c =
    let e = c.args.elf.now in
    let i = c.loop-index.index in
    let n = c.args.layout.now.text + c.args.layout.now.data_len in
    let ps = map (section_patch e) (range_with_len 0 i) in
    let now : c.loop-index.image ≡ bytes_below n (painted ps (λ k. 0)) = c.loop-index.invariant in
    let len : length c.loop-index.image ≡ n = ap length now ∙ length-bytes_below n (painted ps (λ k. 0)) in
    let laid_now = rw (len, now) at c.lay_section.ensures in
    laid_now ∙ below-push n ps (section_patch e i) (λ k. 0)
    ∙ ap (λ qs. bytes_below n (painted qs (λ k. 0))) (sym (map-range_with_len_more (section_patch e) 0 i i (zero-add i)))

pub returns : goal.returns
unfolding bare
returns c =
    let all : c.loop-index.index ≡ count_of c.args.elf.now = omega (arith, c.sections-index-end.ensures.count) in
    c.loop-index.invariant
    ∙ ap (λ k. bytes_below (c.args.layout.now.text + c.args.layout.now.data_len) (painted (map (section_patch c.args.elf.now) (range_with_len 0 k)) (λ n. 0))) all
