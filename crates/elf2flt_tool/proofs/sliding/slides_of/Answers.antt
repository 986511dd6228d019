use Rattle.std.proofs.Common.{◌≡◌, ◌+◌, ◌≤◌, ◌<◌, true, false, [], ◌∷◌, ◌++◌, length, map, refl, ap, sym, ◌∙◌, subst, arith}
use Rattle.elf32_reader.specs.Header.{count_of}
use Rattle.elf32_reader.specs.Sections.{section}
use Rattle.flat_layout.specs.Numbering.{has_bytes}
use Rattle.flat_layout.specs.Layout.{layout}
use Rattle.flat_layout.proofs.Facts.{clear_numbers, size_le}
use Rattle.std.specs.List.{range_with_len}
use Rattle.byte_words.specs.Patches.{painted, bytes_below}
use Rattle.elf2flt_tool.specs.declared.slide.Slide.{Slide}
use Rattle.elf2flt_tool.specs.Image.{section_patch, bare}
use Rattle.elf2flt_tool.specs.Slides.{section_slide, end_of}
use Rattle.elf2flt_tool.proofs.Slid.{is_inside, down_more, end_more, has_header, brought_more, brought_same}
use Rattle.elf2flt_tool.proofs.sliding.slides_of.Goals as goal
use Rattle.elf2flt_tool.proofs.sliding.slides_of.Goals.{then-has_bytes+else-slide-end+else-slide+in_ok-push, else-has_bytes}

pub loop-index-init : goal.loop-index-init
loop-index-init c = rw c.new-slides.ensures.items (tt, refl, omega arith, refl)

pub overflow_add-end : goal.overflow_add-end
overflow_add-end c =
    let e = c.args.elf.now in
    let i = c.loop-index.index in
    let is : has_bytes (section e i) ≡ true = sym (rw c.section.ensures at c.if-has_bytes.ensures) in
    let inside = (is_inside e i c.sections-index-end.ensures.accepted.no_fault c.requires.no_fault (omega (arith, c.sections-index-end.ensures.count)) is).to in
    let small = size_le e (clear_numbers e c.requires.no_fault) in
    rw c.slide_of-slide.ensures (omega (arith, inside, small))

pub loop-index-preserved : goal.loop-index-preserved
loop-index-preserved c =
    let e = c.args.elf.now in
    let i = c.loop-index.index in
    let ss = c.loop-index.slides.items in
    let n = (layout e).text + (layout e).data_len in
    let below : i < count_of e = omega (arith, c.sections-index-end.ensures.count) in
    let before = c.loop-index.invariant in
    let brought = rw c.requires.layout at before.3 in
    elim c.if-has_bytes.branch [
      | then-has_bytes+else-slide-end+else-slide+in_ok-push w ↦
          let s : Slide = section_slide e i in
          let is : has_bytes (section e i) ≡ true = sym (rw c.section.ensures at w.if-has_bytes.ensures) in
          let inside = is_inside e i c.sections-index-end.ensures.accepted.no_fault c.requires.no_fault below is in
          let same : w.slide_of-slide.result ≡ s = w.slide_of-slide.ensures in
          let items : c.if-has_bytes.slides.items ≡ ss ++ s ∷ [] = ap (λ v. v.items) w.slides-is ∙ w.in_ok-push.ensures.items ∙ ap (λ s. ss ++ s ∷ []) same in
          let end : c.if-has_bytes.end ≡ s.to + s.len = w.end-is ∙ ap (λ (s : Slide). s.to + s.len) same in
          let low : s.to ≤ s.from = subst (λ (s : Slide). s.to ≤ s.from) same w.if-slide.false in
          let past : c.loop-index.end ≤ s.to = subst (λ (s : Slide). c.loop-index.end ≤ s.to) same w.if-slide-end.false in
          let behind : end_of 64 ss ≤ s.to = omega (arith, past, before.1) in
          rw (items, end, c.requires.layout) (
            down_more (length e) 64 ss s before.0 behind low inside.from,
            sym (end_more 64 ss s),
            inside.to,
            brought_more e n i ss is inside.patch brought,
          )
      | else-has_bytes w ↦
          let is : has_bytes (section e i) ≡ false = sym (rw c.section.ensures at w.if-has_bytes.ensures) in
          rw (w.slides-is, w.end-is, c.requires.layout) (before.0, before.1, rw c.requires.layout at before.2, brought ∙ brought_same e n i is)
    ]

pub returns : goal.returns
unfolding bare
returns c =
    let e = c.args.elf.now in
    let n = (layout e).text + (layout e).data_len in
    let all : c.loop-index.index ≡ count_of e = omega (arith, c.sections-index-end.ensures.count) in
    let is = c.loop-index.invariant in
    let some : 0 < length c.loop-index.slides.items = grind (arith, c.if-is_empty.ensures, c.loop-index.slides.ok) in
    let fits : end_of 64 c.loop-index.slides.items ≤ 64 + c.args.layout.now.text + c.args.layout.now.data_len = omega (arith, is.1, is.2) in
    record {
      header = has_header (length e) c.loop-index.slides.items is.0 some;
      down = is.0;
      fits = rw c.requires.layout at fits;
      image = (rw c.requires.layout at is.3) ∙ ap (λ k. bytes_below n (painted (map (section_patch e) (range_with_len 0 k)) (λ n. 0))) all;
    }
