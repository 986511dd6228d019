use Rattle.std.proofs.Common.{◌≡◌, ◌+◌, ◌∷◌, length, take, drop, get_or, refl, ap, sym, ◌∙◌, subst}
use Rattle.std.proofs.lemmas.List.{take_more, drop_more}
use Rattle.elf2flt_tool.specs.declared.slide.Slide.{Slide}
use Rattle.elf2flt_tool.specs.Slides.{IsSlid, GoDown, end_of}
use Rattle.elf2flt_tool.proofs.Slid.{slid_none, slid_more}
use Rattle.elf2flt_tool.proofs.sliding.slide_all.Goals as goal

pub loop-slide-init : goal.loop-slide-init
loop-slide-init c = (slid_none c.args.file.now c.requires.header, c.requires.down, refl)

pub loop-slide-preserved : goal.loop-slide-preserved
loop-slide-preserved c =
    let e = c.args.file.now in
    let ss = c.args.slides.now in
    let i = c.loop-slide.slide-index in
    let none : Slide = record { from = 0; to = 0; len = 0 } in
    let s : Slide = get_or ss i none in
    let here : drop i ss ≡ s ∷ drop (i + 1) ss = drop_more ss i none c.loop-slide-test.true in
    let down = subst (GoDown (length e) c.loop-slide.end) here c.loop-slide.invariant.1 in
    let slid = slid_more e c.loop-slide.file c.slide_down.new.file c.loop-slide.end (take i ss) s c.loop-slide.invariant.0 down.0 down.1 down.2 c.slide_down.ensures in (
      subst (IsSlid e c.slide_down.new.file (s.to + s.len)) (sym (take_more ss i none c.loop-slide-test.true)) slid,
      down.3,
      ap (end_of c.loop-slide.end) (sym here) ∙ c.loop-slide.invariant.2,
    )
