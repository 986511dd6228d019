use Rattle.std.proofs.Common.{◌≡◌, length, take, drop}
use Rattle.elf2flt_tool.specs.Slides.{IsSlid, GoDown, end_of}
use Rattle.elf2flt_tool.proofs.sliding.slide_all.Given as goal

abbrev pub invariant-loop-slide : goal.invariant-loop-slide
invariant-loop-slide l =
    IsSlid l.fn.file l.file l.end (take l.slide-index l.slides)
    × GoDown (length l.fn.file) l.end (drop l.slide-index l.slides)
    × (end_of l.end (drop l.slide-index l.slides) ≡ end_of 64 l.slides)
