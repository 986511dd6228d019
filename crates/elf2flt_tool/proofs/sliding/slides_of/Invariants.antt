use Rattle.std.proofs.Common.{◌≡◌, ◌+◌, ◌≤◌, length, map}
use Rattle.std.specs.List.{range_with_len}
use Rattle.byte_words.specs.Patches.{painted, bytes_below}
use Rattle.elf2flt_tool.specs.Image.{section_patch}
use Rattle.elf2flt_tool.specs.Slides.{slid_patch, GoDown, end_of}
use Rattle.elf2flt_tool.proofs.sliding.slides_of.Given as goal

-- the slides so far bring the bytes of the sections so far
abbrev pub invariant-loop-index : goal.invariant-loop-index
invariant-loop-index l =
    GoDown (length l.elf) 64 l.slides.items
    × (l.end ≡ end_of 64 l.slides.items)
    × (l.end ≤ 64 + l.layout.text + l.layout.data_len)
    × (bytes_below (l.layout.text + l.layout.data_len) (painted (map (slid_patch l.elf) l.slides.items) (λ n. 0))
    ≡ bytes_below (l.layout.text + l.layout.data_len) (painted (map (section_patch l.elf) (range_with_len 0 l.index)) (λ n. 0)))
