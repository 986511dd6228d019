use Rattle.std.proofs.Common.{◌≡◌, ◌+◌, map}
use Rattle.std.specs.List.{range_with_len}
use Rattle.byte_words.specs.Patches.{painted, bytes_below}
use Rattle.elf2flt_tool.specs.Image.{section_patch}
use Rattle.elf2flt_tool.proofs.image.lay_sections.Given as goal

-- the sections so far, laid over zeros
abbrev pub invariant-loop-index : goal.invariant-loop-index
invariant-loop-index l =
    l.image ≡ bytes_below (l.layout.text + l.layout.data_len) (painted (map (section_patch l.elf) (range_with_len 0 l.index)) (λ n. 0))
