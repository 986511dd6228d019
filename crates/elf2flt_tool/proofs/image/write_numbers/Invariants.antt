use Rattle.std.proofs.Common.{◌≡◌, length, map, take, slice_index}
use Rattle.byte_words.specs.Patches.{painted, bytes_below}
use Rattle.elf2flt_tool.specs.Converted.{number_patch}
use Rattle.elf2flt_tool.specs.Word.{word_at}
use Rattle.elf2flt_tool.proofs.image.write_numbers.Given as goal

-- the words so far, painted over the image as it was
abbrev pub invariant-loop-place : goal.invariant-loop-place
invariant-loop-place l =
    l.image ≡ bytes_below (length l.fn.image) (painted (map number_patch (map (word_at l.layout l.fn.image) (take l.place-index l.places))) (slice_index l.fn.image))
