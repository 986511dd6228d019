-- The bytes of a loaded flat file, after Linux's fs/binfmt_flat.c.
use Rattle.std.specs.Prelude.{ℕ, ◌+◌, ◌%◌, ◌^◌, ◌==◌, if◌then◌else◌, List, [], map, slice_index, Option}
use Rattle.bflt_format.specs.Numbers.{big_at}
use Rattle.byte_words.specs.Patches.{Patch, painted, from_base, little_word}
use Rattle.bflt_format.specs.Values.{Values, image_size}

-- the big-endian number at record r becomes an address above b, little-endian; a word 0 stays as it is
unfoldable pub link : List ℕ → ℕ → ℕ → Patch
link body b r = if big_at body r == 0 then record { at = r; bytes = [] } else little_word r ((b + big_at body r) % 2 ^ 32)

-- the image with its byte 0 at address b: the body and zeros for bss, with the recorded words linked
unfoldable pub flat_image : Values → ℕ → ℕ → Option ℕ
flat_image f b = from_base b (image_size f) (painted (map (link f.body b) f.records) (slice_index f.body))
