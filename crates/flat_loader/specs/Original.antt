-- What a loader knows of a program, and the block of memory that it needs.
use Rattle.std.specs.Prelude.{ℕ, ◌+◌, ◌*◌, ◌/◌}
use Rattle.byte_words.specs.ByteMap.{Bytes}
use Rattle.bflt_format.specs.Values.{Values, image_size, rounded_stack}
use Rattle.bflt_format.specs.Image.{flat_image}
use Rattle.mmap_rules.specs.Space.{page_size}

-- its image with image number 0 at a base, the image's bytes, where it starts, counted from the block's first byte, and
-- the bytes of stack that its file asks for
pub record Original : Type 0 where
  pub image : ℕ → Bytes
  pub size : ℕ
  pub entry : ℕ
  pub stack : ℕ

-- a flat file, taken for its own original
abbrev pub flat_original : Values → Original
flat_original f = record { image = flat_image f; size = image_size f; entry = f.entry; stack = f.stack }

-- image number 0 stands behind the 64 bytes of the flat file's header
abbrev pub header_len : ℕ
header_len = 64

-- the stack's bytes
abbrev pub stack_len : Original → ℕ
stack_len o = rounded_stack o.stack

-- the block holds header, image and stack, in whole pages
unfoldable pub block_pages : Original → ℕ
block_pages o = (header_len + o.size + stack_len o + 4095) / page_size

abbrev pub block_len : Original → ℕ
block_len o = page_size * block_pages o
