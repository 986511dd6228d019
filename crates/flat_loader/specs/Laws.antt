-- What the definitions of loading say of each flat program whose frame fits.
use Rattle.std.specs.Prelude.{◌≡◌, ◌≢◌, ℕ, ◌+◌, ◌%◌, ◌<◌, ◌≤◌, true, List, slice_get, Some, None}
use Rattle.rv32im_step.specs.Registers.{register}
use Rattle.bflt_format.specs.Values.{Values, image_size}
use Rattle.bflt_format.specs.Image.{flat_image}
use Rattle.mmap_rules.specs.Space.{page_size}
use Rattle.flat_loader.specs.Original.{flat_original, header_len}
use Rattle.flat_loader.specs.Frame.{frame_len, frame, frame_fits}
use Rattle.flat_loader.specs.Begin.{Loading, flat_loading, stack_pointer, begin_space, begin_regs, block_end}

-- where image number 0 stands
abbrev pub image_start : Loading → ℕ
image_start l = l.block + header_len

-- a program's space at its start, from its first byte on: the image, zeros up to the stack pointer, the frame, which ends in the
-- block, and zeros up to the block's end; it has no other byte. The frame begins as high as it can. The break's area lies behind the
-- image and below the frame. The registers but the stack pointer are 0.
pub record Begins (f : Values) (l : Loading) : Type 0 where
  pub image : (n : ℕ) → n < image_size f → (begin_space l).bytes (image_start l + n) ≡ flat_image f (image_start l) (image_start l + n)
  pub zeros : (a : ℕ) → image_start l + image_size f ≤ a → a < stack_pointer l → (begin_space l).bytes a ≡ Some 0
  pub frame_bytes : (n : ℕ) → n < frame_len l.args l.env → (begin_space l).bytes (stack_pointer l + n) ≡ slice_get (frame (stack_pointer l) l.args l.env) n
  pub frame_end : stack_pointer l + frame_len l.args l.env ≤ block_end l
  pub behind : (a : ℕ) → stack_pointer l + frame_len l.args l.env ≤ a → a < block_end l → (begin_space l).bytes a ≡ Some 0
  pub below : (a : ℕ) → a < image_start l → (begin_space l).bytes a ≡ None
  pub past : (a : ℕ) → block_end l ≤ a → (begin_space l).bytes a ≡ None
  pub aligned : stack_pointer l % 16 ≡ 0
  pub highest : (a : ℕ) → a % 16 ≡ 0 → a + frame_len l.args l.env ≤ block_end l → a ≤ stack_pointer l
  pub pc : (begin_regs l).pc ≡ l.block + f.entry
  pub sp : register (begin_regs l).x 2 ≡ stack_pointer l
  pub registers : (r : ℕ) → r ≢ 2 → register (begin_regs l).x r ≡ 0
  pub brk_low : (begin_space l).brk_low ≡ image_start l + image_size f
  pub brk_rises : (begin_space l).brk_low ≤ (begin_space l).brk_high
  pub brk_high : (begin_space l).brk_high ≤ stack_pointer l

abbrev pub ProgramsBegin : Type 0
ProgramsBegin =
    (f : Values) (block : ℕ) (args env : List (List ℕ)) → block % page_size ≡ 0 → frame_fits (flat_original f) args env ≡ true →
    Begins f (flat_loading f block args env)
