-- The space and the registers of a program after loading (Linux, fs/binfmt_flat.c; that the header's bytes belong to nobody
-- is this project's own rule).
use Rattle.std.specs.Prelude.{ℕ, ◌+◌, ◌-◌, ◌/◌, Bool, true, false, ◌&&◌, nat_le, nat_lt, if◌then◌else◌, List, [], ◌∷◌, replicate, slice_index, slice_set, Some, None, unwrap_or}
use Rattle.byte_words.specs.ByteMap.{Bytes}
use Rattle.rv32im_step.specs.declared.regs.Regs.{Regs}
use Rattle.nommu_regions.specs.declared.region.Source.TheVariants.{Own}
use Rattle.mmap_rules.specs.declared.mapping.Range.{Range}
use Rattle.mmap_rules.specs.Space.{memory_base, page_size, Space, in_range}
use Rattle.bflt_format.specs.Values.{Values}
use Rattle.flat_loader.specs.Original.{Original, flat_original, header_len, stack_len, block_pages, block_len}
use Rattle.flat_loader.specs.Frame.{frame_len, frame, frame_start}

-- a program's block at k, and its arguments and environment
pub record Loading : Type 0 where
  pub original : Original
  pub block : ℕ
  pub args : List (List ℕ)
  pub env : List (List ℕ)

-- of a flat file's values
abbrev pub flat_loading : Values → ℕ → List (List ℕ) → List (List ℕ) → Loading
flat_loading f block args env = record { original = flat_original f; block = block; args = args; env = env }

abbrev pub block_end : Loading → ℕ
block_end l = l.block + block_len l.original

abbrev pub in_block : Loading → ℕ → Bool
in_block l a = nat_le l.block a && nat_lt a (block_end l)

-- what of the block is the program's own: all but the header
abbrev pub own_range : Loading → Range
own_range l = record { from = l.block + header_len; size = block_len l.original - header_len; writes = true; anonymous = false }

abbrev pub stack_pointer : Loading → ℕ
stack_pointer l = frame_start (block_end l) (frame_len l.args l.env)

-- the image, and zeros behind it
abbrev pub image_byte : Loading → ℕ → ℕ
image_byte l a = unwrap_or (l.original.image (l.block + header_len) a) 0

-- the frame lies over what was there
abbrev pub begin_byte : Loading → ℕ → ℕ
begin_byte l a =
    if nat_le (stack_pointer l) a && nat_lt a (stack_pointer l + frame_len l.args l.env)
    then slice_index (frame (stack_pointer l) l.args l.env) (a - stack_pointer l)
    else image_byte l a

abbrev pub begin_bytes : Loading → Bytes
begin_bytes l a = if in_range (own_range l) a then Some (begin_byte l a) else None

-- the block alone; the break begins behind the image and may go on to the stack
unfoldable pub begin_space : Loading → Space
begin_space l = record {
  maps = record { first = (l.block - memory_base) / page_size; pages = block_pages l.original; range = own_range l; source = Own } ∷ [];
  brk = l.block + header_len + l.original.size;
  brk_low = l.block + header_len + l.original.size;
  brk_high = block_end l - stack_len l.original;
  bytes = begin_bytes l;
}

-- x2 is the stack pointer
unfoldable pub begin_regs : Loading → Regs
begin_regs l = record { pc = l.block + l.original.entry; x = slice_set (replicate 32 0) 2 (stack_pointer l) }
