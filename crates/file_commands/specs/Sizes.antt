-- The numbers in the lines of `convert` and `check`.
use Rattle.std.specs.Prelude.{◌≡◌, ℕ, ◌+◌, ◌-◌, ◌≤◌, List, length, None}
use Rattle.byte_words.specs.Numbers.{IsBytes}
use Rattle.flat_layout.specs.Layout.{layout}
use Rattle.bflt_format.specs.Values.{Values, rounded_stack}
use Rattle.bflt_format.specs.Header.{entry, data_start, data_end, bss_end, stack_size, reloc_count}
use Rattle.elf2flt_tool.specs.Word.{records}
use Rattle.elf2flt_tool.specs.Fault.{fault}
use Rattle.elf2flt_tool.specs.Converted.{flat}

pub record Sizes : Type 0 where
  -- the bytes of text, of data, of bss and of stack
  pub text : ℕ
  pub data_len : ℕ
  pub bss : ℕ
  pub stack : ℕ
  -- how many words are recorded
  pub records : ℕ
  -- the offset of the first instruction in the flat file
  pub entry : ℕ

-- of the ELF file e: T, D and B of its layout, the rounded stack, the numbers at which its recorded words begin, and its entry behind a header of 64 bytes
abbrev pub sizes : (e : List ℕ) (stack : ℕ) → Sizes
sizes e stack = record {
  text = (layout e).text;
  data_len = (layout e).data_len;
  bss = (layout e).bss;
  stack = rounded_stack stack;
  records = length (records e);
  entry = 64 + (layout e).entry;
}

-- of the values of a flat file
abbrev pub sizes_of : Values → Sizes
sizes_of f = record { text = f.text; data_len = f.data_len; bss = f.bss; stack = f.stack; records = length f.records; entry = f.entry }

-- by the words of a flat file's header ("flat.h" of uClinux, struct flat_hdr): the header has 64 bytes, and the text begins behind it
abbrev pub header_sizes : List ℕ → Sizes
header_sizes y = record {
  text = data_start y - 64;
  data_len = data_end y - data_start y;
  bss = bss_end y - data_end y;
  stack = stack_size y;
  records = reloc_count y;
  entry = entry y;
}

-- the header of an ELF file's flat file has the numbers of the ELF file
abbrev pub HeaderHasSizes : Type 0
HeaderHasSizes = (e : List ℕ) (stack : ℕ) → IsBytes e → fault e ≡ None → stack ≤ 1048576 → header_sizes (flat e stack) ≡ sizes e stack
