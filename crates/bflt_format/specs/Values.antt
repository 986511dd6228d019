-- What a flat file says: the numbers of its header, the bytes behind the header, and the relocation records.
use Rattle.std.specs.Prelude.{ℕ, ◌+◌, ◌*◌, ◌/◌, List}

pub record Values : Type 0 where
  -- where the program starts, counted from the start of the file
  pub entry : ℕ
  -- the bytes of text, of data and of bss
  pub text : ℕ
  pub data_len : ℕ
  pub bss : ℕ
  -- the bytes of stack
  pub stack : ℕ
  pub flags : ℕ
  -- the bytes of text and data
  pub body : List ℕ
  -- the places of the words that are relocated, counted from the start of the body
  pub records : List ℕ

-- the bytes of text and data
abbrev pub stored : Values → ℕ
stored f = f.text + f.data_len

-- the bytes of the whole image
abbrev pub image_size : Values → ℕ
image_size f = f.text + f.data_len + f.bss

-- the bytes of stack for so many that were asked for: sp is a multiple of 16 (RISC-V calling convention)
abbrev pub rounded_stack : ℕ → ℕ
rounded_stack stack = (stack + 15) / 16 * 16

-- the values with flags 1 (RAM)
abbrev pub ram_values : ℕ → ℕ → ℕ → ℕ → ℕ → List ℕ → List ℕ → Values
ram_values entry text data_len bss stack body records = record {
  entry = entry;
  text = text;
  data_len = data_len;
  bss = bss;
  stack = stack;
  flags = 1;
  body = body;
  records = records;
}
