-- The program of an ELF file: the ELF file itself, relocated, and not its flat file.
use Rattle.std.specs.Prelude.{◌≡◌, ℕ, ◌+◌, ◌≤◌, List, None}
use Rattle.byte_words.specs.Numbers.{IsBytes}
use Rattle.flat_layout.specs.Layout.{layout, size_of}
use Rattle.bflt_format.specs.Header.{flat_values}
use Rattle.bflt_format.specs.Values.{rounded_stack}
use Rattle.elf2flt_tool.specs.Image.{image}
use Rattle.elf2flt_tool.specs.Fault.{fault}
use Rattle.elf2flt_tool.specs.Converted.{flat}
use Rattle.flat_loader.specs.Original.{Original, flat_original}

-- its image by the psABI, and its sizes: a header of 64 bytes stands in front
abbrev pub elf_original : (e : List ℕ) (stack : ℕ) → Original
elf_original e stack = record {
  image = image e;
  size = size_of (layout e);
  entry = 64 + (layout e).entry;
  stack = rounded_stack stack;
}

-- that is the program of the flat file that the ELF file is converted to
abbrev pub OriginalsAreSame : Type 0
OriginalsAreSame = (e : List ℕ) (stack : ℕ) → IsBytes e → fault e ≡ None → stack ≤ 1048576 → elf_original e stack ≡ flat_original (flat_values (flat e stack))
