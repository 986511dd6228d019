-- The flat file ("flat.h" of uClinux, version 4) that an ELF file is converted to: text and data with big-endian numbers at the recorded places, and ascending records.
use Rattle.std.specs.Prelude.{ℕ, ◌+◌, List, map}
use Rattle.byte_words.specs.Patches.{Patch, painted, bytes_below, big_word}
use Rattle.bflt_format.specs.Values.{Values, rounded_stack}
use Rattle.bflt_format.specs.Spelling.{spell}
use Rattle.flat_layout.specs.Layout.{layout}
use Rattle.elf2flt_tool.specs.declared.word.Word.{Word}
use Rattle.elf2flt_tool.specs.Word.{words, records}
use Rattle.elf2flt_tool.specs.Image.{bare}

-- a recorded word holds the number of its target, big-endian
unfoldable pub number_patch : Word → Patch
number_patch w = big_word w.place w.target

unfoldable pub body_of : List ℕ → List ℕ
body_of e = bytes_below ((layout e).text + (layout e).data_len) (painted (map number_patch (words e)) (bare e))

unfoldable pub converted : List ℕ → ℕ → Values
converted e stack = record {
  entry = 64 + (layout e).entry;
  text = (layout e).text;
  data_len = (layout e).data_len;
  bss = (layout e).bss;
  stack = rounded_stack stack;
  flags = 1;
  body = body_of e;
  records = records e;
}

unfoldable pub flat : List ℕ → ℕ → List ℕ
flat e stack = spell (converted e stack)
