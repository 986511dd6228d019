-- What contracts see of a `Flat`.
use Rattle.std.specs.Prelude.{ℕ, List, drop}
use Rattle.bflt_format.specs.declared.flat.Flat.TheInside.{Inside}
use Rattle.bflt_format.specs.Values.{Values}

-- what stands behind the header of a file
abbrev pub behind_header : List ℕ → List ℕ
behind_header y = drop 64 y

abbrev pub values_of : Inside → Values
values_of s = record {
  entry = s.entry;
  text = s.text;
  data_len = s.data_len;
  bss = s.bss;
  stack = s.stack;
  flags = s.flags;
  body = behind_header s.file.items;
  records = s.records.items;
}
