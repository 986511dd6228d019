-- What the kept relocations of a file fill, in the order of sections and entries. RISC-V ELF psABI, "Relocations".
use Rattle.std.specs.Prelude.{ℕ, List, [], map, flat_map, if◌then◌else◌}
use Rattle.std.specs.List.{range_with_len}
use Rattle.elf32_reader.specs.Header.{count_of}
use Rattle.elf32_reader.specs.Relas.{is_kept, rela_count}
use Rattle.psabi_relocs.specs.Field.{Field, fields}
use Rattle.psabi_relocs.specs.declared.spans.Span.{Span}
use Rattle.psabi_relocs.specs.Effect.{spans}

-- the fields of section i's entries at addresses that are raised by d
unfoldable pub fields_in : List ℕ → ℕ → ℕ → List Field
fields_in e d i = if is_kept e i then flat_map (fields e d i) (range_with_len 0 (rela_count e i)) else []

unfoldable pub fields_of : List ℕ → ℕ → List Field
fields_of e d = flat_map (fields_in e d) (range_with_len 0 (count_of e))

-- the bytes of section i's entries, a list for each
unfoldable pub spans_in : List ℕ → ℕ → List (List Span)
spans_in e i = if is_kept e i then map (spans e i) (range_with_len 0 (rela_count e i)) else []

unfoldable pub spans_of : List ℕ → List (List Span)
spans_of e = flat_map (spans_in e) (range_with_len 0 (count_of e))
