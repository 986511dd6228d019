-- The header of a flat file that was converted has the numbers of the ELF file.
use Rattle.std.proofs.Common.{◌≡◌, ℕ, List, length, map, refl, sym, ap, ◌∙◌}
use Rattle.std.specs.List.{range_with_len}
use Rattle.std.proofs.lemmas.List.{length-map}
use Rattle.std.proofs.lemmas.List.FromFn.{length-range_with_len}
use Rattle.bflt_format.specs.Header.{reloc_count, record_at, flat_values}
use Rattle.bflt_format.specs.Spelling.{spell}
use Rattle.bflt_format.proofs.Returns.{spells_come_back}
use Rattle.elf2flt_tool.specs.Converted.{converted, flat}
use Rattle.elf2flt_tool.proofs.Spelled.{spells_converted}
use Rattle.file_commands.specs.Sizes.{sizes, sizes_of, header_sizes, HeaderHasSizes}

-- as many records as the header says
header_is : (y : List ℕ) → header_sizes y ≡ sizes_of (flat_values y)
unfolding flat_values
header_is y =
    let count : length (map (record_at y) (range_with_len 0 (reloc_count y))) ≡ reloc_count y = length-map (range_with_len 0 (reloc_count y)) (record_at y) ∙ length-range_with_len 0 (reloc_count y) in
    ap (λ (n : ℕ). record (header_sizes y) { records = n }) (sym count)

-- the values of the conversion have the ELF file's numbers
pub converted_sizes : (e : List ℕ) (stack : ℕ) → sizes_of (converted e stack) ≡ sizes e stack
unfolding converted
converted_sizes e stack = refl

pub header_has_sizes : HeaderHasSizes
unfolding flat
header_has_sizes e stack bytes none limit =
    let back = spells_come_back (converted e stack) (spells_converted e stack bytes none limit) in
    header_is (spell (converted e stack)) ∙ ap sizes_of back.values ∙ converted_sizes e stack
