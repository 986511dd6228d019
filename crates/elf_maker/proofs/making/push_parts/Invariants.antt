use Rattle.std.proofs.Common.{map, take}
use Rattle.std.specs.List.{All}
use Rattle.elf_maker.specs.Spelling.{Adds, part_item}
use Rattle.elf_maker.specs.Fits.{FitsPart}
use Rattle.elf_maker.proofs.making.push_parts.Given as goal

abbrev pub invariant-loop-part : goal.invariant-loop-part
invariant-loop-part l = record {
  added : Adds l.fn.writer l.writer (map part_item (take l.part-index l.parts));
  fits : All FitsPart (take l.part-index l.parts);
}
