use Rattle.std.proofs.Common.{arith}
use Rattle.flat_layout.specs.Numbering.{distance}
use Rattle.flat_layout.proofs.Facts.{has_sizes}
use Rattle.flat_layout.proofs.layout.lay_out.Goals as goal

pub overflow_cast-result : goal.overflow_cast-result
overflow_cast-result c = let sizes = has_sizes c.args.elf.now c.requires in omega arith

pub overflow_sub-result : goal.overflow_sub-result
overflow_sub-result c = let sizes = has_sizes c.args.elf.now c.requires in omega arith

pub overflow_cast-result-2 : goal.overflow_cast-result-2
overflow_cast-result-2 c = let sizes = has_sizes c.args.elf.now c.requires in omega arith

pub overflow_sub-result-2 : goal.overflow_sub-result-2
unfolding distance
overflow_sub-result-2 c = let sizes = has_sizes c.args.elf.now c.requires in omega arith

pub overflow_cast-result-3 : goal.overflow_cast-result-3
unfolding distance
overflow_cast-result-3 c = let sizes = has_sizes c.args.elf.now c.requires in omega arith
