-- The faults are those of the file all along.
use Rattle.std.proofs.Common.{◌∙◌}
use Rattle.fault_texts.specs.Listing.{most_lines}
use Rattle.fault_texts.proofs.InFile.{read_taken, read_same}
use Rattle.fault_texts.proofs.listings.push_read.Goals as goal

pub push_lines-requires : goal.push_lines-requires
push_lines-requires c = read_taken c.in_ok-sights.sights c.args.elf.now c.args.found.now c.written.result.now most_lines c.in_ok-sights.ensures c.written.ensures c.requires

pub push_in_counts-requires : goal.push_in_counts-requires
push_in_counts-requires c = read_same c.push_lines.new.sights c.args.elf.now c.args.found.now (c.push_lines.ensures.same ∙ c.in_ok-sights.ensures) c.requires

pub push_to_counts-requires : goal.push_to_counts-requires
push_to_counts-requires c =
    read_same c.push_in_counts.new.sights c.args.elf.now c.args.found.now (c.push_in_counts.ensures.same ∙ c.push_lines.ensures.same ∙ c.in_ok-sights.ensures) c.requires
