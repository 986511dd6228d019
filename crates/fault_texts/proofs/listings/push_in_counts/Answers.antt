-- The counts are of symbols of the file.
use Rattle.std.proofs.Common.{ap, take, sym, subst, ◌∙◌}
use Rattle.elf32_reader.specs.Accepted.{IsAccepted}
use Rattle.fault_texts.specs.Counts.{counts_of}
use Rattle.fault_texts.specs.Listing.{most_lines}
use Rattle.fault_texts.proofs.Subjected.{in_written}
use Rattle.fault_texts.proofs.listings.push_in_counts.Goals as goal

pub push_in_lines-requires : goal.push_in_lines-requires
push_in_lines-requires c =
    in_written c.elf.result.now c.args.sights.now c.args.found.now c.written.result.now
    (c.elf.ensures.file ∙ c.in_subjects.ensures.same)
    (subst IsAccepted (sym c.elf.ensures.file) c.elf.ensures.accepted)
    c.requires
    (c.written.ensures ∙ ap (take most_lines) (c.deref.ensures.value ∙ c.in_ok-counts.ensures ∙ ap counts_of c.in_ok-subjects.ensures.subjects))
