use Rattle.std.proofs.Common.{ap, ◌∙◌, subst}
use Rattle.std.specs.Int.{w32, cast_unsigned}
use Rattle.elf32_reader.specs.declared.rela.Rela.{Rela}
use Rattle.elf32_reader.specs.Accepted.{IsAccepted}
use Rattle.elf32_reader.proofs.Facts.{cast_unsigned-addend, kept_link}
use Rattle.elf32_reader.proofs.elf.Elf.rela.Goals as goal

pub returns-clause-addend : goal.returns-clause-addend
returns-clause-addend c =
    let view_is = c.self.view_is in
    rw (← view_is) (ap (λ (r : Rela). cast_unsigned w32 r.addend) c.rela_of.ensures ∙ cast_unsigned-addend _ _ _ c.self.invariant.accepted)

pub returns-clause-table : goal.returns-clause-table
returns-clause-table c =
    let accepted : IsAccepted c.args.self.now = subst IsAccepted c.self.view_is c.self.invariant.accepted in
    kept_link _ _ accepted.no_fault c.requires.kept
