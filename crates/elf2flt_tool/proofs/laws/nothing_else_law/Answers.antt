use Rattle.elf2flt_tool.proofs.Twins.{same_words_law}
use Rattle.elf2flt_tool.proofs.Agreed.{nothing_else_law, same_recorders_law}
use Rattle.elf2flt_tool.proofs.Exchanged.{differ_though_agreed}
use Rattle.elf2flt_tool.proofs.laws.nothing_else_law.Goals as goal

pub returns-clause-relocs : goal.returns-clause-relocs
returns-clause-relocs c = nothing_else_law

pub returns-clause-needed : goal.returns-clause-needed
returns-clause-needed c = differ_though_agreed

pub returns-clause-recorders : goal.returns-clause-recorders
returns-clause-recorders c = same_recorders_law

pub returns-clause-words : goal.returns-clause-words
returns-clause-words c = same_words_law
