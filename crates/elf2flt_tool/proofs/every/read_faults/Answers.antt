use Rattle.std.proofs.Common.{◌∙◌, ap, sym}
use Rattle.std.specs.Option.{is_some}
use Rattle.elf2flt_tool.proofs.NotedSteps.{read_with, read_without}
use Rattle.elf2flt_tool.proofs.every.read_faults.Goals as goal

pub with_words-requires-clause-numbers : goal.with_words-requires-clause-numbers
with_words-requires-clause-numbers c = sym (ap is_some (sym c.in-Some.is) ∙ c.numbers.ensures.there)

pub returns-in_ok-all-in-Some : goal.returns-in_ok-all-in-Some
returns-in_ok-all-in-Some c = c.in_ok-all-in-Some.ensures ∙ read_with _ (ap is_some (sym c.in-Some.is) ∙ c.numbers.ensures.there)

pub returns-in-None : goal.returns-in-None
returns-in-None c = c.in_ok-faults.ensures ∙ read_without _ (ap is_some (sym c.in-None.is) ∙ c.numbers.ensures.there)
