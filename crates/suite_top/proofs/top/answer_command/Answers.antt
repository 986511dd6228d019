-- Arguments that are no command: the usage line. The numbers of a command are in their ranges. A demo asks nothing of the host.
use Rattle.std.proofs.Common.{map, string_bytes, sym, subst}
use Rattle.file_commands.specs.declared.status.Status.TheVariants as status
use Rattle.file_commands.specs.Texts.{usage_line}
use Rattle.file_commands.proofs.Lines.{ends_with_line}
use Rattle.file_commands.proofs.Ranges.{HasRanges, read_in_ranges}
use Rattle.suite_top.proofs.Usage.{ends_with_usage, performs_demo}
use Rattle.suite_top.proofs.top.answer_command.Goals as goal

pub convert_file-requires-clause-some_stack : goal.convert_file-requires-clause-some_stack
convert_file-requires-clause-some_stack g c =
    (subst HasRanges (sym (rw c.in-Some-Convert.field-0-is at c.in-Some-Convert.ensures)) (read_in_ranges (map string_bytes c.args.arguments.now))).0

pub convert_file-requires-clause-stack_limit : goal.convert_file-requires-clause-stack_limit
convert_file-requires-clause-stack_limit g c =
    (subst HasRanges (sym (rw c.in-Some-Convert.field-0-is at c.in-Some-Convert.ensures)) (read_in_ranges (map string_bytes c.args.arguments.now))).1

pub run_demo-requires-clause-some : goal.run_demo-requires-clause-some
run_demo-requires-clause-some g c =
    (subst HasRanges (sym (rw c.in-Some-Demo.field-0-is at c.in-Some-Demo.ensures)) (read_in_ranges (map string_bytes c.args.arguments.now))).0

pub run_demo-requires-clause-few : goal.run_demo-requires-clause-few
run_demo-requires-clause-few g c =
    (subst HasRanges (sym (rw c.in-Some-Demo.field-0-is at c.in-Some-Demo.ensures)) (read_in_ranges (map string_bytes c.args.arguments.now))).1

pub returns-in-None-clause-performs : goal.returns-in-None-clause-performs
returns-in-None-clause-performs g c = ends_with_usage _ (map string_bytes c.args.arguments.now) _ c.in-None.ensures (ends_with_line status.Usage c.usage.result usage_line _ c.usage.ensures c.early.ensures)

pub returns-in-Some-Demo-clause-performs : goal.returns-in-Some-Demo-clause-performs
returns-in-Some-Demo-clause-performs g c = performs_demo _ _ (map string_bytes c.args.arguments.now) c.in-Some-Demo.programs _ (rw c.in-Some-Demo.field-0-is at c.in-Some-Demo.ensures) c.run_demo.ensures
