-- Each law by its proof over plain values.
use Rattle.suite_top.proofs.NoStatus.{no_status_is_always}
use Rattle.suite_top.proofs.Outcomes.{texts_are_apart, refuted_is_of_replay, usage_is_exact}
use Rattle.suite_top.proofs.SpelledNumbers.{stack_is_spelled}
use Rattle.suite_top.proofs.StatusLaws.{answers_are_whole, completes, reads_fail, writes_fail, sinks_fail, memory_is_told, memory_is_one_line, shortages_stop}
use Rattle.suite_top.proofs.laws.status_law.Goals as goal

pub returns : goal.returns
returns c = record {
  answers = answers_are_whole;
  complete = completes;
  texts = texts_are_apart;
  refuted = refuted_is_of_replay;
  usage = usage_is_exact;
  stack = stack_is_spelled;
  host_read = reads_fail;
  host_write = writes_fail;
  sink_write = sinks_fail;
  memory = memory_is_told;
  one_line = memory_is_one_line;
  shortage = shortages_stop;
  always = no_status_is_always;
}
