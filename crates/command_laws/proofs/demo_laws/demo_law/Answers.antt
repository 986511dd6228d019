-- Each law by its proof over plain values.
use Rattle.command_laws.proofs.DemoLaws.{demos_convert, demos_ask_nothing, demos_run_where_they_open, demos_open_where_they_stop, demos_stop_or_are_refused, demos_tell_a_line, programs_are_spelled}
use Rattle.command_laws.proofs.demo_laws.demo_law.Goals as goal

pub returns : goal.returns
returns c = record {
  programs = demos_convert;
  spelled = programs_are_spelled;
  untouched = demos_ask_nothing;
  opens = demos_run_where_they_open;
  stops = demos_open_where_they_stop;
  early = demos_stop_or_are_refused;
  line = demos_tell_a_line;
}
