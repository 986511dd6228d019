-- By what is said of each run.
use Rattle.command_laws.proofs.BootedRuns.{does_as_alone, ends_as_alone, waits_to_the_end, has_worlds_in_order, has_regular_worlds}
use Rattle.suite_top.proofs.Demos.{reasonable}
use Rattle.command_laws.proofs.demo_laws.demo_turns_law.Goals as goal

pub returns : goal.returns
returns c = record {
  lives = λ n few o. does_as_alone (reasonable n few) o;
  ends = λ n few o. ends_as_alone (reasonable n few) o;
  waits = λ n few o. waits_to_the_end (reasonable n few) o;
  counts = λ n few o. has_worlds_in_order (reasonable n few) o;
  worlds = λ n few o. has_regular_worlds (reasonable n few) o;
}
