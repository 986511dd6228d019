-- Each start line of a manifest has an argument.
use Rattle.std.proofs.Common.{rules}
use Rattle.std.proofs.lemmas.List.{length-map}
use Rattle.manifest_text.specs.Values.{start_value}
use Rattle.manifest_text.specs.Laws.{HasArgument}
use Rattle.run_setup.proofs.Opened.{each_got}
use Rattle.machine_tests.proofs.tests.machine.booted.Goals as goal

pub boot-requires-clause-setup : goal.boot-requires-clause-setup
boot-requires-clause-setup c = record {
  some = search rules;
  most = search rules;
  changes = search rules;
  paths = search rules;
  starts = rw (← length-map c.args.manifest.starts.items start_value) c.requires.starts;
  args = λ i s is.
      rw (← length-map s.args.items (λ v. v.items)) (each_got HasArgument start_value c.args.manifest.starts.items i s is c.requires.each_start);
}
