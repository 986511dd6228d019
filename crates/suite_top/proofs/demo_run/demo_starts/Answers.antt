-- One number more.
use Rattle.std.proofs.Common.{map, sym, ap, ◌∙◌}
use Rattle.manifest_text.specs.Values.{start_value}
use Rattle.suite_top.specs.Demo.{demo_start}
use Rattle.suite_top.proofs.Demos.{none_yet, pushed}
use Rattle.suite_top.proofs.demo_run.demo_starts.Goals as goal

pub loop-before-init : goal.loop-before-init
loop-before-init c = ap (map start_value) c.new-starts.ensures.items ∙ sym (none_yet demo_start)

pub loop-before-preserved : goal.loop-before-preserved
loop-before-preserved c = pushed demo_start start_value c.loop-before.starts.items c.push.new.self.items _ c.loop-before.before c.loop-before.invariant c.in_ok-demo_start.ensures c.in_ok-push.ensures.items
