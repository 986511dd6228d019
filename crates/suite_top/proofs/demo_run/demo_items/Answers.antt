-- One number more.
use Rattle.std.proofs.Common.{map, sym, ap, ◌∙◌}
use Rattle.manifest_text.specs.Values.{item_value}
use Rattle.suite_top.specs.Demo.{demo_item}
use Rattle.suite_top.proofs.Demos.{none_yet, pushed}
use Rattle.suite_top.proofs.demo_run.demo_items.Goals as goal

pub loop-before-init : goal.loop-before-init
loop-before-init c = ap (map item_value) c.new-items.ensures.items ∙ sym (none_yet demo_item)

pub loop-before-preserved : goal.loop-before-preserved
loop-before-preserved c = pushed demo_item item_value c.loop-before.items.items c.push.new.self.items _ c.loop-before.before c.loop-before.invariant c.in_ok-demo_item.ensures c.in_ok-push.ensures.items
