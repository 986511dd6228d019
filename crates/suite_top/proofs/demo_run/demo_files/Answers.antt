-- One number more.
use Rattle.std.proofs.Common.{Vec, Global, ℕ, map, sym, ap, ◌∙◌}
use Rattle.elf_maker.specs.Demo.{demo_file}
use Rattle.suite_top.proofs.Demos.{none_yet, pushed}
use Rattle.suite_top.proofs.demo_run.demo_files.Goals as goal

pub loop-before-init : goal.loop-before-init
loop-before-init c = ap (map (λ (v : Vec ℕ Global). v.items)) c.new-files.ensures.items ∙ sym (none_yet demo_file)

pub loop-before-preserved : goal.loop-before-preserved
loop-before-preserved c = pushed demo_file (λ (v : Vec ℕ Global). v.items) c.loop-before.files.items c.push.new.self.items _ c.loop-before.before c.loop-before.invariant c.in_ok-demo.ensures.bytes c.in_ok-push.ensures.items
