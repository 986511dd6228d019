use Rattle.std.proofs.Common.{◌≡◌, ◌-◌, ◌≤◌, true, length}
use Rattle.rv32im_step.specs.Parts.{registers}
use Rattle.region_watch.specs.declared.mode.Mode.TheVariants.{Halt}
use Rattle.region_watch.specs.Private.{passes, passed_bytes, kept_bytes}
use Rattle.region_watch.specs.Instructions.{instructions, all_asked}
use Rattle.region_watch.specs.Strays.{stray_after_all}
use Rattle.region_watch.proofs.Runs.{after_first}
use Rattle.region_watch.proofs.instructions.steps_at.Given as goal

-- what was done and what is left give the whole
abbrev pub invariant-loop-left : goal.invariant-loop-left
invariant-loop-left l = record {
  whole : after_first (l.fn.count - l.left) (instructions (l.fn.count - (l.fn.count - l.left)) (passes l.fn.watch.mode l.fn.watch.owners.now true) (registers l.pc l.x) (passed_bytes l.fn.watch.mode l.fn.watch.owners.now l.watch.mem.now))
      ≡ instructions l.fn.count (passes l.fn.watch.mode l.fn.watch.owners.now true) (registers l.fn.pc l.fn.x) (passed_bytes l.fn.watch.mode l.fn.watch.owners.now l.fn.watch.mem.now);
  frozen : kept_bytes l.fn.watch.mode l.fn.watch.owners.now l.watch.mem.now ≡ kept_bytes l.fn.watch.mode l.fn.watch.owners.now l.fn.watch.mem.now;
  length : length l.watch.mem.now ≡ length l.fn.watch.mem.now;
  owners : l.watch.owners.now ≡ l.fn.watch.owners.now;
  mode : l.watch.mode ≡ l.fn.watch.mode;
  asked : stray_after_all l.fn.watch.owners.now l.watch.first (all_asked (l.fn.count - (l.fn.count - l.left)) (passes l.fn.watch.mode l.fn.watch.owners.now true) (registers l.pc l.x) (passed_bytes l.fn.watch.mode l.fn.watch.owners.now l.watch.mem.now))
      ≡ stray_after_all l.fn.watch.owners.now l.fn.watch.first (all_asked l.fn.count (passes l.fn.watch.mode l.fn.watch.owners.now true) (registers l.fn.pc l.fn.x) (passed_bytes l.fn.watch.mode l.fn.watch.owners.now l.fn.watch.mem.now));
  halts : l.fn.watch.mode ≡ Halt → l.watch.first ≡ l.fn.watch.first;
  bound : l.left ≤ l.fn.count;
  name : l.watch.mem.ghost_name ≡ l.fn.watch.mem.ghost_name;
}

abbrev pub decreases-loop-left : goal.decreases-loop-left
decreases-loop-left l = l.left
