-- The start lines that are left give what all give.
use Rattle.std.proofs.Common.{◌≡◌, ◌+◌, false, length, drop}
use Rattle.page_runs.specs.Choosers.{kind_of}
use Rattle.vfork_exec.specs.Procs.{count}
use Rattle.machine_world.specs.Boot.{all_started}
use Rattle.region_watch.specs.Private.{physical}
use Rattle.memory_world.specs.Physical.{has_stray, first_memory}
use Rattle.kept_parts.specs.InMemory.{headers_of}
use Rattle.kept_parts.specs.Stands.{world_of}
use Rattle.flat_machine.specs.State.{about_boot, lines_of}
use Rattle.flat_machine.proofs.machine.Machine.boot.Given as goal

abbrev pub invariant-loop-start : goal.invariant-loop-start
invariant-loop-start g l = record {
  left : all_started (world_of (about_boot (kind_of l.chooser) l.paths.items l.programs.items) l.parts) (lines_of (drop l.start-index l.start-items))
      ≡ all_started (world_of (about_boot (kind_of l.chooser) l.paths.items l.programs.items) l.initial.parts) (lines_of l.start-items);
  pids : l.parts.procs.next_pid ≡ l.start-index + 1;
  spaces : length l.parts.spaces ≡ l.start-index;
  processes : count l.parts.procs ≡ l.start-index;
  regions : length l.parts.regions ≡ l.pages;
  quiet : has_stray l.parts.notes ≡ false;
  laid : physical l.parts.mem ≡ first_memory (headers_of l.programs.items) (world_of (about_boot (kind_of l.chooser) l.paths.items l.programs.items) l.parts);
}
