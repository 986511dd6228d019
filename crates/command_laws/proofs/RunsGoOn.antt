-- A run that goes on is the run of private spaces up to its first stray access: at boot memory stands for the opening world.
use Rattle.std.proofs.Common.{◌≡◌, ℕ, false, List, map}
use Rattle.page_runs.specs.declared.place.Kind.{Kind}
use Rattle.memory_world.specs.Physical.{Physical, has_stray, opening_in}
use Rattle.go_on_laws.specs.Alike.{Stands}
use Rattle.go_on_laws.specs.Laws.{GoesAlike}
use Rattle.go_on_laws.proofs.Boots.{boots_go_on, boots_note_no_stray}
use Rattle.go_on_laws.proofs.Walks.{runs_go_on}
use Rattle.flat_machine.specs.Runs.{repeated}
use Rattle.suite_top.specs.Run.{start_line, opening}
use Rattle.file_commands.specs.Outcome.{Inputs}
use Rattle.command_laws.specs.RunLaws.{Opens}
use Rattle.command_laws.specs.Beside.{halting, going_on, RunsGoOnWell}
use Rattle.command_laws.proofs.GoOn.{goes_on_well}
use Rattle.command_laws.proofs.Headers.{headers_short}
use Rattle.command_laws.proofs.BootedRuns.{can_boot, few_starts, sound}
use Rattle.command_laws.proofs.RunLaws.{reasonable}

module _ {inputs : Inputs} {name : List ℕ} {keep : ℕ} {kind : Kind} (o : Opens inputs name keep kind) where
  abbrev pub one : Physical
  one = opening_in o.booted.brought.headers o.booted.world

  pub stands : Stands o.booted.world one
  stands =
      let is = reasonable o in
      let b = o.booted in
      boots_go_on (opening keep kind o.manifest b.brought) (map start_line o.manifest.starts) b.world b.brought.headers (can_boot is b) (few_starts is b)
      (headers_short o.manifest.items o.files b.brought b.brings) b.boots

  pub unstrayed : has_stray o.booted.world.notes ≡ false
  unstrayed = boots_note_no_stray (opening keep kind o.manifest o.booted.brought) (map start_line o.manifest.starts) o.booted.world o.booted.boots

  pub goes_alike : GoesAlike (halting o).world (going_on o) (halting o).end
  goes_alike = runs_go_on (repeated o.manifest.repeat o.manifest.quanta) o.booted.world one (sound (reasonable o) o.booted) stands unstrayed

pub runs_go_on_well : RunsGoOnWell
runs_go_on_well inputs name keep kind o = goes_on_well (halting o) (going_on o) (goes_alike o)
