-- By the law that a run which goes on is that of private spaces up to its first stray access.
use Rattle.std.proofs.Common.{◌≡◌, ◌≢◌, ℕ, List, ◌++◌, map, Option, Some, None, refl, sym, ap, subst, ◌∙◌}
use Rattle.page_runs.specs.declared.place.Kind.{Kind}
use Rattle.byte_words.specs.declared.access.Access.{Access}
use Rattle.machine_world.specs.Turns.{stray_at}
use Rattle.memory_world.specs.Physical.{opening_in}
use Rattle.memory_world.proofs.Growth.{runs_leave_programs}
use Rattle.watch_points.specs.declared.hits.Hit.{Hit}
use Rattle.watch_points.specs.Points.{most_hits, none_found, with_hits}
use Rattle.flat_machine.specs.Runs.{repeated}
use Rattle.suite_top.specs.Report.{own_dumps, memory_dumps, report_text, status_of_end}
use Rattle.suite_top.specs.Watched.{span_of, found_text}
use Rattle.watch_points.specs.declared.point.PointKind.{PointKind}
use Rattle.file_commands.specs.Arguments.{RunOptions}
use Rattle.file_commands.specs.Outcome.{Inputs}
use Rattle.command_laws.specs.RunLaws.{Opens}
use Rattle.command_laws.specs.Beside.{halting, going_on, halting_ending, halting_hits, going_on_hits, ReportsAlike}
use Rattle.command_laws.proofs.GoOn.{ends_alike, goes_past}
use Rattle.command_laws.proofs.GoOnTexts.{reports_alike, report_begins, begins_later}
use Rattle.command_laws.proofs.HitsAlike.{hits_alike}
use Rattle.command_laws.proofs.SamePrograms.{programs_stay}
use Rattle.command_laws.proofs.BothModes.{runs_end_early_alike, runs_on_never_stray}
use Rattle.command_laws.proofs.BootedRuns.{sound}
use Rattle.command_laws.proofs.RunLaws.{reasonable}
use Rattle.command_laws.proofs.RunsGoOn.{one, stands, unstrayed, goes_alike, runs_go_on_well}
use Rattle.command_laws.proofs.run_laws.go_on_law.Goals as goal

module _ {inputs : Inputs} {name : List ℕ} {keep : ℕ} {kind : Kind} (o : Opens inputs name keep kind) where
  same_hits_of : (options : RunOptions) (watch : Option PointKind) → ((pid : ℕ) (access : Access) → (halting o).end ≢ Some (stray_at pid access))
      → halting_hits (record options { watch = watch }) o ≡ going_on_hits (record options { watch = watch }) o
  same_hits_of options None never = refl
  same_hits_of options (Some point) never =
      ap (λ (hits : List Hit). found_text (with_hits (none_found most_hits) hits))
      (hits_alike point (map span_of o.manifest.watches) (repeated o.manifest.repeat o.manifest.quanta) o.booted.world (one o) (sound (reasonable o) o.booted) (stands o) (unstrayed o) never)

  same_hits : (options : RunOptions) → ((pid : ℕ) (access : Access) → (halting o).end ≢ Some (stray_at pid access)) → halting_hits options o ≡ going_on_hits options o
  same_hits options never = same_hits_of options options.watch never

  same_programs : (going_on o).now.world.rest.programs ≡ (halting o).world.rest.programs
  unfolding opening_in
  same_programs =
      let quanta = repeated o.manifest.repeat o.manifest.quanta in
      let b = o.booted in
      (runs_leave_programs quanta (opening_in b.brought.headers b.world)).programs ∙ sym (programs_stay b.world.rest.programs quanta b.world refl)

pub returns-clause-worlds : goal.returns-clause-worlds
returns-clause-worlds c = runs_go_on_well

pub returns-clause-texts : goal.returns-clause-texts
returns-clause-texts c inputs name options o = record {
  alike = λ never.
      let ends = ends_alike (halting o) (going_on o) (goes_alike o) never in
      record {
        status = ap status_of_end ends.ends;
        out = ap (λ w. w.rest.console) ends.stands.world;
        report =
            subst
            (λ (hits : List ℕ). ReportsAlike (halting o).world (going_on o).now (halting_hits options o) o.manifest.dumps (halting_ending options o).report
            (report_text options.log (hits ++ memory_dumps (going_on o).now o.manifest.dumps) (going_on o).now.world (going_on o).end))
            (same_hits o options never) (reports_alike options.log (halting_hits options o) o.manifest.dumps (halting o) (going_on o) ends);
      };
  past = λ pid access is.
      let past = goes_past (halting o) (going_on o) (goes_alike o) pid access is in
      let added = past.adds in
      record {
        out = added.1;
        halts = report_begins options.log (halting_hits options o ++ own_dumps (halting o).world o.manifest.dumps) (halting o).world (halting o).end;
        goes_on =
            begins_later options.log (halting o).world (going_on o).now.world (same_programs o) added.0.0 added.0.1 _
            (report_begins options.log (going_on_hits options o ++ memory_dumps (going_on o).now o.manifest.dumps) (going_on o).now.world (going_on o).end);
      };
}

pub returns-clause-early : goal.returns-clause-early
returns-clause-early c = runs_end_early_alike

pub returns-clause-never : goal.returns-clause-never
returns-clause-never c = runs_on_never_stray

pub returns-clause-hits : goal.returns-clause-hits
returns-clause-hits c = hits_alike
