-- The made manifest and the made files are those of the demo.
use Rattle.std.proofs.Common.{refl, sym, subst, ◌∙◌}
use Rattle.std.proofs.lemmas.List.{length-map}
use Rattle.std.proofs.lemmas.Result.{err_from_is_err_and}
use Rattle.manifest_text.specs.Values.{item_value, manifest_value, vec_texts}
use Rattle.manifest_text.specs.Laws.{Reasonable}
use Rattle.file_commands.proofs.HostCourses.{runs_out}
use Rattle.suite_top.proofs.Demos.{reasonable, as_many, is_demo}
use Rattle.suite_top.proofs.demo_run.run_demo.Goals as goal

pub run_files-steps-requires-clause-loaded : goal.run_files-steps-requires-clause-loaded
run_files-steps-requires-clause-loaded g c =
    let manifest = c.in_ok-manifest.manifest in
    let files = c.in_ok-files.files in
    record {
      manifest = subst Reasonable (sym c.in_ok-manifest.ensures) (reasonable c.args.programs c.requires.few);
      files =
          sym (length-map files.items (λ v. v.items))
          ∙ as_many c.args.programs (manifest_value manifest) (vec_texts files.items) c.in_ok-manifest.ensures c.in_ok-files.ensures
          ∙ length-map manifest.items.items item_value;
    }

pub returns : goal.returns
returns g c =
    rw c.settled.ensures
    (is_demo c.args.programs (manifest_value c.in_ok-manifest.manifest) (vec_texts c.in_ok-files.files.items) _ _ _
    c.in_ok-manifest.ensures c.in_ok-files.ensures c.run_files-steps.ensures.performs)

pub returns-in_err-manifest : goal.returns-in_err-manifest
returns-in_err-manifest g c =
    let p = err_from_is_err_and c.from_residual.result c.from_residual.ensures.1 in
    rw p.1 (runs_out _ _ _ refl refl)

pub returns-in_err-files : goal.returns-in_err-files
returns-in_err-files g c =
    let p = err_from_is_err_and c.from_residual-in_err-files.result c.from_residual-in_err-files.ensures.1 in
    rw p.1 (runs_out _ _ _ refl refl)
