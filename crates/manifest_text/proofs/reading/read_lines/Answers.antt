-- The first fault is one of the rest.
use Rattle.std.proofs.Common.{◌≤◌, [], length, take, refl, sym, ap, ◌∙◌, arith}
use Rattle.std.proofs.lemmas.List.{drop_all, take_all, length-map}
use Rattle.std.proofs.lemmas.Result.{err_from_is_err_and}
use Rattle.manifest_text.specs.Values.{texts}
use Rattle.manifest_text.specs.Manifest.{draft_of, all_said, first_fault, numbered}
use Rattle.manifest_text.specs.Reading.{draft_value}
use Rattle.manifest_text.proofs.Drafts.{line_at, draft_goes_on, fault_goes_on, fault_ends, no_fault, length_numbered, open_mapped}
use Rattle.manifest_text.proofs.reading.read_lines.Goals as goal

pub loop-place-init : goal.loop-place-init
unfolding all_said
loop-place-init c = record { draft = c.new-draft.ensures; fault = refl }

pub returns-in_err-add_line : goal.returns-in_err-add_line
returns-in_err-add_line c =
    let ts = texts c.args.lines.now in
    let place = c.loop-place.place in
    let here = line_at ts place _ (open_mapped (λ s. s.now) c.args.lines.now place (record { ref_ptr = (0, 0); now = [] }) c.loop-place-test.true) in
    let p = err_from_is_err_and c.from_residual.result c.from_residual.ensures.1 in
    rw (p.1, p.2) (fault_ends (numbered 1 ts) place _ (draft_value c.loop-place.draft) here c.loop-place.invariant.draft c.loop-place.invariant.fault (draft_value c.add_line.new.draft) c.in_err-add_line.field-0.0 c.in_err-add_line.ensures)

pub loop-place-preserved : goal.loop-place-preserved
loop-place-preserved c =
    let ts = texts c.args.lines.now in
    let place = c.loop-place.place in
    let d = draft_value c.loop-place.draft in
    let here = line_at ts place _ (open_mapped (λ s. s.now) c.args.lines.now place (record { ref_ptr = (0, 0); now = [] }) c.loop-place-test.true) in
    let h = c.in_ok-add_line.ensures in
    record {
      draft = draft_goes_on (numbered 1 ts) place _ d here c.loop-place.invariant.draft c.loop-place.invariant.fault (draft_value c.add_line.new.draft) h.0 h.1;
      fault = fault_goes_on (numbered 1 ts) place _ d here c.loop-place.invariant.draft c.loop-place.invariant.fault h.0;
    }

pub returns : goal.returns
returns c =
    let lines = numbered 1 (texts c.args.lines.now) in
    let place = c.loop-place.place in
    let past : length lines ≤ place = omega (arith, length_numbered 1 (texts c.args.lines.now), length-map c.args.lines.now (λ s. s.now), c.loop-place-test.false) in
    let rest = drop_all place lines past in (
      sym c.loop-place.invariant.fault ∙ ap (first_fault (take place lines)) rest ∙ no_fault (take place lines),
      c.loop-place.invariant.draft ∙ ap (λ ls. draft_of (all_said ls)) (take_all place lines past),
    )
