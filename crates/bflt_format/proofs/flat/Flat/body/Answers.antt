use Rattle.std.proofs.Common.{◌∙◌, length, drop, refl, ap, arith}
use Rattle.std.proofs.lemmas.List.{take_rest}
use Rattle.bflt_format.specs.Values.{Values}
use Rattle.bflt_format.proofs.Spelled.{header_fits}
use Rattle.bflt_format.proofs.flat.Flat.body.Goals as goal

pub slice_bounds-result-count : goal.slice_bounds-result-count
slice_bounds-result-count c =
    let fits = header_fits _ c.self.inside.file.items c.self.invariant refl in
    let same = ap length c.deref.ensures.value in
    omega (arith, fits, same)

pub slice_bounds-result-start : goal.slice_bounds-result-start
slice_bounds-result-start c =
    let fits = header_fits _ c.self.inside.file.items c.self.invariant refl in
    let same = ap length c.deref.ensures.value in
    omega (arith, fits, same)

pub returns-clause-value : goal.returns-clause-value
returns-clause-value c =
    take_rest c.deref.result.now 64 ∙ ap (drop 64) c.deref.ensures.value ∙ ap (λ (f : Values). f.body) c.self.view_is
