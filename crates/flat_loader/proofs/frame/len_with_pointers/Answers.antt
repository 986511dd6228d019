use Rattle.std.proofs.Common.{◌≡◌, length, drop, ap, arith}
use Rattle.std.proofs.lemmas.List.{drop_all}
use Rattle.flat_loader.specs.Frame.{texts, strings}
use Rattle.flat_loader.proofs.frame.len_with_pointers.Goals as goal

pub returns : goal.returns
returns c =
    let ss = c.args.strings.now in
    let i = c.loop-string.string-index in
    let none : length (strings (texts (drop i ss))) ≡ 0 = ap (λ t. length (strings (texts t))) (drop_all i ss c.loop-string-test.false) in
    let len = c.loop-string.invariant.len in
    let fits = c.loop-string.invariant.fits in
    omega arith
