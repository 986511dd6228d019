-- A slash more at the front, and then the rest.
use Rattle.std.proofs.Common.{◌≡◌, ◌-◌, [], length, take, drop, ap, sym, ◌∙◌, arith}
use Rattle.std.proofs.Common.{length-drop}
use Rattle.std.proofs.lemmas.List.{drop_all, take_all}
use Rattle.mem_files.specs.Paths.{names}
use Rattle.mem_files.proofs.Naming.{names_skip}
use Rattle.mem_files.proofs.paths.skip_slashes.Goals as goal

pub returns-then-byte-ne47-clause-names : goal.returns-then-byte-ne47-clause-names
returns-then-byte-ne47-clause-names c =
    let all : take (length c.args.path.now - c.loop-i.i) (drop c.loop-i.i c.args.path.now) ≡ drop c.loop-i.i c.args.path.now = take_all (length c.args.path.now - c.loop-i.i) (drop c.loop-i.i c.args.path.now) (omega (arith, length-drop c.loop-i.i c.args.path.now)) in
    ap names all ∙ c.loop-i.invariant

pub loop-i-preserved : goal.loop-i-preserved
loop-i-preserved c = names_skip c.args.path.now c.loop-i.i c.loop-i-test.true c.if-byte-ne47.false ∙ c.loop-i.invariant

pub returns-clause-names : goal.returns-clause-names
returns-clause-names c =
    let none : drop c.loop-i.i c.args.path.now ≡ [] = drop_all c.loop-i.i c.args.path.now (omega arith) in
    ap names (sym none) ∙ c.loop-i.invariant
