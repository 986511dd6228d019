-- A node further up, or the root.
use Rattle.std.proofs.Common.{◌-◌, ◌+◌, ◌++◌, map, sym, ap, ◌∙◌}
use Rattle.romfs_image.specs.Code.{node_value}
use Rattle.romfs_image.specs.Paths.{names_to}
use Rattle.romfs_image.proofs.Ways.{taken, taken_more, goes_up, is_at_root}
use Rattle.romfs_image.proofs.paths.names_up.Goals as goal

pub returns-in-None : goal.returns-in-None
returns-in-None c =
    ap (λ names. names ++ taken c.loop.names.items) (sym (is_at_root (map node_value c.args.nodes.now) c.args.number c.loop.counter c.loop.at c.loop-test.true (sym c.in-None.ensures)))
    ∙ c.loop.invariant

pub loop-preserved : goal.loop-preserved
loop-preserved c =
    let nodes = map node_value c.args.nodes.now in
    let node = c.in-Some.node.now in
    let left = names_to (c.args.number - (c.loop.counter + 1)) nodes node.parent in
    ap (λ names. left ++ taken names) c.in_ok-push-in-Some.ensures.items
    ∙ ap (λ names. left ++ names) (taken_more c.loop.names.items node.name)
    ∙ goes_up nodes c.args.number c.loop.counter c.loop.at (node_value node) (taken c.loop.names.items) c.loop-test.true (sym c.in-Some.ensures)
    ∙ c.loop.invariant
