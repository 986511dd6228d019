use Rattle.std.proofs.Common.{map, sym, subst, arith}
use Rattle.romfs_image.specs.Code.{node_value, AreSmall}
use Rattle.romfs_image.proofs.Lengths.{end_shift, small_places}
use Rattle.romfs_image.proofs.making.push_list.Goals as goal

pub push_nodes-requires-clause-fit : goal.push_nodes-requires-clause-fit
push_nodes-requires-clause-fit c = omega (arith, end_shift 96 0 (map node_value c.args.nodes.now), c.requires.end, c.requires.fit)

pub push_nodes-requires-clause-small : goal.push_nodes-requires-clause-small
push_nodes-requires-clause-small c =
    subst AreSmall (sym c.in_ok-places.ensures.places) (small_places c.deref.result.now 1 96 (map node_value c.args.nodes.now) (omega (arith, c.requires.end, c.requires.fit)))
