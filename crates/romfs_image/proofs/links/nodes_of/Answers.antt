use Rattle.romfs_image.proofs.Entries.{link_fits}
use Rattle.romfs_image.proofs.links.nodes_of.Goals as goal

pub node_of-requires-clause-link : goal.node_of-requires-clause-link
node_of-requires-clause-link c = link_fits c.args.image.now c.args.entries.now c.loop-entry.entry-index _ c.requires.fit c.requires.links c.loop-entry-test.true
