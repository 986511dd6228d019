-- What is listed fits, so far and at the end.
use Rattle.std.proofs.Common.{drop, arith}
use Rattle.mem_files.specs.Inodes.{entries_of}
use Rattle.machine_world.specs.Descriptors.{listing}
use Rattle.file_calls.specs.Listings.{listing_value}
use Rattle.file_calls.proofs.Listed.{front_fits}
use Rattle.file_calls.proofs.listing.listing.Goals as goal

pub returns-in_default-clause-fits : goal.returns-in_default-clause-fits
returns-in_default-clause-fits c =
    let fits = front_fits c.args.tree.now c.args.room c.args.from (drop c.args.from (entries_of c.args.tree.now c.args.node)) (listing_value c.loop-k.listing) (listing c.args.tree.now c.loop-k.room c.loop-k.k (drop c.loop-k.k (entries_of c.args.tree.now c.args.node))) c.loop-k.invariant.listed in
    omega arith

pub returns-clause-fits : goal.returns-clause-fits
returns-clause-fits c =
    let fits = front_fits c.args.tree.now c.args.room c.args.from (drop c.args.from (entries_of c.args.tree.now c.args.node)) (listing_value c.loop-k.listing) (listing c.args.tree.now c.loop-k.room c.loop-k.k (drop c.loop-k.k (entries_of c.args.tree.now c.args.node))) c.loop-k.invariant.listed in
    omega arith
