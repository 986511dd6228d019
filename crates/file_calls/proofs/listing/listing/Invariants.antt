-- What is listed so far, and what is left.
use Rattle.std.proofs.Common.{◌≡◌, ◌+◌, drop}
use Rattle.mem_files.specs.Inodes.{entries_of}
use Rattle.machine_world.specs.Descriptors.{listing}
use Rattle.file_calls.specs.Listings.{listing_value}
use Rattle.file_calls.proofs.Listed.{followed}
use Rattle.file_calls.proofs.listing.listing.Given as goal

abbrev pub invariant-loop-k : goal.invariant-loop-k
invariant-loop-k l = record {
  listed : followed (listing_value l.listing) (listing l.tree l.room l.k (drop l.k (entries_of l.tree l.node))) ≡ listing l.tree l.initial.room l.from (drop l.from (entries_of l.tree l.node));
  count : l.listing.count + l.from ≡ l.k;
}
