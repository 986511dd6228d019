use Rattle.std.proofs.Common.{◌≡◌, length, slice_index, drop}
use Rattle.byte_words.specs.Patches.{painted}
use Rattle.flat_loader.specs.Placed.{links}
use Rattle.flat_loader.proofs.image.link_words.Given as goal

-- the links that are left give what all give
abbrev pub invariant-loop-record : goal.invariant-loop-record
invariant-loop-record l = record {
  bytes : painted (links l.body l.base (drop l.record-index l.records)) (slice_index l.mem) ≡ painted (links l.body l.base l.records) (slice_index l.fn.mem);
  len : length l.mem ≡ length l.fn.mem;
}
