use Rattle.std.proofs.Common.{◌≡◌, ℕ, length}
use Rattle.std.specs.Prelude.{nat_lt, if◌then◌else◌, option_map, slice_get}
use Rattle.mmap_rules.specs.Owners.{taken_out}
use Rattle.mmap_rules.proofs.owners.remove_range.Given as goal

-- the entries of the pages before this one have lost the range
abbrev pub invariant-loop-page : goal.invariant-loop-page
invariant-loop-page l = record {
  len : length l.entries ≡ length l.fn.entries;
  each : (p : ℕ) → slice_get l.entries p ≡ (if nat_lt p l.page then option_map (taken_out l.range p) (slice_get l.fn.entries p) else slice_get l.fn.entries p);
}
