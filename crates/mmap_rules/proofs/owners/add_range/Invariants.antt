use Rattle.std.proofs.Common.{◌≡◌, ℕ, length}
use Rattle.std.specs.Prelude.{nat_lt, if◌then◌else◌, option_map, slice_get}
use Rattle.mmap_rules.specs.Owners.{entered}
use Rattle.mmap_rules.proofs.owners.add_range.Given as goal

-- the entries of the pages before this one have the range
abbrev pub invariant-loop-page : goal.invariant-loop-page
invariant-loop-page l = record {
  len : length l.entries ≡ length l.fn.entries;
  each : (p : ℕ) → slice_get l.entries p ≡ (if nat_lt p l.page then option_map (entered l.range p) (slice_get l.fn.entries p) else slice_get l.fn.entries p);
}
