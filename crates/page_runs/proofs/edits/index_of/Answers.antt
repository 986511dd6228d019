use Rattle.std.proofs.Common.{◌≡◌, ◌<◌, ◌≤◌, arith, rules, List, ℕ, true, false, ltb, get_or}
use Rattle.std.specs.Prelude.{slice_get, Some}
use Rattle.std.specs.List.Sorted.{IsPartitionPoint}
use Rattle.std.proofs.lemmas.Bool.Decides.{nat_tests}
use Rattle.std.proofs.lemmas.List.Sorted.{IsPartitionPoint-from_clause, IsPartitionedBy-ltb}
use Rattle.std.proofs.lemmas.Option.{get_or_from_slice_get, slice_get_within}
use Rattle.page_runs.specs.declared.run.Run.{Run}
use Rattle.page_runs.proofs.Spacing.{firsts_rise}
use Rattle.page_runs.proofs.edits.index_of.Goals as goal

below_at : (runs : List Run) (n first : ℕ) → IsPartitionPoint (λ (r : Run). ltb r.first first ≡ true) (λ (r : Run). ltb r.first first ≡ false) runs n →
    (k : ℕ) (run : Run) → k < n → slice_get runs k ≡ Some run → run.first < first
below_at runs n first point k run less is =
    let same : get_or runs k run ≡ run = get_or_from_slice_get runs k run run is in
    let passes : ltb run.first first ≡ true = rw same at (point.0 k run (omega arith) less) in
    grind (arith, nat_tests)

above_at : (runs : List Run) (n first : ℕ) → IsPartitionPoint (λ (r : Run). ltb r.first first ≡ true) (λ (r : Run). ltb r.first first ≡ false) runs n →
    (k : ℕ) (run : Run) → n ≤ k → slice_get runs k ≡ Some run → first ≤ run.first
above_at runs n first point k run le is =
    let same : get_or runs k run ≡ run = get_or_from_slice_get runs k run run is in
    let fails : ltb run.first first ≡ false = rw same at (point.1 k run le (slice_get_within runs k run is)) in
    grind (arith, nat_tests)

pub returns-clause-below : goal.returns-clause-below
returns-clause-below c =
    let point = IsPartitionPoint-from_clause (λ (r : Run). ltb r.first c.args.first) c.args.runs.now c.partition_point.result c.partition_point.ensures.partitioned
    (IsPartitionedBy-ltb (λ (r : Run). r.first) c.args.runs.now c.args.first (firsts_rise 0 16385 c.args.runs.now c.requires)) (λ a r f called. search rules) in
    below_at c.args.runs.now c.partition_point.result c.args.first point

pub returns-clause-above : goal.returns-clause-above
returns-clause-above c =
    let point = IsPartitionPoint-from_clause (λ (r : Run). ltb r.first c.args.first) c.args.runs.now c.partition_point.result c.partition_point.ensures.partitioned
    (IsPartitionedBy-ltb (λ (r : Run). r.first) c.args.runs.now c.args.first (firsts_rise 0 16385 c.args.runs.now c.requires)) (λ a r f called. search rules) in
    above_at c.args.runs.now c.partition_point.result c.args.first point
