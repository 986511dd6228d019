-- Those up to the subject less those below it.
use Rattle.std.proofs.Common.{◌≡◌, ◌==◌, nat_lt, nat_le, count_by, ap, arith, rules, ltb, leb}
use Rattle.std.proofs.lemmas.List.Sorted.{IsPartitionPoint-from_clause, IsPartitionedBy-ltb, IsPartitionedBy-leb}
use Rattle.std.proofs.lemmas.List.Sums.{length-filter}
use Rattle.fault_texts.specs.declared.counts.Subject.{Subject}
use Rattle.fault_texts.specs.Counts.{order_of}
use Rattle.fault_texts.proofs.Counting.{prefix_count, split_count}
use Rattle.fault_texts.proofs.counts.count_among.Goals as goal

pub overflow_sub-result : goal.overflow_sub-result
overflow_sub-result c =
    let ss = c.args.subjects.now in
    let n = c.order-order.result in
    let low = IsPartitionPoint-from_clause (λ (s : Subject). ltb (order_of s) n) ss c.partition_point-from.result c.partition_point-from.ensures.partitioned (IsPartitionedBy-ltb order_of ss n c.requires) (λ a r f k. search rules) in
    let high = IsPartitionPoint-from_clause (λ (s : Subject). leb (order_of s) n) ss c.partition_point-to.result c.partition_point-to.ensures.partitioned (IsPartitionedBy-leb order_of ss n c.requires) (λ a r f k. search rules) in
    let from = prefix_count (λ s. nat_lt (order_of s) n) ss c.partition_point-from.result c.partition_point-from.ensures.bound (λ k d h l. low.0 k d (omega arith) h) (λ k d h l. low.1 k d h l) in
    let to = prefix_count (λ s. nat_le (order_of s) n) ss c.partition_point-to.result c.partition_point-to.ensures.bound (λ k d h l. high.0 k d (omega arith) h) (λ k d h l. high.1 k d h l) in
    let parts = split_count n ss in
    omega arith

pub returns : goal.returns
returns c =
    let ss = c.args.subjects.now in
    let n = c.order-order.result in
    let low = IsPartitionPoint-from_clause (λ (s : Subject). ltb (order_of s) n) ss c.partition_point-from.result c.partition_point-from.ensures.partitioned (IsPartitionedBy-ltb order_of ss n c.requires) (λ a r f k. search rules) in
    let high = IsPartitionPoint-from_clause (λ (s : Subject). leb (order_of s) n) ss c.partition_point-to.result c.partition_point-to.ensures.partitioned (IsPartitionedBy-leb order_of ss n c.requires) (λ a r f k. search rules) in
    let from = prefix_count (λ s. nat_lt (order_of s) n) ss c.partition_point-from.result c.partition_point-from.ensures.bound (λ k d h l. low.0 k d (omega arith) h) (λ k d h l. low.1 k d h l) in
    let to = prefix_count (λ s. nat_le (order_of s) n) ss c.partition_point-to.result c.partition_point-to.ensures.bound (λ k d h l. high.0 k d (omega arith) h) (λ k d h l. high.1 k d h l) in
    let parts = split_count n ss in
    let many = length-filter (λ s. order_of s == n) ss in
    let here : count_by (λ s. order_of s == n) ss ≡ count_by (λ s. order_of s == order_of c.args.subject) ss = ap (λ m. count_by (λ s. order_of s == m) ss) c.order-order.ensures in
    omega arith
