use Rattle.std.proofs.Common.{◌-◌, arith, sym, rules, ltb, ltb-true}
use Rattle.std.proofs.lemmas.List.Sorted.{IsPartitionPoint-from_clause, IsPartitionedBy-ltb}
use Rattle.std.proofs.lemmas.Bool.{ltb-false}
use Rattle.psabi_relocs.specs.declared.around.Spot.{Spot}
use Rattle.psabi_relocs.specs.Spots.{order_of}
use Rattle.psabi_relocs.proofs.SpotLists.{last_none, last_at}
use Rattle.psabi_relocs.proofs.around.last_under.Goals as goal

pub returns-then-under-eq0 : goal.returns-then-under-eq0
returns-then-under-eq0 c =
    let point = IsPartitionPoint-from_clause (λ (s : Spot). ltb (order_of s) c.args.order) c.args.spots.now c.partition_point-under.result c.partition_point-under.ensures.partitioned
    (IsPartitionedBy-ltb order_of c.args.spots.now c.args.order c.requires) (λ a r f k. search rules) in
    sym (last_none c.args.spots.now c.args.order (λ k d h. ltb-false _ _ (point.1 k d (omega arith) h)))

pub returns-else-under-eq0 : goal.returns-else-under-eq0
returns-else-under-eq0 c =
    let point = IsPartitionPoint-from_clause (λ (s : Spot). ltb (order_of s) c.args.order) c.args.spots.now c.partition_point-under.result c.partition_point-under.ensures.partitioned
    (IsPartitionedBy-ltb order_of c.args.spots.now c.args.order c.requires) (λ a r f k. search rules) in
    sym (last_at c.args.spots.now (c.partition_point-under.result - 1) c.args.order _ (let few = c.partition_point-under.ensures.bound in omega arith)
    (λ k d h in_list. ltb-true _ _ (point.0 k d (omega arith) (omega arith)))
    (λ k d h in_list. ltb-false _ _ (point.1 k d (omega arith) in_list)))
