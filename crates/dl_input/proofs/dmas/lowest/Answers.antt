use Rattle.std.proofs.Common.{nat_lt, arith, rules}
use Rattle.std.proofs.lemmas.Bool.{ltb-true, ltb-false}
use Rattle.std.proofs.lemmas.List.Sorted.{IsPartitionPoint-from_clause}
use Rattle.dl_input.proofs.Positions.{partitioned}
use Rattle.dl_input.proofs.dmas.lowest.Goals as goal

pub returns-clause-below : goal.returns-clause-below
returns-clause-below c =
    let parts = partitioned c.args.dmas.now c.args.position c.requires in
    let point = IsPartitionPoint-from_clause (λ m. nat_lt m.position c.args.position) _ _ c.partition_point.ensures.partitioned parts (λ a r q k. search rules) in
    λ k d h. ltb-true _ _ (point.0 k d (omega arith) h)

pub returns-clause-above : goal.returns-clause-above
returns-clause-above c =
    let parts = partitioned c.args.dmas.now c.args.position c.requires in
    let point = IsPartitionPoint-from_clause (λ m. nat_lt m.position c.args.position) _ _ c.partition_point.ensures.partitioned parts (λ a r q k. search rules) in
    λ k d h l. ltb-false _ _ (point.1 k d h l)
