use Rattle.std.proofs.Common.{rules}
use Rattle.std.specs.Prelude.{nat_lt}
use Rattle.std.proofs.lemmas.List.Sorted.{IsPartitionPoint-from_clause}
use Rattle.variable_users.proofs.Counts.{is_partitioned, point_counts}
use Rattle.variable_users.proofs.labels.place.Goals as goal

pub returns : goal.returns
returns c =
    let at = IsPartitionPoint-from_clause (λ q. nat_lt q c.args.rank) c.args.ranks.now c.partition_point.result c.partition_point.ensures.partitioned (is_partitioned c.args.rank c.args.ranks.now c.requires) (λ a r f' k. search rules) in
    point_counts (λ q. nat_lt q c.args.rank) c.args.ranks.now c.partition_point.result c.partition_point.ensures.bound at.0 at.1
