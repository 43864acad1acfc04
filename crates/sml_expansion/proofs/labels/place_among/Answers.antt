use Rattle.std.proofs.Common.{rules}
use Rattle.std.specs.Borrow.{Bor}
use Rattle.sml_tree.specs.IsBare.{lab_less}
use Rattle.sml_tree.specs.declared.bare.Lab.{Lab}
use Rattle.std.proofs.lemmas.List.Sorted.{IsPartitionPoint-from_clause}
use Rattle.sml_expansion.proofs.OrderLemmas.{is_partitioned, point_counts}
use Rattle.sml_expansion.proofs.labels.place_among.Goals as goal

pub returns : goal.returns
returns c =
    let at = IsPartitionPoint-from_clause (λ (other : Bor Lab). lab_less other.now c.args.lab.now) c.args.order.now c.partition_point.result c.partition_point.ensures.partitioned (is_partitioned c.args.lab.now c.args.order.now c.requires) (λ a r f' k. search rules) in
    point_counts (λ (other : Bor Lab). lab_less other.now c.args.lab.now) c.args.order.now c.partition_point.result c.partition_point.ensures.bound at.0 at.1
