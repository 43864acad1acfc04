use Rattle.std.proofs.Common.{◌<◌, ◌^◌, take}
use Rattle.std.specs.List.{AllByRecursion}
use Rattle.closure_share.proofs.nodes.small_nodes.Given as goal

abbrev pub invariant-loop-layout : goal.invariant-loop-layout
invariant-loop-layout l = AllByRecursion (λ k. k.point.node < 2 ^ 32) (take l.layout-index l.all)
