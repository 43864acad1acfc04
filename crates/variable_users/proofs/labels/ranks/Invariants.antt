use Rattle.std.proofs.Common.{◌≡◌, map, take}
use Rattle.sml_tree.specs.Order.{rank}
use Rattle.cps_ir.specs.Slim.{Layout}
use Rattle.variable_users.proofs.labels.ranks.Given as goal

abbrev pub invariant-loop-layout : goal.invariant-loop-layout
invariant-loop-layout l = l.ranks.items ≡ map (λ (k : Layout). rank k.point) (take l.layout-index l.layouts)
