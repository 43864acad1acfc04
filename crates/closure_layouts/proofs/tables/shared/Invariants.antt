use Rattle.std.proofs.Common.{take}
use Rattle.sml_tree.specs.Sets.{union_over}
use Rattle.cps_free.specs.Same.{AreSame}
use Rattle.lifetime_users.specs.declared.class.Class.{Class}
use Rattle.closure_layouts.proofs.tables.shared.Given as goal

abbrev pub invariant-loop-class : goal.invariant-loop-class
invariant-loop-class l = AreSame l.set.keys (union_over (λ (k : Class). k.vars) (take l.class-index l.classes))
