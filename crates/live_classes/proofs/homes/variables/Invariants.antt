use Rattle.std.proofs.Common.{[], ◌∷◌, take}
use Rattle.sml_tree.specs.Sets.{union_over}
use Rattle.lifetime_users.specs.Users.{Binding}
use Rattle.cps_free.specs.Same.{AreSame}
use Rattle.live_classes.proofs.homes.variables.Given as goal

abbrev pub invariant-loop-binding : goal.invariant-loop-binding
invariant-loop-binding l = AreSame l.set.keys (union_over (λ (b : Binding). b.var ∷ []) (take l.binding-index l.bindings))
