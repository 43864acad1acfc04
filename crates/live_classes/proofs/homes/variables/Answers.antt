use Rattle.std.proofs.Common.{rules, ◌≡◌, [], ◌∷◌, ap, subst, arith}
use Rattle.std.proofs.lemmas.List.{take_all}
use Rattle.sml_tree.specs.Sets.{has, union_over}
use Rattle.cps_free.specs.Same.{AreSame}
use Rattle.lifetime_users.specs.Users.{Binding}
use Rattle.live_classes.proofs.Tables.{variables_are, variable_more}
use Rattle.live_classes.proofs.homes.variables.Goals as goal

pub loop-binding-init : goal.loop-binding-init
loop-binding-init c z = ap (λ ks. has ks z) c.new-set.ensures.empty

pub loop-binding-preserved : goal.loop-binding-preserved
loop-binding-preserved c = variable_more c.args.bindings.now c.loop-binding.binding-index c.var.result _ c.binding-item.result c.loop-binding.set.keys c.insert.new.set.keys c.loop-binding-test.true c.binding-item.is c.var.ensures c.loop-binding.invariant c.in_ok-insert.ensures

pub returns : goal.returns
returns c =
    let same : c.in_ok-members.members.items ≡ c.loop-binding.set.keys = search rules in
    variables_are c.args.bindings.now c.loop-binding.set.keys c.in_ok-members.members.items
    (subst (λ bs. AreSame c.loop-binding.set.keys (union_over (λ (b : Binding). b.var ∷ []) bs)) (take_all c.loop-binding.binding-index c.args.bindings.now (omega (arith, c.loop-binding-test.false))) c.loop-binding.invariant)
    c.len.ensures.ordered same
