use Rattle.std.proofs.Common.{subst, OnOk}
use Rattle.sml_tree.specs.Sets.{union, union_over}
use Rattle.cps_free.specs.Same.{AreSame}
use Rattle.cps_free.proofs.Steps.{then_union, union_same, union_assoc, same_trans}
use Rattle.used_values.specs.Own.{own_bind, own_end}
use Rattle.used_values.proofs.own.use_body.Goals as goal

pub returns : goal.returns
returns c =
    let own = union_over own_bind c.args.body.now.binds in
    let behind = own_end c.args.body.now.end in
    let old = c.args.set.now.keys in
    then_union c.use_binds.result own c.use_end.new.set.keys c.use_binds.new.set.keys (union (union own behind) old)
    (same_trans (union own c.use_end.new.set.keys) (union own (union behind old)) (union (union own behind) old) (union_same own c.use_end.new.set.keys (union behind old) c.in_ok-use_end.ensures) (union_assoc own behind old))
    (subst (λ bs. OnOk c.use_binds.result (AreSame c.use_binds.new.set.keys (union (union_over own_bind bs) c.use_end.new.set.keys))) c.items.ensures c.use_binds.ensures)
