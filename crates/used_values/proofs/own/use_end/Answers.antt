use Rattle.std.proofs.Common.{[], sym, subst, OnOk}
use Rattle.sml_tree.specs.Sets.{union}
use Rattle.cps_ir.specs.Free.{vars}
use Rattle.cps_free.specs.Same.{AreSame}
use Rattle.cps_free.proofs.Steps.{then_union, union_same, union_assoc, same_trans}
use Rattle.used_values.specs.Own.{own_rules, own_end}
use Rattle.used_values.proofs.Uses.{three_used}
use Rattle.used_values.proofs.own.use_end.Goals as goal

pub returns-in_ok-use_atom-in-Equal-2 : goal.returns-in_ok-use_atom-in-Equal-2
returns-in_ok-use_atom-in-Equal-2 c =
    let a = vars c.in-Equal.left in
    let b = vars c.in-Equal.right in
    let k = vars c.in-Equal.next in
    subst (λ e. OnOk c.use_atom-in-Equal-2.result (AreSame c.use_atom-in-Equal-2.new.set.keys (union (own_end e) c.args.set.now.keys))) (sym c.in-Equal.is)
    (then_union c.use_atom-in-Equal-2.result a c.use_atom-in-Equal.new.set.keys c.use_atom-in-Equal-2.new.set.keys (union (union a (union b (union k []))) c.args.set.now.keys)
    (three_used a b k c.args.set.now.keys c.use_atom.new.set.keys c.use_atom-in-Equal.new.set.keys c.in_ok-use_atom-in-Equal.ensures c.in_ok-use_atom-in-Equal-2.ensures) c.use_atom-in-Equal-2.ensures)

pub returns-in_ok-use_rules-in-Match : goal.returns-in_ok-use_rules-in-Match
returns-in_ok-use_rules-in-Match c =
    let a = vars c.in-Match.subject in
    let rs = own_rules c.in-Match.rules in
    let old = c.args.set.now.keys in
    let first : AreSame c.use_rules.new.set.keys (union rs old) = subst (λ qs. AreSame c.use_rules.new.set.keys (union (own_rules qs) old)) c.items-in-Match.ensures c.in_ok-use_rules-in-Match.ensures in
    subst (λ e. OnOk c.use_atom-in-Match.result (AreSame c.use_atom-in-Match.new.set.keys (union (own_end e) old))) (sym c.in-Match.is)
    (then_union c.use_atom-in-Match.result a c.use_rules.new.set.keys c.use_atom-in-Match.new.set.keys (union (union a rs) old)
    (same_trans (union a c.use_rules.new.set.keys) (union a (union rs old)) (union (union a rs) old) (union_same a c.use_rules.new.set.keys (union rs old) first) (union_assoc a rs old)) c.use_atom-in-Match.ensures)
