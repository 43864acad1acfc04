use Rattle.std.proofs.Common.{[], sym, subst, OnOk}
use Rattle.sml_tree.specs.Sets.{union, without, row_at}
use Rattle.cps_ir.specs.Free.{vars, vars_all}
use Rattle.cps_free.specs.Same.{AreSame}
use Rattle.cps_free.specs.Rows.{rules_free, end_free}
use Rattle.cps_free.proofs.Steps.{then_union, union_same, union_none, without_none, same_trans, rules_same}
use Rattle.cps_free.proofs.binds.use_end.Goals as goal

pub returns-in_ok-use_atom-in-Equal-2 : goal.returns-in_ok-use_atom-in-Equal-2
returns-in_ok-use_atom-in-Equal-2 c =
    let a = vars c.in-Equal.left in
    let b = vars c.in-Equal.right in
    let k = vars c.in-Equal.next in
    let first : AreSame c.use_atom.new.set.keys (union k []) = subst (λ xs. AreSame c.use_atom.new.set.keys (union k xs)) c.requires c.in_ok-use_atom-in-Equal.ensures in
    let second : AreSame c.use_atom-in-Equal.new.set.keys (union b (union k [])) =
    same_trans c.use_atom-in-Equal.new.set.keys (union b c.use_atom.new.set.keys) (union b (union k [])) c.in_ok-use_atom-in-Equal-2.ensures (union_same b c.use_atom.new.set.keys (union k []) first) in
    subst (λ e. OnOk c.use_atom-in-Equal-2.result (AreSame c.use_atom-in-Equal-2.new.set.keys (end_free (row_at c.args.frees.now) e))) (sym c.in-Equal.is)
    (then_union c.use_atom-in-Equal-2.result a c.use_atom-in-Equal.new.set.keys c.use_atom-in-Equal-2.new.set.keys (union a (union b (union k [])))
    (union_same a c.use_atom-in-Equal.new.set.keys (union b (union k [])) second) c.use_atom-in-Equal-2.ensures)

pub returns-in_ok-use_atoms-in-Call : goal.returns-in_ok-use_atoms-in-Call
returns-in_ok-use_atoms-in-Call c =
    let all = vars_all c.in-Call.atoms in
    let first : AreSame c.use_atoms.new.set.keys all =
    same_trans c.use_atoms.new.set.keys (union all c.args.set.now.keys) all (subst (λ atoms. AreSame c.use_atoms.new.set.keys (union (vars_all atoms) c.args.set.now.keys)) c.items.ensures c.in_ok-use_atoms-in-Call.ensures) (union_none all c.args.set.now.keys c.requires) in
    subst (λ e. OnOk c.use_atom-in-Call.result (AreSame c.use_atom-in-Call.new.set.keys (end_free (row_at c.args.frees.now) e))) (sym c.in-Call.is)
    (then_union c.use_atom-in-Call.result (vars c.in-Call.function) c.use_atoms.new.set.keys c.use_atom-in-Call.new.set.keys (union (vars c.in-Call.function) all)
    (union_same (vars c.in-Call.function) c.use_atoms.new.set.keys all first) c.use_atom-in-Call.ensures)

pub returns-in_ok-use_rules-in-Match : goal.returns-in_ok-use_rules-in-Match
returns-in_ok-use_rules-in-Match c =
    let part = row_at c.args.frees.now in
    let last = part c.in-Match.otherwise in
    let first : AreSame c.insert_but.new.set.keys last =
    same_trans c.insert_but.new.set.keys (union (without last []) c.args.set.now.keys) last
    (subst (λ us. AreSame c.insert_but.new.set.keys (union (without us []) c.args.set.now.keys)) c.row.ensures c.in_ok-insert_but-in-Match.ensures)
    (same_trans (union (without last []) c.args.set.now.keys) (without last []) last (union_none (without last []) c.args.set.now.keys c.requires) (λ z. sym (without_none last z))) in
    let rules : AreSame c.use_rules.new.set.keys (rules_free part c.in-Match.rules last) =
    same_trans c.use_rules.new.set.keys (rules_free part c.in-Match.rules c.insert_but.new.set.keys) (rules_free part c.in-Match.rules last)
    (subst (λ rs. AreSame c.use_rules.new.set.keys (rules_free part rs c.insert_but.new.set.keys)) c.items-in-Match.ensures c.in_ok-use_rules-in-Match.ensures)
    (rules_same part c.in-Match.rules c.insert_but.new.set.keys last first) in
    subst (λ e. OnOk c.use_atom-in-Match.result (AreSame c.use_atom-in-Match.new.set.keys (end_free (row_at c.args.frees.now) e))) (sym c.in-Match.is)
    (then_union c.use_atom-in-Match.result (vars c.in-Match.subject) c.use_rules.new.set.keys c.use_atom-in-Match.new.set.keys (union (vars c.in-Match.subject) (rules_free part c.in-Match.rules last))
    (union_same (vars c.in-Match.subject) c.use_rules.new.set.keys (rules_free part c.in-Match.rules last) rules) c.use_atom-in-Match.ensures)
