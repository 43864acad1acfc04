use Rattle.std.proofs.Common.{[], ◌++◌, sym, subst, OnOk}
use Rattle.sml_tree.specs.Sets.{row_at}
use Rattle.place_laws.specs.Live.{used_by, all_used_by}
use Rattle.closed_live.specs.Same.{AreSame}
use Rattle.closed_live.specs.Rows.{rules_live, end_live}
use Rattle.closed_live.proofs.Sets.{same_trans, behind_same}
use Rattle.closed_live.proofs.Steps.{then_use, use_none}
use Rattle.closed_live.proofs.binds.use_end.Goals as goal

pub returns-in_ok-use_operand-in-Equal-2 : goal.returns-in_ok-use_operand-in-Equal-2
returns-in_ok-use_operand-in-Equal-2 c =
    let a = used_by c.in-Equal.left in
    let b = used_by c.in-Equal.right in
    let k = used_by c.in-Equal.next in
    let old = c.args.set.now.keys in
    let first : AreSame c.use_operand.new.set.keys k = same_trans c.use_operand.new.set.keys (k ++ old) k c.in_ok-use_operand-in-Equal.ensures (use_none k old c.requires) in
    let second : AreSame c.use_operand-in-Equal.new.set.keys (b ++ k) =
    same_trans c.use_operand-in-Equal.new.set.keys (b ++ c.use_operand.new.set.keys) (b ++ k) c.in_ok-use_operand-in-Equal-2.ensures (behind_same b c.use_operand.new.set.keys k first) in
    subst (λ e. OnOk c.use_operand-in-Equal-2.result (AreSame c.use_operand-in-Equal-2.new.set.keys (end_live (row_at c.args.lives.now) e))) (sym c.in-Equal.is)
    (then_use c.use_operand-in-Equal-2.result a c.use_operand-in-Equal.new.set.keys c.use_operand-in-Equal-2.new.set.keys (a ++ (b ++ k))
    (behind_same a c.use_operand-in-Equal.new.set.keys (b ++ k) second) c.use_operand-in-Equal-2.ensures)

pub returns-in_ok-use_operands-in-Call : goal.returns-in_ok-use_operands-in-Call
returns-in_ok-use_operands-in-Call c =
    let all = all_used_by c.in-Call.operands in
    let f = used_by c.in-Call.function in
    let first : AreSame c.use_operands.new.set.keys all =
    same_trans c.use_operands.new.set.keys (all ++ c.args.set.now.keys) all (subst (λ os. AreSame c.use_operands.new.set.keys (all_used_by os ++ c.args.set.now.keys)) c.items.ensures c.in_ok-use_operands-in-Call.ensures)
    (use_none all c.args.set.now.keys c.requires) in
    subst (λ e. OnOk c.use_operand-in-Call.result (AreSame c.use_operand-in-Call.new.set.keys (end_live (row_at c.args.lives.now) e))) (sym c.in-Call.is)
    (then_use c.use_operand-in-Call.result f c.use_operands.new.set.keys c.use_operand-in-Call.new.set.keys (f ++ all) (behind_same f c.use_operands.new.set.keys all first)
    c.use_operand-in-Call.ensures)

pub returns-in_ok-insert_all-in-Match : goal.returns-in_ok-insert_all-in-Match
returns-in_ok-insert_all-in-Match c =
    let part = row_at c.args.lives.now in
    let last = part c.in-Match.otherwise in
    let rules = rules_live part c.in-Match.subject c.in-Match.rules in
    let first : AreSame c.insert_all.new.set.keys last =
    same_trans c.insert_all.new.set.keys (last ++ c.args.set.now.keys) last (subst (λ us. AreSame c.insert_all.new.set.keys (us ++ c.args.set.now.keys)) c.row.ensures c.in_ok-insert_all-in-Match.ensures)
    (use_none last c.args.set.now.keys c.requires) in
    subst (λ e. OnOk c.use_rules.result (AreSame c.use_rules.new.set.keys (end_live (row_at c.args.lives.now) e))) (sym c.in-Match.is)
    (then_use c.use_rules.result rules c.insert_all.new.set.keys c.use_rules.new.set.keys (rules ++ last) (behind_same rules c.insert_all.new.set.keys last first)
    (subst (λ rs. OnOk c.use_rules.result (AreSame c.use_rules.new.set.keys (rules_live part c.in-Match.subject rs ++ c.insert_all.new.set.keys))) c.items-in-Match.ensures c.use_rules.ensures))

pub returns-in-Throw : goal.returns-in-Throw
returns-in-Throw c =
    let us = used_by c.in-Throw.packet in
    subst (λ e. OnOk c.use_operand-in-Throw.result (AreSame c.use_operand-in-Throw.new.set.keys (end_live (row_at c.args.lives.now) e))) (sym c.in-Throw.is)
    (then_use c.use_operand-in-Throw.result us c.args.set.now.keys c.use_operand-in-Throw.new.set.keys us (use_none us c.args.set.now.keys c.requires) c.use_operand-in-Throw.ensures)
