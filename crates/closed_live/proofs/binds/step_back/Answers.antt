use Rattle.std.proofs.Common.{[], ◌++◌, sym, subst, OnOk}
use Rattle.place_laws.specs.Live.{without, without_all, used_by, all_used_by, used_by_makers, names_of}
use Rattle.closed_live.specs.Same.{AreSame}
use Rattle.closed_live.specs.Rows.{bind_live}
use Rattle.closed_live.proofs.Sets.{behind_same}
use Rattle.closed_live.proofs.Steps.{then_use}
use Rattle.closed_live.proofs.binds.step_back.Goals as goal

pub returns-in-Make : goal.returns-in-Make
returns-in-Make c =
    let makers = c.in-Make.makers in
    let rest = without_all (names_of makers) c.args.set.now.keys in
    subst (λ b. OnOk c.use_makers.result (AreSame c.use_makers.new.set.keys (bind_live b c.args.set.now.keys))) (sym c.in-Make.is)
    (then_use c.use_makers.result (used_by_makers makers) c.remove_names.new.set.keys c.use_makers.new.set.keys (used_by_makers makers ++ rest)
    (behind_same (used_by_makers makers) c.remove_names.new.set.keys rest (subst (λ ms. AreSame c.remove_names.new.set.keys (without_all (names_of ms) c.args.set.now.keys)) c.items.ensures c.remove_names.ensures))
    (subst (λ ms. OnOk c.use_makers.result (AreSame c.use_makers.new.set.keys (used_by_makers ms ++ c.remove_names.new.set.keys))) c.items-in-Make.ensures c.use_makers.ensures))

pub returns-in-Let : goal.returns-in-Let
returns-in-Let c =
    let us = used_by c.in-Let.value in
    let rest = without c.in-Let.var c.args.set.now.keys in
    subst (λ b. OnOk c.use_operand.result (AreSame c.use_operand.new.set.keys (bind_live b c.args.set.now.keys))) (sym c.in-Let.is)
    (then_use c.use_operand.result us c.remove.new.set.keys c.use_operand.new.set.keys (us ++ rest) (behind_same us c.remove.new.set.keys rest c.remove.ensures) c.use_operand.ensures)

pub returns-in-Prim : goal.returns-in-Prim
returns-in-Prim c =
    let us = all_used_by c.in-Prim.operands in
    let rest = without c.in-Prim.var c.args.set.now.keys in
    subst (λ b. OnOk c.use_operands.result (AreSame c.use_operands.new.set.keys (bind_live b c.args.set.now.keys))) (sym c.in-Prim.is)
    (then_use c.use_operands.result us c.remove-in-Prim.new.set.keys c.use_operands.new.set.keys (us ++ rest) (behind_same us c.remove-in-Prim.new.set.keys rest c.remove-in-Prim.ensures)
    (subst (λ os. OnOk c.use_operands.result (AreSame c.use_operands.new.set.keys (all_used_by os ++ c.remove-in-Prim.new.set.keys))) c.items-in-Prim.ensures c.use_operands.ensures))
