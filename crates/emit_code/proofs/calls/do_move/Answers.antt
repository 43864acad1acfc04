use Rattle.std.proofs.Common.{rules, ◌≤◌, ◌++◌, ◌∙◌, length, sym, ap}
use Rattle.emit_code.proofs.Loops.{append_none}
use Rattle.emit_code.proofs.Moves.{done_past}
use Rattle.emit_code.proofs.calls.do_move.Goals as goal

pub returns-else-at-len-clause-items : goal.returns-else-at-len-clause-items
returns-else-at-len-clause-items c =
    let past : length c.args.moves.now.items ≤ c.args.at = search rules in
    sym (ap (λ xs. c.args.items.now.items ++ xs) (done_past c.args.function.now c.args.sources.now c.args.labels.now c.args.saved c.args.moves.now.items c.args.at past) ∙ append_none c.args.items.now.items)
