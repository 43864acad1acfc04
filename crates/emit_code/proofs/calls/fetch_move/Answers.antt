use Rattle.std.proofs.Common.{◌<◌, ◌≤◌, ◌-◌, ◌++◌, ◌∙◌, length, sym, ap, arith}
use Rattle.emit_code.proofs.Loops.{append_none}
use Rattle.emit_code.proofs.Moves.{fetched_past}
use Rattle.emit_code.proofs.calls.fetch_move.Goals as goal

pub returns-else-argument-sources : goal.returns-else-argument-sources
returns-else-argument-sources c =
    let some : 0 < c.args.place = omega (arith, c.if-place-eq0.false) in
    let past : length c.args.sources.now ≤ c.args.place - 1 = omega (arith, c.if-argument-sources.false) in
    sym (ap (λ xs. c.args.items.now.items ++ xs) (fetched_past c.args.labels.now c.args.saved c.args.function.now c.args.sources.now c.args.place some past) ∙ append_none c.args.items.now.items)
