use Rattle.std.proofs.Common.{rules, ◌≡◌, subst, List, ℕ}
use Rattle.std.specs.Fmt.{decimal}
use Rattle.heap_probes.specs.Lines.{Puts}
use Rattle.heap_probes.proofs.Parts.{joins, front}
use Rattle.heap_probes.proofs.lines.put_number.Goals as goal

pub returns-in-Ok : goal.returns-in-Ok
returns-in-Ok c =
    let text : c.as_bytes.result.now ≡ decimal c.args.number = search rules in
    joins c.args.word.now (decimal c.args.number) _ _ _ c.put-in-Ok.result c.in-Ok.ensures
    (subst (λ (b : List ℕ). Puts b c.put.new.text.items c.put-in-Ok.new.text.items c.put-in-Ok.result) text c.put-in-Ok.ensures)

pub returns-in-Err : goal.returns-in-Err
returns-in-Err c = front c.args.word.now (decimal c.args.number) _ _ c.in-Err.ensures
