use Rattle.std.proofs.Common.{rules, ◌≡◌, sym}
use Rattle.std.specs.Prelude.{codes}
use Rattle.heap_probes.specs.Rules.{numbered, greatest, first_greatest}
use Rattle.heap_probes.proofs.Parts.{joins, front}
use Rattle.heap_probes.proofs.labels.LabelProbeProbe.line.Goals as goal

pub returns-in-Ok : goal.returns-in-Ok
returns-in-Ok c =
    let at : c.first_greatest.result ≡ first_greatest c.args.self.now.counts.items = search rules in
    let most : c.greatest.result ≡ greatest c.args.self.now.counts.items = search rules in
    rw (sym at, sym most) (joins (numbered (codes "probe busiest ") c.first_greatest.result) (numbered (codes " times ") c.greatest.result) _ _ _ c.put_number-in-Ok.result c.in-Ok.ensures c.put_number-in-Ok.ensures)

pub returns-in-Err : goal.returns-in-Err
returns-in-Err c =
    let at : c.first_greatest.result ≡ first_greatest c.args.self.now.counts.items = search rules in
    rw (sym at) (front (numbered (codes "probe busiest ") c.first_greatest.result) (numbered (codes " times ") (greatest c.args.self.now.counts.items)) _ _ c.in-Err.ensures)
