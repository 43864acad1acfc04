use Rattle.std.proofs.Common.{List, map, slice_set, ap, sym, ◌∙◌}
use Rattle.cps_ir.specs.Kept.{end_parts}
use Rattle.cps_ir.specs.declared.body.Rule.{Rule}
use Rattle.cps_ir.specs.declared.body.End.{End}
use Rattle.close_seen.specs.Seen.{put_all}
use Rattle.close_all.proofs.Tables.{put_last}
use Rattle.close_all.proofs.begins.put_end.Goals as goal

pub returns-in-Match : goal.returns-in-Match
returns-in-Match c =
    let e = c.args.environment in
    let xs = c.args.begins.now.items in
    c.put.ensures ∙ ap (λ ys. slice_set ys c.in-Match.otherwise e) (c.put_rules.ensures ∙ ap (λ (rs : List Rule). put_all xs (map (λ (r : Rule). r.body) rs) e) c.items.ensures)
    ∙ sym (put_last xs (map (λ (r : Rule). r.body) c.in-Match.rules) c.in-Match.otherwise e)
    ∙ ap (λ (t : End). put_all xs (end_parts t) e) (sym c.in-Match.is)
