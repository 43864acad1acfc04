use Rattle.std.proofs.Common.{◌≡◌, map, drop}
use Rattle.cps_ir.specs.declared.body.Rule.{Rule}
use Rattle.close_seen.specs.Seen.{put_all}
use Rattle.close_all.proofs.begins.put_rules.Given as goal

abbrev pub invariant-loop-rule : goal.invariant-loop-rule
invariant-loop-rule l = put_all l.begins.items (map (λ (r : Rule). r.body) (drop l.rule-index l.rules)) l.environment ≡ put_all l.fn.begins.items (map (λ (r : Rule). r.body) l.rules) l.environment
