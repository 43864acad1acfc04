use Rattle.std.specs.Prelude.{◌≡◌, drop}
use Rattle.contract_known.specs.Known.{place_of, made_at}
use Rattle.contract_rules.specs.Rules.{rules_known}
use Rattle.contract_rules.proofs.Law.{behind}
use Rattle.contract_rules.proofs.rules.left_of_rules.Given as goal

abbrev pub invariant-loop-rule : goal.invariant-loop-rule
invariant-loop-rule l = behind l.left.items (rules_known l.texts (place_of l.places) (made_at l.blocks l.root) l.atom (drop l.rule-index l.rules) l.otherwise) ≡ rules_known l.texts (place_of l.places) (made_at l.blocks l.root) l.atom l.rules l.otherwise
