use Rattle.std.proofs.Common.{◌≡◌, ◌∷◌, take}
use Rattle.std.specs.Prelude.{flat_map}
use Rattle.sml_tree.specs.BareParts.{rule_parts}
use Rattle.infer_scopes.proofs.prefix.of_match.Given as goal

abbrev pub invariant-rules : goal.invariant-rules
invariant-rules l = l.parts.items ≡ l.argument ∷ flat_map rule_parts (take l.rule-index l.rules)
