-- The end of a body is placed as the rule of places says.
use Rattle.std.proofs.Common.{◌≡◌, ℕ, List, [], ◌∷◌, map, refl, ap, ◌∙◌}
use Rattle.closure_ir.specs.declared.operand.Operand.{Operand}
use Rattle.closure_ir.specs.declared.body.Rule.{Rule}
use Rattle.closure_ir.specs.declared.body.End.{End}
use Rattle.closure_ir.specs.declared.body.End.TheVariants as end
use Rattle.closure_ir.specs.Code as closed
use Rattle.closure_ir.specs.Program as closing
use Rattle.placed_ir.specs.Code as placed
use Rattle.placed_ir.specs.Program as placing
use Rattle.place_laws.specs.Place.{Places, source_for, test_of, place_code}
use Rattle.place_bodies.specs.Steps.{rule_placed, end_placed}

module _ (part : ℕ → closed.Code) (at : Places) where
  abbrev there : ℕ → placed.Code
  there i = place_code at (part i)

  rules_are_placed : (o : Operand) (rules : List Rule) (otherwise : ℕ) → place_code at (closing.code_of_rules part o rules otherwise) ≡ placing.code_of_rules there (source_for at o) (map (rule_placed at) rules) otherwise
  rules_are_placed o [] otherwise = refl
  rules_are_placed o (r ∷ rules) otherwise = ap (placed.When (source_for at o) (map (test_of at) r.tests) (there r.body)) (rules_are_placed o rules otherwise)

  pub end_is_placed : (e : End) → place_code at (closing.code_of_end part e) ≡ placing.code_of_end there (end_placed at e)
  end_is_placed (end.Equal a b truth k) = refl
  end_is_placed (end.Call t f os) = refl
  end_is_placed (end.Match o rules otherwise) = rules_are_placed o rules otherwise
  end_is_placed (end.Throw o) = refl
  end_is_placed end.Halt = refl
