-- An end by number is what the definition makes of the end.
use Rattle.std.proofs.Common.{◌≡◌, ℕ, List, [], ◌∷◌, ◌++◌, Option, Some, None, map, inl, inr, refl, ap, ◌∙◌}
use Rattle.smlc_base.specs.declared.point.Point.{Point}
use Rattle.simulation.specs.Blocks.{IsAmong}
use Rattle.cps_ir.specs.Code as cps
use Rattle.cps_ir.specs.Program as opening
use Rattle.cps_ir.specs.declared.atom.Atom.{Atom}
use Rattle.cps_ir.specs.declared.atom.Atom.TheVariants as atom
use Rattle.cps_ir.specs.declared.body.Rule.{Rule as Chosen}
use Rattle.cps_ir.specs.declared.body.End.TheVariants as open_end
use Rattle.closure_ir.specs.Code as closed
use Rattle.closure_ir.specs.Program as closing
use Rattle.closure_ir.specs.declared.operand.Operand.{Operand}
use Rattle.closure_ir.specs.declared.body.Target.{Target}
use Rattle.close_laws.specs.Lower.{Design, Places, Hand, lower, lower_rules, operand_of, operands_of, test_of}
use Rattle.close_laws.specs.Lower as laws
use Rattle.close_steps.specs.declared.decisions.Decisions.{Decisions}
use Rattle.close_steps.specs.Visible.{Have, decision_of}
use Rattle.close_steps.specs.Lowered.{target_by, target_of, rule_lowered, EndsAreLowered}

module _ (S : Design) (d : Decisions) (have : Have S d) where
  by_point : (p : Option Point) → target_by (decision_of S p) ≡ laws.target_by S p
  by_point None = refl
  by_point (Some p) = refl

  pub same_target : (a : Atom) → target_of d a ≡ laws.target_of S a
  same_target (atom.Var x) = ap target_by (have.functions x) ∙ by_point (S.known x)
  same_target (atom.Constant k) = refl

module _ (S : Design) (at : Places) (hand : Hand) (part : ℕ → cps.Code) (made : ℕ → closed.Code) where
  rules_lower : (o : Operand) (rules : List Chosen) (otherwise : ℕ) → ((j : ℕ) → IsAmong j (map (λ r. r.body) rules ++ otherwise ∷ []) → made j ≡ lower S at hand (part j)) → closing.code_of_rules made o (map (rule_lowered at) rules) otherwise ≡ lower_rules S at hand o (opening.rules_of part rules otherwise)
  rules_lower o [] otherwise parts = parts otherwise (inl refl)
  rules_lower o (r ∷ rules) otherwise parts =
      ap (λ (c : closed.Code). closed.When o (map (test_of at) r.tests) c (closing.code_of_rules made o (map (rule_lowered at) rules) otherwise)) (parts r.body (inl refl))
      ∙ ap (closed.When o (map (test_of at) r.tests) (lower S at hand (part r.body))) (rules_lower o rules otherwise (λ j m. parts j (inr m)))

pub ends_lower : EndsAreLowered
ends_lower S d have at hand part made (open_end.Equal a b truth k) parts = refl
ends_lower S d have at hand part made (open_end.Call a atoms) parts =
    ap (λ (t : Target). closed.Call t (operand_of at a) (operands_of at atoms)) (same_target S d have a)
ends_lower S d have at hand part made (open_end.Match a rules otherwise) parts = rules_lower S at hand part made (operand_of at a) rules otherwise parts
ends_lower S d have at hand part made (open_end.Throw a) parts = refl
ends_lower S d have at hand part made open_end.Halt parts = refl
