-- What closing makes of bindings and ends by number.
use Rattle.std.specs.Prelude.{◌≡◌, ℕ, ◌∷◌, map, Option, Some, None}
use Rattle.cps_ir.specs.declared.atom.Atom.{Atom}
use Rattle.cps_ir.specs.declared.atom.Atom.TheVariants as atom
use Rattle.simulation.specs.Blocks.{IsAmong}
use Rattle.cps_ir.specs.Code as cps
use Rattle.cps_ir.specs.Kept.{end_parts}
use Rattle.cps_ir.specs.Program as opening
use Rattle.cps_ir.specs.declared.body.Rule.{Rule as Chosen}
use Rattle.cps_ir.specs.declared.body.End.{End as Open}
use Rattle.cps_ir.specs.declared.body.End.TheVariants as open_end
use Rattle.closure_ir.specs.declared.body.Rule.{Rule}
use Rattle.closure_ir.specs.declared.body.End.{End}
use Rattle.closure_ir.specs.declared.body.End.TheVariants as end
use Rattle.closure_ir.specs.declared.body.Target.{Target}
use Rattle.closure_ir.specs.declared.body.Target.TheVariants as target
use Rattle.closure_ir.specs.Code as closed
use Rattle.closure_ir.specs.Program as closing
use Rattle.close_laws.specs.Lower.{Design, Places, Hand, lower, operand_of, operands_of, test_of}
use Rattle.close_steps.specs.declared.decisions.Decision.{Decision}
use Rattle.close_steps.specs.declared.decisions.Decisions.{Decisions}
use Rattle.close_scopes.specs.declared.found.Found.TheVariants as found
use Rattle.close_steps.specs.Visible.{Have, Visible, decided}

abbrev pub target_by : Option Decision → Target
target_by None = target.Through
target_by (Some f) = target.Known f.label

abbrev pub target_of : Decisions → Atom → Target
target_of d (atom.Var x) = target_by (decided d x)
target_of d (atom.Constant k) = target.Through

abbrev pub rule_lowered : Places → Chosen → Rule
rule_lowered at r = record { tests = map (test_of at) r.tests; body = r.body }

abbrev pub end_lowered : Decisions → Places → Open → End
end_lowered d at (open_end.Equal a b truth k) = end.Equal (operand_of at a) (operand_of at b) truth (operand_of at k)
end_lowered d at (open_end.Call a atoms) = end.Call (target_of d a) (operand_of at a) (operands_of at atoms)
end_lowered d at (open_end.Match a rules otherwise) = end.Match (operand_of at a) (map (rule_lowered at) rules) otherwise
end_lowered d at (open_end.Throw a) = end.Throw (operand_of at a)
end_lowered d at open_end.Halt = end.Halt

-- behind the binding of a variable
abbrev pub with_itself : Visible → ℕ → Visible
with_itself v x = record { is_main = v.is_main; variables = record { key = x; found = found.Here x } ∷ v.variables; records = v.records }

-- ---- What each end of the tree comes to, where the bodies of its rules are lowered

abbrev pub EndsAreLowered : Type 0
EndsAreLowered =
    (S : Design) (d : Decisions) → Have S d → (at : Places) (hand : Hand) (part : ℕ → cps.Code) (made : ℕ → closed.Code) (e : Open)
    → ((j : ℕ) → IsAmong j (end_parts e) → made j ≡ lower S at hand (part j))
    → closing.code_of_end made (end_lowered d at e) ≡ lower S at hand (opening.code_of_end part e)
