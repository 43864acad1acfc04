-- The bodies and functions of a closed program, by number and by label, are the definition's.
use Rattle.std.specs.Prelude.{◌≡◌, map}
use Rattle.cps_ir.specs.Program.{Cps, code_at, tree_of}
use Rattle.cps_ir.specs.Kept.{IsProgram}
use Rattle.cps_ir.specs.Slim.{IsSlim}
use Rattle.closure_ir.specs.Program as closing
use Rattle.close_laws.specs.Layouts.{Facts, facts}
use Rattle.close_laws.specs.Lower.{lower}
use Rattle.close_laws.specs.Close.{design_of, nowhere, none_at_hand, labelled, routines_of}
use Rattle.close_steps.specs.declared.decisions.Decisions.{Decisions}
use Rattle.close_decisions.specs.Tables.{AreTables}
use Rattle.close_seen.specs.Seen.{functions_of, all_closed}
use Rattle.close_labels.specs.Slots.{routines_by_label}

-- what is worked out once for a program
abbrev pub facts_of : Cps → Facts
facts_of q = facts q.variables (code_at q.bodies 0)

-- by the tables of a program
pub record AreClosed (q : Cps) (d : Decisions) : Type 0 where
  pub main : closing.code_at (all_closed d q.bodies) 0 ≡ lower (design_of (facts_of q)) nowhere none_at_hand (code_at q.bodies 0)
  pub functions : map (closing.routine_of (all_closed d q.bodies)) (routines_by_label d (functions_of q.bodies)) ≡ routines_of (labelled (facts_of q) (code_at q.bodies 0))

abbrev pub ProgramsAreClosed : Type 0
ProgramsAreClosed = (q : Cps) → IsProgram q → IsSlim (tree_of q) → (d : Decisions) → AreTables (facts_of q) q.variables d → AreClosed q d
