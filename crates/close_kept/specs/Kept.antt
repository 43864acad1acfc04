-- What a closed program keeps.
use Rattle.std.specs.Prelude.{◌+◌, ◌<◌, ◌^◌, length}
use Rattle.std.specs.List.{AllByRecursion}
use Rattle.cps_ir.specs.Program.{Cps, code_at, tree_of}
use Rattle.cps_ir.specs.Kept.{IsProgram}
use Rattle.cps_ir.specs.Slim.{IsSlim, layouts}
use Rattle.closure_ir.specs.Program.{Closed}
use Rattle.closure_ir.specs.Kept as kept
use Rattle.close_laws.specs.Close.{left_points}
use Rattle.close_steps.specs.declared.decisions.Decisions.{Decisions}
use Rattle.close_decisions.specs.Tables.{AreTables}
use Rattle.close_seen.specs.Seen.{functions_of, all_closed}
use Rattle.close_labels.specs.Slots.{routines_by_label}
use Rattle.close_main.specs.Main.{facts_of}

-- what is made of a program by its tables
abbrev pub closed_by : Cps → Decisions → Closed
closed_by q d = record {
  bodies = all_closed d q.bodies;
  functions = routines_by_label d (functions_of q.bodies);
  points = left_points (facts_of q) (code_at q.bodies 0);
  variables = q.variables + length (facts_of q).classes;
  sites = q.sites;
  texts = q.texts;
  exns = q.exns;
}

-- where nodes have 32 bits
abbrev pub ProgramsAreKept : Type 0
ProgramsAreKept =
    (q : Cps) → IsProgram q → IsSlim (tree_of q) → (d : Decisions) → AreTables (facts_of q) q.variables d
    → AllByRecursion (λ l. l.point.node < 2 ^ 32) (layouts (code_at q.bodies 0))
    → kept.IsProgram (closed_by q d)
