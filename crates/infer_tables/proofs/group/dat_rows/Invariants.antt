use Rattle.std.proofs.Common.{take}
use Rattle.sml_unify.specs.Steps.{IsLonger}
use Rattle.infer_parts.specs.Copies.{AreOldVars}
use Rattle.infer_tables.specs.Group.{AreDatRows}
use Rattle.infer_tables.proofs.group.dat_rows.Given as goal

abbrev pub invariant-bindings : goal.invariant-bindings
invariant-bindings l =
    record {
      are : AreDatRows l.fn.bare l.types l.known (take l.at l.bindings) l.rows;
      longer : IsLonger l.fn.types l.types;
      vars : AreOldVars l.fn.types l.types;
    }
