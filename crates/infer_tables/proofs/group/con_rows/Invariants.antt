use Rattle.std.proofs.Common.{take}
use Rattle.sml_unify.specs.Steps.{IsLonger}
use Rattle.infer_parts.specs.Copies.{AreOldVars}
use Rattle.infer_tables.specs.Group.{AreConRows}
use Rattle.infer_tables.proofs.group.con_rows.Given as goal

abbrev pub invariant-cons : goal.invariant-cons
invariant-cons l =
    record {
      are : AreConRows l.fn.bare l.types l.known l.vars (take l.at l.cons) l.rows;
      longer : IsLonger l.fn.types l.types;
      vars : AreOldVars l.fn.types l.types;
    }
