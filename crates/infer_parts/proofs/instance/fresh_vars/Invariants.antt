use Rattle.std.proofs.Common.{◌≤◌, take}
use Rattle.sml_unify.specs.Steps.{IsLonger, AreBelow}
use Rattle.infer_parts.specs.Instances.{AreNewVars}
use Rattle.infer_parts.proofs.instance.fresh_vars.Given as goal

abbrev pub invariant-each : goal.invariant-each
invariant-each l = record {
  new : AreNewVars l.fn.next (take l.var-index l.vars) l.types l.given.items;
  below : AreBelow l.types l.next;
  raised : l.fn.next ≤ l.next;
  longer : IsLonger l.fn.types l.types;
}
