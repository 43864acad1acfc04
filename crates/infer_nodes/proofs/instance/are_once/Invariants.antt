use Rattle.std.proofs.Common.{◌≤◌, length, drop}
use Rattle.sml_unify.specs.Variables.{AreOnce}
use Rattle.infer_nodes.proofs.instance.are_once.Given as goal

abbrev pub invariant-vars : goal.invariant-vars
invariant-vars l =
    record {
      within : l.at ≤ length l.vars;
      once : AreOnce (drop l.at l.vars);
    }

abbrev pub decreases-vars : goal.decreases-vars
decreases-vars l = l.at
