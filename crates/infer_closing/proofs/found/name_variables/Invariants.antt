use Rattle.std.proofs.Common.{take}
use Rattle.std.specs.List.{AllByRecursion}
use Rattle.sml_types.specs.Tree.{AllVars}
use Rattle.sml_types.specs.Typing.{IsAmong}
use Rattle.infer_state.specs.Variables.{name_var}
use Rattle.infer_closing.specs.Closing.{meaning}
use Rattle.infer_closing.specs.Found.{AreVars}
use Rattle.infer_closing.proofs.found.name_variables.Given as goal

abbrev pub invariant-names : goal.invariant-names
invariant-names l =
    record {
      vars : AreVars l.unknowns.types l.vars;
      each : AllByRecursion (λ x. AllVars (λ u. IsAmong u l.vars) (meaning l.unknowns (name_var l.bare x))) (take l.name-index l.names);
    }
