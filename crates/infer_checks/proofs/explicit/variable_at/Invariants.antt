use Rattle.std.proofs.Common.{◌≡◌, ◌<◌, length}
use Rattle.sml_unify.specs.Solved.{under}
use Rattle.infer_closing.specs.Closing.{meaning}
use Rattle.infer_checks.proofs.explicit.variable_at.Given as goal

abbrev pub invariant-chain : goal.invariant-chain
invariant-chain l =
    record {
      there : l.now.0 < length l.unknowns.types;
      same : under l.unknowns.types (meaning l.unknowns) l.fn.ty.0 ≡ under l.unknowns.types (meaning l.unknowns) l.now.0;
    }
