use Rattle.std.proofs.Common.{◌≡◌, length}
use Rattle.infer_closing.specs.Closing.{meaning}
use Rattle.infer_checks.specs.Ending.{AreFound}
use Rattle.infer_checks.proofs.explicit.renames.Given as goal

abbrev pub invariant-tyvars : goal.invariant-tyvars
invariant-tyvars l =
    record {
      found : AreFound l.bare (meaning l.unknowns) l.renames;
      count : length l.renames ≡ l.tyvar;
    }
