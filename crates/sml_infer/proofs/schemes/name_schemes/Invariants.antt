use Rattle.std.proofs.Common.{◌≡◌, length}
use Rattle.sml_unify.specs.Steps.{IsLonger}
use Rattle.sml_infer.specs.Schemes.{AreReady, AreNamed}
use Rattle.sml_infer.proofs.schemes.name_schemes.Given as goal

abbrev pub invariant-names : goal.invariant-names
invariant-names l =
    record {
      longer : IsLonger l.fn.types l.types;
      ready : AreReady l.bare l.types l.subst.bound l.renames l.starts l.settled;
      count : length l.schemes.items ≡ l.at;
      named : AreNamed l.bare l.fn.types l.types l.subst.bound l.renames l.settled l.schemes.items;
    }
