use Rattle.std.proofs.Common.{◌<◌, take, length}
use Rattle.std.specs.List.{AllByRecursion}
use Rattle.infer_checks.specs.Checked.{ending}
use Rattle.infer_checks.specs.Ending.{Lists, IsOpenTypeAmong}
use Rattle.infer_checks.proofs.surroundings.types_numbers.Given as goal

abbrev pub invariant-names : goal.invariant-names
invariant-names l =
    record {
      lists : Lists (IsOpenTypeAmong l.bare (ending l.unknowns l.renames) (take l.name-index l.names)) l.numbers.items;
      few : AllByRecursion (λ x. x < length l.bare.names) (take l.name-index l.names);
    }
