use Rattle.std.proofs.Common.{◌≡◌, take, Some}
use Rattle.std.specs.List.{AllByRecursion}
use Rattle.sml_types.specs.Poly.{Context}
use Rattle.infer_state.specs.Fits.{settled_at}
use Rattle.infer_scopes.specs.Scopes.{contexts_of}
use Rattle.infer_checks.specs.Checked.{ending}
use Rattle.infer_checks.specs.Ending.{Lists, IsOpenNameAmong, IsSettledOrOwn}
use Rattle.infer_checks.proofs.surroundings.left_numbers.Given as goal

abbrev pub invariant-names : goal.invariant-names
invariant-names l =
    record {
      lists : Lists (IsOpenNameAmong (settled_at l.unknowns.types l.settled) (ending l.unknowns l.renames) (take l.name-index l.names)) l.numbers.items;
      settled : (c : Context) → contexts_of l.scopes l.node ≡ Some c → AllByRecursion (IsSettledOrOwn (settled_at l.unknowns.types l.settled) c) (take l.name-index l.names);
    }
