use Rattle.std.proofs.Common.{◌≡◌, take, Some}
use Rattle.std.specs.List.{AllByRecursion}
use Rattle.sml_types.specs.Poly.{Context}
use Rattle.infer_scopes.specs.Scopes.{contexts_of}
use Rattle.infer_closing.specs.Closing.{meaning}
use Rattle.infer_checks.specs.Ending.{IsNameKnown}
use Rattle.infer_checks.proofs.known.are_known.Given as goal

abbrev pub invariant-names : goal.invariant-names
invariant-names l = (c : Context) → contexts_of l.scopes l.node ≡ Some c → AllByRecursion (IsNameKnown l.bare (meaning l.unknowns) c) (take l.name-index l.names)
