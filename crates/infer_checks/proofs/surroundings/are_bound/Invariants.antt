use Rattle.std.proofs.Common.{◌≡◌, true, take, Some}
use Rattle.std.specs.List.{AllByRecursion}
use Rattle.sml_types.specs.Poly.{Context, is_in}
use Rattle.infer_scopes.specs.Scopes.{contexts_of}
use Rattle.infer_checks.proofs.surroundings.are_bound.Given as goal

abbrev pub invariant-names : goal.invariant-names
invariant-names l = (c : Context) → contexts_of l.scopes l.node ≡ Some c → AllByRecursion (λ x. is_in c.names x ≡ true) (take l.name-index l.names)
