use Rattle.std.proofs.Common.{◌≡◌, Some, take}
use Rattle.std.specs.List.{AllByRecursion}
use Rattle.sml_types.specs.Poly.{Context}
use Rattle.infer_state.specs.Fits.{settled_at}
use Rattle.infer_state.specs.Names.{names_bound}
use Rattle.infer_scopes.specs.Scopes.{contexts_of}
use Rattle.infer_closing.specs.Closing.{meaning}
use Rattle.infer_checks.specs.Ending.{AreMatchedNames}
use Rattle.infer_checks.proofs.matched.are_matched.Given as goal

abbrev pub invariant-rules : goal.invariant-rules
invariant-rules l = (c : Context) → contexts_of l.scopes l.node ≡ Some c → AllByRecursion (λ r. AreMatchedNames l.bare (settled_at l.unknowns.types l.settled) (meaning l.unknowns) c (names_bound l.bare.nodes r.pat)) (take l.rule-index l.rules)
