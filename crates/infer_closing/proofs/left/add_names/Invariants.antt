use Rattle.std.proofs.Common.{◌≡◌, Some, take}
use Rattle.sml_types.specs.Poly.{Context}
use Rattle.infer_state.specs.Fits.{settled_at}
use Rattle.infer_scopes.specs.Scopes.{contexts_of}
use Rattle.infer_closing.specs.Left.{Gets, IsLeftByOne}
use Rattle.infer_closing.proofs.left.add_names.Given as goal

abbrev pub invariant-names : goal.invariant-names
invariant-names l = (c : Context) → contexts_of l.scopes l.node ≡ Some c → Gets (IsLeftByOne l.bare (settled_at l.types l.settled) c (take l.name-index l.names)) l.fn.left l.left
