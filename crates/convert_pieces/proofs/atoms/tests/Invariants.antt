use Rattle.std.proofs.Common.{◌≡◌, take}
use Rattle.convert_laws.specs.Convert.{tests_of}
use Rattle.convert_scopes.specs.Scopes.{atom_in}
use Rattle.convert_pieces.proofs.atoms.tests.Given as goal

abbrev pub invariant-loop-item : goal.invariant-loop-item
invariant-loop-item l = l.found ≡ tests_of (atom_in l.scopes.table) (take l.item-index l.tests)
