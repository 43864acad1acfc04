use Rattle.std.proofs.Common.{◌≡◌, ℕ}
use Rattle.convert_scopes.specs.Scopes.{nothing, atom_in}
use Rattle.convert_scopes.proofs.scopes.no_atoms.Given as goal

abbrev pub invariant-loop : goal.invariant-loop
invariant-loop l = (x : ℕ) → atom_in l.table x ≡ nothing
