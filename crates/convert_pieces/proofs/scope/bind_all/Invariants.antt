use Rattle.std.proofs.Common.{ℕ, ◌≤◌, length, drop}
use Rattle.cps_ir.specs.declared.atom.Atom.{Atom}
use Rattle.convert_scopes.specs.Scopes.{IsScope}
use Rattle.convert_pieces.specs.Names.{bound_to}
use Rattle.convert_pieces.proofs.scope.bind_all.Given as goal

abbrev pub invariant-loop-at : goal.invariant-loop-at
invariant-loop-at l = record {
  within : l.at ≤ length l.names;
  kept : (v : ℕ) (σ : ℕ → Atom) → IsScope l.fn.scopes.bounds v σ → IsScope l.scopes.bounds v σ;
  bound : (σ : ℕ → Atom) → IsScope l.fn.scopes.bounds l.fn.scopes.present σ → IsScope l.scopes.bounds l.scopes.present (bound_to (drop l.at l.names) σ);
}

abbrev pub decreases-loop-at : goal.decreases-loop-at
decreases-loop-at l = l.at
