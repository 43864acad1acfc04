use Rattle.std.proofs.Common.{◌≡◌, ℕ, length}
use Rattle.cps_ir.specs.declared.atom.Atom.TheVariants.{Var}
use Rattle.contract_known.specs.Known.{place_of}
use Rattle.cps_contract.proofs.walk.themselves.Given as goal

abbrev pub invariant-loop-x : goal.invariant-loop-x
invariant-loop-x l = record {
  count : length l.places.items ≡ l.x;
  each : (x : ℕ) → place_of l.places.items x ≡ Var x;
}
