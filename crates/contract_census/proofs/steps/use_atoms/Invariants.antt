use Rattle.std.specs.Prelude.{◌≡◌, drop}
use Rattle.contract_census.specs.Counting.{use_atoms}
use Rattle.contract_census.proofs.steps.use_atoms.Given as goal

abbrev pub invariant-loop-atom : goal.invariant-loop-atom
invariant-loop-atom l = use_atoms (drop l.atom-index l.atoms) l.counts.items ≡ use_atoms l.atoms l.fn.counts.items
