use Rattle.std.proofs.Common.{◌≡◌}
use Rattle.cps_ir.specs.Program.{tree_of}
use Rattle.contract_laws.specs.Redex.{nodes}
use Rattle.contract_round.specs.Law.{IsWhole}
use Rattle.cps_contract.proofs.Fuel.{contracted_tree}
use Rattle.cps_contract.proofs.pass.contract.Given as goal

abbrev pub invariant-loop-program : goal.invariant-loop-program
invariant-loop-program l = record {
  whole : IsWhole (tree_of l.program).code;
  before : l.before ≡ nodes (tree_of l.program).code;
  same : contracted_tree (tree_of l.program) ≡ contracted_tree (tree_of l.fn.program);
}

abbrev pub decreases-loop-program : goal.decreases-loop-program
decreases-loop-program l = l.before
