use Rattle.std.proofs.Common.{arith}
use Rattle.infer_scopes.specs.Scopes.{contexts_of}
use Rattle.infer_checks.proofs.CheckedFacts.{finished_next}
use Rattle.infer_checks.proofs.checked.check_nodes.Goals as goal

pub nodes-preserved : goal.nodes-preserved
nodes-preserved c =
    finished_next c.args.bare.now c.args.declared.now (contexts_of c.args.scopes.now) c.args.settled.now c.args.general.now c.args.unknowns.now c.args.renames.now c.nodes.node c.nodes.invariant c.in-Ok.ensures.finished

pub returns : goal.returns
returns c = record { finished = λ i n around l. c.nodes.invariant i n around (omega (arith, c.nodes-test.false, l)); refused = tt }
