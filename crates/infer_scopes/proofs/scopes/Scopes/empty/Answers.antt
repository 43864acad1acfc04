use Rattle.infer_scopes.proofs.StepFacts.{none_more, none_yet}
use Rattle.infer_scopes.proofs.scopes.Scopes.empty.Goals as goal

pub nodes-init : goal.nodes-init
nodes-init c = none_yet c.new-scopes.result c.new-scopes.ensures

pub nodes-preserved : goal.nodes-preserved
nodes-preserved c = none_more c.nodes.scopes c.push.new.self c.nodes.invariant c.in_ok-push.ensures.ok

pub returns-clause-none : goal.returns-clause-none
returns-clause-none c = c.nodes.invariant
