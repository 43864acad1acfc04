use Rattle.infer_scopes.proofs.StepFacts.{nothing_there, first_gives, first_closed}
use Rattle.infer_scopes.proofs.scopes.Scopes.new.Goals as goal

pub grow-requires-clause-scope : goal.grow-requires-clause-scope
grow-requires-clause-scope c = nothing_there c.in_ok-scopes.scopes.cells

pub put-requires : goal.put-requires
put-requires c = c.in_ok-first.ensures.scope

pub returns-clause-first : goal.returns-clause-first
returns-clause-first c = first_gives c.in_ok-scopes.scopes c.grow.new.self c.put.new.self c.in_ok-first.first c.in_ok-scopes.ensures.none c.in_ok-first.ensures.entered c.in_ok-first.ensures.stands c.in_ok-put.ensures

pub returns-clause-closed : goal.returns-clause-closed
returns-clause-closed c = first_closed c.in_ok-scopes.scopes c.grow.new.self c.put.new.self c.in_ok-first.first c.in_ok-scopes.ensures.none c.in_ok-first.ensures.entered c.in_ok-first.ensures.stands c.in_ok-put.ensures
