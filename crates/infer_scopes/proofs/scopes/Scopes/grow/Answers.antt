use Rattle.infer_scopes.specs.Scopes.{standing}
use Rattle.infer_scopes.proofs.ScopeFacts.{grow_gives}
use Rattle.infer_scopes.proofs.scopes.Scopes.grow.Goals as goal

pub returns-clause-entered : goal.returns-clause-entered
returns-clause-entered c = grow_gives c.args.self.now c.self.inside.chains c.grown.new.chains c.self.inside.scopes (standing c.args.self.now.cells c.args.scope) c.self.view_is c.grown.ensures.more c.self.invariant

pub returns-in_err-inner-clause-entered : goal.returns-in_err-inner-clause-entered
returns-in_err-inner-clause-entered c = grow_gives c.args.self.now c.self.inside.chains c.grown.new.chains c.self.inside.scopes (standing c.args.self.now.cells c.args.scope) c.self.view_is c.grown.ensures.more c.self.invariant

pub returns-in_err-remember-clause-entered : goal.returns-in_err-remember-clause-entered
returns-in_err-remember-clause-entered c = grow_gives c.args.self.now c.self.inside.chains c.grown.new.chains c.self.inside.scopes (standing c.args.self.now.cells c.args.scope) c.self.view_is c.grown.ensures.more c.self.invariant
