use Rattle.std.proofs.Common.{sym, subst}
use Rattle.infer_scopes.specs.Chains.{AreAmong}
use Rattle.infer_scopes.proofs.ChainFacts.{none_among, jump_among}
use Rattle.infer_scopes.proofs.chains.Chains.jump.Goals as goal

pub returns-in-Some-cell-clause-among : goal.returns-in-Some-cell-clause-among
returns-in-Some-cell-clause-among c =
    subst (λ h. AreAmong c.args.self.now c.in-Some-cell.cell.jump h) (sym c.in-Some.is) (jump_among c.args.self.now c.in-Some.at c.in-Some-cell.cell c.cell.ensures.kept (sym c.in-Some-cell.ensures.is))

pub returns-in-None-cell-clause-among : goal.returns-in-None-cell-clause-among
returns-in-None-cell-clause-among c = none_among c.args.self.now c.args.head
