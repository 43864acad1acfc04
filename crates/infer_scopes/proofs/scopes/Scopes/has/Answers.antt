use Rattle.std.proofs.Common.{refl}
use Rattle.infer_scopes.proofs.ScopeFacts.{context_there}
use Rattle.infer_scopes.proofs.scopes.Scopes.has.Goals as goal

pub returns-in-Some : goal.returns-in-Some
returns-in-Some c ok =
    let s = c.in-Some.field-0 in
    context_there c.args.self.now c.args.node s (c.in-Some.ensures.is s refl)
