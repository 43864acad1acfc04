use Rattle.syntax_laws.proofs.Derived.{begins_opens, opens_begins}
use Rattle.syntax_laws.proofs.opens_begins.Goals as goal

pub returns : goal.returns
returns c = λ v f r. (opens_begins v f r, begins_opens v f r)
