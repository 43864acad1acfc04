use Rattle.sml_unify.proofs.Visits.{visited}
use Rattle.sml_unify.proofs.visit.visit.Goals as goal

pub returns : goal.returns
returns c = visited c.args.seen.now.keys c.args.num c.in_ok-first.first c.insert.new.self.keys c.in_ok-first.ensures.added c.in_ok-first.ensures.keys
