use Rattle.std.proofs.Common.{rules, IsTrue}
use Rattle.infer_checks.proofs.node.check_exception.Goals as goal

pub returns-then-are_plain-clause-finished : goal.returns-then-are_plain-clause-finished
returns-then-are_plain-clause-finished c forms =
    let plain : IsTrue c.are_plain.result = search rules in (c.are_plain.ensures plain forms).0
