use Rattle.std.proofs.Common.{false}
use Rattle.convert_decide.specs.Decide.{item_in}
use Rattle.convert_steps.proofs.Matched.{matched_tested}
use Rattle.convert_steps.proofs.matches.match_tested.Goals as goal

pub returns : goal.returns
returns c =
    λ bs.
    matched_tested (item_in false c.args.source.own.now) c.args.source.terms.now c.args.world.now c.begin_rules.new.world bs c.go.new.self c.args.term c.args.scope c.args.next c.args.subject c.args.thrown c.args.continuation c.in_ok-rules.field-0 c.requires.tested c.in_ok-go.ensures.bounds c.in_ok-go.ensures.present c.in_ok-rules.ensures
