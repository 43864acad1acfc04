use Rattle.std.proofs.Common.{false, sym, ap, ◌∙◌}
use Rattle.convert_decide.specs.Decide.{item_in}
use Rattle.convert_steps.specs.Rows.{matching_of}
use Rattle.convert_steps.proofs.Matched.{matched_none, matched_first}
use Rattle.convert_steps.proofs.matches.match_on.Goals as goal

pub match_tested-requires : goal.match_tested-requires
match_tested-requires c = record {
  known = c.requires;
  tested = ap matching_of (sym c.cases_at.ensures) ∙ sym c.matching_of.ensures ∙ c.in-Tested.is;
}

pub returns-in-Nothing : goal.returns-in-Nothing
returns-in-Nothing c =
    λ bs.
    matched_none (item_in false c.args.source.own.now) c.args.source.terms.now c.args.world.now bs c.args.term c.args.scope c.args.next c.args.subject c.args.thrown c.args.continuation (ap matching_of (sym c.cases_at.ensures) ∙ sym c.matching_of.ensures ∙ c.in-Nothing.is)

pub returns-in-Chosen : goal.returns-in-Chosen
returns-in-Chosen c =
    λ bs.
    matched_first (item_in false c.args.source.own.now) c.args.source.terms.now c.args.world.now bs c.args.term c.args.scope c.args.next c.args.subject c.args.thrown c.args.continuation (ap matching_of (sym c.cases_at.ensures) ∙ sym c.matching_of.ensures ∙ c.in-Chosen.is)
