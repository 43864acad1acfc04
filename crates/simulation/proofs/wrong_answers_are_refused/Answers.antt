use Rattle.simulation.proofs.Refused.{loses_output, never_ends, enters_too_often, keeps_too_much, makes_another, leaves_unnamed}
use Rattle.simulation.proofs.wrong_answers_are_refused.Goals as goal

pub returns : goal.returns
returns c = record { output = loses_output; end = never_ends; entry = enters_too_often; reach = keeps_too_much; block = makes_another; class = leaves_unnamed }
