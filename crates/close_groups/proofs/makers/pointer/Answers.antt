use Rattle.std.proofs.Common.{sym, ap, ◌∙◌}
use Rattle.std.proofs.lemmas.Result.{IfOk-weaker}
use Rattle.close_laws.specs.Close.{none_at_hand}
use Rattle.close_steps.proofs.Found.{found_record, no_record}
use Rattle.close_groups.specs.Group.{pointed}
use Rattle.close_groups.proofs.makers.pointer.Goals as goal

pub returns-in-Some : goal.returns-in-Some
returns-in-Some c = IfOk-weaker c.operand.result _ _ (λ o h. h ∙ sym (ap pointed (found_record _ none_at_hand c.args.class c.in-Some.found (sym c.find.ensures ∙ c.in-Some.is)))) c.operand.ensures

pub returns-in-None : goal.returns-in-None
returns-in-None c = sym (ap pointed (no_record _ none_at_hand c.args.class (sym c.find.ensures ∙ c.in-None.is)))
