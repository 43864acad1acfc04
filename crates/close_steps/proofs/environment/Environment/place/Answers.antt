use Rattle.std.proofs.Common.{sym, ◌∙◌}
use Rattle.std.proofs.lemmas.Result.{IfOk-weaker}
use Rattle.close_steps.proofs.Found.{found_place, no_place}
use Rattle.close_steps.proofs.environment.Environment.place.Goals as goal

pub returns-in-Some : goal.returns-in-Some
returns-in-Some c = IfOk-weaker c.operand.result _ _ (λ o h. h ∙ sym (found_place _ _ c.args.variable c.in-Some.found (sym c.find.ensures ∙ c.in-Some.is))) c.operand.ensures

pub returns-in-None : goal.returns-in-None
returns-in-None c = c.unbound_operand.ensures ∙ sym (no_place _ _ c.args.variable (sym c.find.ensures ∙ c.in-None.is))
