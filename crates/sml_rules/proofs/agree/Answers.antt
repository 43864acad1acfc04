use Rattle.sml_rules.proofs.Whole as whole
use Rattle.sml_rules.proofs.agree.Goals as goal

pub returns : goal.returns
returns c = whole.rules_agree
