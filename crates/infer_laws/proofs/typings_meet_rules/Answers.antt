use Rattle.infer_laws.proofs.Meets.{typings_meet}
use Rattle.infer_laws.proofs.typings_meet_rules.Goals as goal

pub returns : goal.returns
returns c = λ p forms names settled f t follows. typings_meet p forms names settled f t follows
