use Rattle.std.proofs.Common.{◌∙◌}
use Rattle.infer_scopes.proofs.ScopeFacts.{numbers_map}
use Rattle.infer_scopes.proofs.bound.type_numbers.Goals as goal

pub returns : goal.returns
returns c = c.in_ok-numbers.ensures ∙ numbers_map c.args.bindings.now
