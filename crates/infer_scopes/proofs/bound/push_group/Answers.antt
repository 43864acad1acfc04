use Rattle.std.proofs.Common.{◌++◌, ap, ◌∙◌}
use Rattle.std.specs.Prelude.{map}
use Rattle.std.proofs.lemmas.List.{take_all}
use Rattle.infer_scopes.proofs.ScopeFacts.{group_map}
use Rattle.infer_scopes.proofs.bound.push_group.Goals as goal

pub returns : goal.returns
returns c =
    c.bindings.invariant
    ∙ ap (λ bs. c.args.found.now.items ++ map (λ b. b.name.0) bs) (take_all c.bindings.binding-index c.args.bindings.now c.bindings-test.false)
    ∙ ap (λ l. c.args.found.now.items ++ l) (group_map c.args.bindings.now)
