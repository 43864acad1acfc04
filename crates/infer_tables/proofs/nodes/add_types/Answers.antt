use Rattle.std.specs.List.{AllByRecursion}
use Rattle.sml_types.specs.Typing.{IsTypeBinding}
use Rattle.infer_tables.proofs.RenewFacts.{renewed_answer}
use Rattle.infer_tables.proofs.nodes.add_types.Goals as goal

pub returns : goal.returns
returns c =
    let p = c.args.bare.now in
    renewed_answer p (λ t. AllByRecursion (IsTypeBinding p t) c.args.bindings.now) 0 c.args.types.now c.renew.new.types c.add_bindings.new.types c.args.known c.in_ok-renewed.renewed c.in_ok-added.added c.in_ok-renewed.ensures c.in_ok-added.ensures
