use Rattle.std.proofs.Common.{length}
use Rattle.std.specs.List.{AllByRecursion}
use Rattle.sml_types.specs.Equality.{IsGreatest}
use Rattle.sml_types.specs.Typing.{type_numbers, IsDatBinding}
use Rattle.infer_tables.proofs.RenewFacts.{renewed_answer}
use Rattle.infer_tables.proofs.nodes.add_datatypes.Goals as goal

pub returns : goal.returns
returns c =
    let p = c.args.bare.now in
    renewed_answer p (λ t. AllByRecursion (IsDatBinding p t) c.args.bindings.now × IsGreatest t.forms t.names (type_numbers c.args.bindings.now)) (length (type_numbers c.args.bindings.now)) c.args.types.now c.renew.new.types c.add_group.new.types c.args.known c.in_ok-renewed.renewed c.in_ok-added.added c.in_ok-renewed.ensures c.in_ok-added.ensures
