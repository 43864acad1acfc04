use Rattle.std.proofs.Common.{sym, subst, length, Some}
use Rattle.std.specs.List.{AllByRecursion}
use Rattle.sml_types.specs.Equality.{IsGreatest}
use Rattle.sml_types.specs.Typing.{made_by, type_numbers, IsTypeBinding, IsDatBinding}
use Rattle.infer_tables.specs.Known.{IsAnswer, Asks}
use Rattle.infer_tables.proofs.nodes.add_node.Goals as goal

pub returns-in_ok-added-in-Type : goal.returns-in_ok-added-in-Type
returns-in_ok-added-in-Type c =
    let p = c.args.bare.now in
    subst
    (λ n. IsAnswer p (λ t. Asks p t n) (length (made_by (Some n))) c.args.types.now c.args.known c.add_types.new.types c.in_ok-added-in-Type.added)
    (sym c.in-Type.is)
    (subst
    (λ bs. IsAnswer p (λ t. AllByRecursion (IsTypeBinding p t) bs) 0 c.args.types.now c.args.known c.add_types.new.types c.in_ok-added-in-Type.added)
    c.items.ensures
    c.in_ok-added-in-Type.ensures)

pub returns-in_ok-added-in-Datatype : goal.returns-in_ok-added-in-Datatype
returns-in_ok-added-in-Datatype c =
    let p = c.args.bare.now in
    subst
    (λ n. IsAnswer p (λ t. Asks p t n) (length (made_by (Some n))) c.args.types.now c.args.known c.add_datatypes.new.types c.in_ok-added-in-Datatype.added)
    (sym c.in-Datatype.is)
    (subst
    (λ bs. IsAnswer p (λ t. AllByRecursion (IsDatBinding p t) bs × IsGreatest t.forms t.names (type_numbers bs)) (length (type_numbers bs)) c.args.types.now c.args.known c.add_datatypes.new.types c.in_ok-added-in-Datatype.added)
    c.items-in-Datatype.ensures
    c.in_ok-added-in-Datatype.ensures)
